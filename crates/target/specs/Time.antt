-- Request K4: "The target is given 0 to 65,535 milliseconds; 0 switches it off. The port layer reports the milliseconds since its last report".
-- `irt` of the transfer is that value, the Initiator Response Timeout; `elapsed` of the record is "the sum", which the ACK of an XFER_RDY (specs/Confirmation `acknowledged_of`)
-- and each DATA frame stored (specs/Arrival `lifted_of`) start from zero.
use Rattle.std.specs.Prelude.{ℕ, ◌+◌, Bool, not, ◌&&◌, leb, ltb, eqb}
use Rattle.status.specs.Pick.{pick, ◌with◌}
use Rattle.status.specs.Entry.{entry_of}
use Rattle.status.specs.Answer.{Word, Said, Left, ◌saying◌, unless}
use Rattle.target.specs.Fields.{elapsed≔}
use Rattle.target.specs.Record.{READY, holds_of, failed_of}
use Rattle.target.specs.declared.types.Target.{Target}

-- "0 switches it off"; "that span": from the ACK of the XFER_RDY, "before the burst is filled"
unfoldable pub runs_of : Target → Bool
runs_of x = not (eqb x.receiver.transfer.irt 0) && eqb x.state READY && ltb x.receiver.filled x.receiver.end

-- "If it reaches the value .. the transfer fails"
unfoldable pub elapsed_of : Target → ℕ → Left Target
elapsed_of x ms =
    pick (leb x.receiver.transfer.irt (x.elapsed + ms)) (failed_of x 33) ((x with elapsed≔ (x.elapsed + ms)) saying Said.word Word.taken)

-- "Time reported outside that span changes nothing"
abbrev pub report_of : Target → ℕ → Left Target
report_of x ms = pick (runs_of x) (elapsed_of x ms) (x saying Said.word Word.unchanged)

-- "33 .. on a report of time only, after 1 and 2"
unfoldable pub time_of : Target → ℕ → Left Target
time_of x ms = unless (entry_of (holds_of x) x.receiver.ended) x (report_of x ms)
