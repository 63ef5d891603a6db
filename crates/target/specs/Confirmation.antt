-- ACK, NAK, timeout, cut and nexus loss at the target's XFER_RDY.
use Rattle.std.specs.Prelude.{ℕ, ◌+◌, false, ltb, eqb}
use Rattle.status.specs.Pick.{pick, ◌with◌}
use Rattle.status.specs.Entry.{Entry, entry_of, confirmable_of}
use Rattle.status.specs.Answer.{Word, Said, Left, ◌saying◌, unless}
use Rattle.receiver_steps.specs.Fields.{expected≔, filled≔, waiting≔}
use Rattle.target.specs.Fields.{receiver≔, state≔, retries≔, elapsed≔}
use Rattle.target.specs.Record.{UNANSWERED, AGAIN, READY, holds_of, failed_of}
use Rattle.target.specs.declared.types.Target.{Target}

-- "At its ACK, expected offset and filled mark are the burst's base"; request K4: "The sum starts from zero at the ACK of an XFER_RDY"
abbrev pub acknowledged_of : Target → Target
acknowledged_of x =
    x with receiver≔ (x.receiver with expected≔ x.receiver.base with filled≔ x.receiver.base with waiting≔ false) with state≔ READY with elapsed≔ 0

-- "After NAK, timeout or cut it is sent again within the limit"
abbrev pub retried_of : Target → Target
retried_of x = x with state≔ AGAIN with retries≔ (x.retries + 1)

-- "28, 29, 30: retry limit used up"; with retries off the first NAK, timeout or cut fails
unfoldable pub retry_of : Target → ℕ → Left Target
retry_of x cause = pick (ltb x.retries x.receiver.transfer.limit) (retried_of x saying Said.word Word.retry) (failed_of x cause)

-- 1, 2, then 4
unfoldable pub confirms_of : Target → Entry
confirms_of x = confirmable_of (holds_of x) x.receiver.ended (eqb x.state UNANSWERED)

abbrev pub ack_of : Target → Left Target
ack_of x = unless (confirms_of x) x (acknowledged_of x saying Said.word Word.acknowledged)

abbrev pub nak_of : Target → Left Target
nak_of x = unless (confirms_of x) x (retry_of x 28)

abbrev pub timeout_of : Target → Left Target
timeout_of x = unless (confirms_of x) x (retry_of x 29)

-- "A cut with none changes nothing"
abbrev pub cut_step_of : Target → Left Target
cut_step_of x = pick (eqb x.state UNANSWERED) (retry_of x 30) (x saying Said.word Word.unchanged)

abbrev pub cut_of : Target → Left Target
cut_of x = unless (entry_of (holds_of x) x.receiver.ended) x (cut_step_of x)

-- "31: reported by the port layer"
abbrev pub loss_of : Target → Left Target
loss_of x = unless (entry_of (holds_of x) x.receiver.ended) x (failed_of x 31)
