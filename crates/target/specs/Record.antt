-- The target's record in a write command: the XFER_RDY's state, the tests of number 1, failure, set_up.
use Rattle.std.specs.Prelude.{ℕ, List, [], ◌∷◌, Bool, true, false, ◌||◌, leb, ltb, eqb}
use Rattle.status.specs.Pick.{pick, all, ◌with◌}
use Rattle.status.specs.Answer.{Said, Left, ◌saying◌}
use Rattle.status.specs.Result.{Result, granted}
use Rattle.transfer.specs.Limits.{limits_hold}
use Rattle.transfer.specs.declared.Transfer.{Transfer}
use Rattle.receiver_steps.specs.Fields.{ended≔}
use Rattle.receiver_steps.specs.Record.{beginning}
use Rattle.receiver_steps.specs.Record as receiver
use Rattle.target.specs.Fields.{receiver≔, state≔}
use Rattle.target.specs.declared.types.Target.{Target}

-- the XFER_RDY's state: none was handed out yet; its confirmation is due; it is to be sent again; it had its ACK
abbrev pub NONE : ℕ
NONE = 0

abbrev pub UNANSWERED : ℕ
UNANSWERED = 1

abbrev pub AGAIN : ℕ
AGAIN = 2

abbrev pub READY : ℕ
READY = 3

-- 1 as for the receiving port; the record is a write's; one of the four states; "write burst 1 to the byte count", once an XFER_RDY was handed out; retries at most
-- the limit; tags handed out since a store at most 16, the greatest retry limit and one; milliseconds counted at most the Initiator Response Timeout.
-- `tptt` is the tag of the XFER_RDY handed out last; `stored`, `under`: DATA was stored, last under that tag; `since`: tags handed out since; `elapsed`: see specs/Time
unfoldable pub tests : Target → List Bool
tests x =
    receiver.holds_of x.receiver ∷ x.receiver.transfer.write ∷
    leb x.state READY ∷ (eqb x.state NONE || ltb x.receiver.base x.receiver.end) ∷
    leb x.retries x.receiver.transfer.limit ∷ leb x.since 16 ∷ leb x.elapsed x.receiver.transfer.irt ∷ []

unfoldable pub holds_of : Target → Bool
holds_of x = all (tests x)

-- "failures that end the port": nothing is unanswered then
abbrev pub failed_of : Target → ℕ → Left Target
failed_of x n =
    (x with receiver≔ (x.receiver with ended≔ true) with state≔ (pick (eqb x.state UNANSWERED) AGAIN x.state)) saying Said.failed n 0

-- no XFER_RDY is handed out yet: an empty burst at 0, filled
abbrev pub start_of : Transfer → Target
start_of t = record { receiver = beginning t 0 0; state = NONE; tptt = 0; retries = 0; stored = false; under = 0; since = 0; elapsed = 0 }

abbrev pub set_up_tests : Transfer → List Bool
set_up_tests t = limits_hold t ∷ t.write ∷ []

abbrev pub set_up_write_of : Transfer → Result Target
set_up_write_of t = granted (all (set_up_tests t)) (start_of t)
