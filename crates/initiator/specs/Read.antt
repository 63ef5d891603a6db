-- A read command at the initiator: arrivals of any bytes, and the nexus loss.
use Rattle.std.specs.Prelude.{ℕ, List, [], ◌∷◌, Bool, true, not, take, drop}
use Rattle.status.specs.Pick.{all, ◌with◌}
use Rattle.status.specs.Entry.{entry_of}
use Rattle.status.specs.Answer.{Said, Left, ◌saying◌, unless}
use Rattle.status.specs.Result.{Result}
use Rattle.status.specs.declared.answer.Opened.{Opened}
use Rattle.frame.specs.XferRdy.{xfer_rdy_of}
use Rattle.frame.specs.Response.{response_iu_of}
use Rattle.frame.specs.declared.types.XferRdy.{XferRdy}
use Rattle.arrival.specs.Accept.{let_in, accept_of}
use Rattle.arrival.specs.declared.Role.TheVariants.{ReadInitiator}
use Rattle.arrival.specs.declared.Class.{Class}
use Rattle.arrival.specs.declared.Arrived.{Arrived}
use Rattle.receiver_steps.specs.Fields.{ended≔}
use Rattle.receiver_steps.specs.Record.{holds_of, failed_of, lent_of}
use Rattle.receiver.specs.DataFrame.{arrival_of}
use Rattle.receiver_steps.specs.declared.types.Receiver.{Receiver}

-- 1 as for the receiving port; the record is a read's
abbrev pub read_tests : Bool → Receiver → List Bool
read_tests ok r = ok ∷ not r.transfer.write ∷ []

unfoldable pub read_holds_of : Receiver → Bool
read_holds_of r = all (read_tests (holds_of r) r)

-- the same, with a data buffer of m bytes
unfoldable pub read_lent_of : Receiver → ℕ → Bool
read_lent_of r m = all (read_tests (lent_of r m) r)

-- 23, 24, then "an XFER_RDY in a read command is 27"
abbrev pub rejected_by : Result XferRdy → Receiver → Left Receiver
rejected_by (Result.number n) r = failed_of r n
rejected_by (Result.value x) r = failed_of r 27

unfoldable pub not_expected_of : Receiver → List ℕ → Left Receiver
not_expected_of r iu = rejected_by (xfer_rdy_of iu) r

-- 32, 34, else "a RESPONSE ends the command", and what its IU says comes back (request K9)
abbrev pub opened_by : Result Opened → Receiver → ℕ → ℕ → Left Receiver
opened_by (Result.number n) r start len = failed_of r n
opened_by (Result.value o) r start len = (r with ended≔ true) saying Said.response start len o 0

unfoldable pub response_of : Receiver → ℕ → ℕ → List ℕ → Left Receiver
response_of r start len iu = opened_by (response_iu_of iu) r start len

-- a frame f that has passed 5 to 8, by what it is taken for, at a buffer of m bytes
abbrev pub taken_of : Class → Receiver → Arrived → List ℕ → ℕ → Left Receiver
taken_of Class.Data r a f m = arrival_of r a.header.offset a.header.flags.cdp a.len m
taken_of Class.XferRdy r a f m = not_expected_of r (take a.len (drop a.start f))
taken_of Class.Response r a f m = response_of r a.start a.len (take a.len (drop a.start f))

abbrev pub arrived_by : Result Arrived → Receiver → List ℕ → ℕ → Left Receiver
arrived_by (Result.number n) r f m = r saying Said.refused n
arrived_by (Result.value a) r f m = taken_of a.class r a f m

-- 1, 2, 5, 6, 7, 8, else the frame
unfoldable pub arrived_frame : Receiver → List ℕ → ℕ → Result Arrived
arrived_frame r f m = let_in (entry_of (read_lent_of r m) r.ended) (accept_of ReadInitiator r.transfer f)

-- "The order is 1, 2, then by event"
unfoldable pub read_arrival_of : Receiver → List ℕ → ℕ → Left Receiver
read_arrival_of r f m = unless (entry_of (read_lent_of r m) r.ended) r (arrived_by (accept_of ReadInitiator r.transfer f) r f m)

-- "31: reported by the port layer"
abbrev pub read_loss_of : Receiver → Left Receiver
read_loss_of r = unless (entry_of (read_holds_of r) r.ended) r (failed_of r 31)
