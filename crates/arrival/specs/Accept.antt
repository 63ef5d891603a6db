-- "5, 6, 7, 8 for arrivals": any bytes at any role.
use Rattle.std.specs.Prelude.{ℕ, List, not, ◌||◌, eqb, Option, Some, None, Ok, Err}
use Rattle.status.specs.Pick.{pick}
use Rattle.status.specs.Entry.{Entry}
use Rattle.status.specs.Number.{refusal_number}
use Rattle.status.specs.Result.{Result}
use Rattle.frame.specs.Format.{DATA, XFER-RDY, RESPONSE}
use Rattle.frame.specs.Read.{decode}
use Rattle.frame.specs.declared.types.Parsed.{Parsed}
use Rattle.transfer.specs.declared.Transfer.{Transfer}
use Rattle.arrival.specs.declared.Role.{Role}
use Rattle.arrival.specs.declared.Role.TheVariants.{ReadInitiator, WriteInitiator, WriteTarget, ReadTarget}
use Rattle.arrival.specs.declared.Class.{Class}
use Rattle.arrival.specs.declared.Class.TheVariants.{Data, XferRdy, Response}
use Rattle.arrival.specs.declared.Arrived.{Arrived}

-- "The initiator takes read DATA, XFER_RDY and RESPONSE; the target takes write DATA"; "DATA against the command's direction is 6"
unfoldable pub class_of : Role → ℕ → Option Class
class_of ReadInitiator frametype = pick (eqb frametype DATA) (Some Data) (pick (eqb frametype XFER-RDY) (Some XferRdy) (pick (eqb frametype RESPONSE) (Some Response) None))
class_of WriteInitiator frametype = pick (eqb frametype XFER-RDY) (Some XferRdy) (pick (eqb frametype RESPONSE) (Some Response) None)
class_of WriteTarget frametype = pick (eqb frametype DATA) (Some Data) None
class_of ReadTarget frametype = None

-- "7: a hashed address differs": the destination is this port, the source the other one; "8: tag differs"
abbrev pub addressed : Transfer → Class → Parsed → Result Arrived
addressed t class p =
    pick (not (eqb p.header.dest t.local) || not (eqb p.header.source t.remote)) (Result.number 7)
    (pick (not (eqb p.header.tag t.tag)) (Result.number 8)
    (Result.value (record { class = class; header = p.header; start = p.start; len = p.len })))

abbrev pub by_class : Option Class → (Class → Result Arrived) → Result Arrived
by_class None by = Result.number 6
by_class (Some k) by = by k

-- "6: not one this role takes"
unfoldable pub screen_of : Transfer → Option Class → Parsed → Result Arrived
screen_of t class p = by_class class (λ k. addressed t k p)

abbrev pub screened : Result Parsed → Role → Transfer → Result Arrived
screened (Result.number n) role t = Result.number n
screened (Result.value p) role t = screen_of t (class_of role p.header.frametype) p

unfoldable pub accept_of : Role → Transfer → List ℕ → Result Arrived
accept_of role t f = screened (decode f) role t

-- the frame, where the call is let in
abbrev pub let_in : Entry → Result Arrived → Result Arrived
let_in (Ok u) a = a
let_in (Err why) a = Result.number (refusal_number why)
