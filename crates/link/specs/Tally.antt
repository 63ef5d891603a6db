-- What is counted of one sending port, in the paper's words and not by its record: unanswered, lost, faults.
use Rattle.std.specs.Prelude.{ℕ, ◌+◌, ◌-◌, eqb}
use Rattle.status.specs.Pick.{pick}

-- the paper's answer on the way: an ACK or a NAK
pub data Confirmation : Type 0 where
  ack nak : Confirmation

pub record Tally : Type 0 where
  -- since the last timeout or cut: handed out less the confirmations that reached the sending port; frames and confirmations lost
  pub unanswered : ℕ
  pub lost : ℕ
  pub faults : ℕ

abbrev pub nothing : Tally
nothing = record { unanswered = 0; lost = 0; faults = 0 }

abbrev pub handed_out : Tally → Tally
handed_out t = record { unanswered = t.unanswered + 1; lost = t.lost; faults = t.faults }

-- "A fault is a frame lost, damaged or whose answer is lost (one per frame)"
abbrev pub frame_lost_of : Tally → Tally
frame_lost_of t = record { unanswered = t.unanswered; lost = t.lost + 1; faults = t.faults + 1 }

abbrev pub frame_damaged : Tally → Tally
frame_damaged t = record { unanswered = t.unanswered; lost = t.lost; faults = t.faults + 1 }

abbrev pub confirmation_reached : Tally → Tally
confirmation_reached t = record { unanswered = t.unanswered - 1; lost = t.lost; faults = t.faults }

-- a damaged frame was counted when its NAK joined
abbrev pub confirmation_fault : Confirmation → ℕ
confirmation_fault ack = 1
confirmation_fault nak = 0

abbrev pub confirmation_lost_of : Confirmation → Tally → Tally
confirmation_lost_of a t = record { unanswered = t.unanswered; lost = t.lost + 1; faults = t.faults + confirmation_fault a }

-- "or a cut or early timeout with frames unanswered (one, what it clears not counted again)"
unfoldable pub cut_fault : Tally → ℕ
cut_fault t = pick (eqb t.unanswered 0) 0 1

-- "Early: no frame or answer was lost since the last timeout or cut"
unfoldable pub timeout_fault : Tally → ℕ
timeout_fault t = pick (eqb t.lost 0) (cut_fault t) 0

-- after an end of the connection that is so many faults
abbrev pub closed : ℕ → Tally → Tally
closed fault t = record { unanswered = 0; lost = 0; faults = t.faults + fault }
