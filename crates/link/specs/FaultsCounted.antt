-- Faults of every list, counted a second time from what the events do: "A fault is a frame lost, damaged or whose answer is lost (one per frame), or a cut or early timeout
-- with frames unanswered (one, what it clears not counted again)". Proved in proofs/FaultsCounted.antt.
use Rattle.std.specs.Prelude.{ℕ, ◌+◌, ◌≤◌, List, [], ◌∷◌, Bool, true, false, ◌&&◌, ◌≡◌, ltb, eqb}
use Rattle.status.specs.Pick.{if_any}
use Rattle.status.specs.Answer.{view}
use Rattle.link.specs.Ports.{Ports}
use Rattle.link.specs.Tally.{Confirmation}
use Rattle.link.specs.World.{World, Event, ask, arrives, damaged, frame_lost, confirmed, confirmation_lost, timeout, cut, other, step, run}
use Rattle.link.specs.Delivers.{fresh}

-- since the last timeout or cut: frames handed out, answers that reached the sending port, frames and answers lost
pub record Since : Type 0 where
  pub handed : ℕ
  pub reached : ℕ
  pub lost : ℕ

abbrev pub none_yet : Since
none_yet = record { handed = 0; reached = 0; lost = 0 }

-- "unanswered: handed out since then, less the answers that reached the sending port"
abbrev pub unanswered : Since → Bool
unanswered c = ltb c.reached c.handed

-- "Early: no frame or answer was lost since the last timeout or cut"
abbrev pub early : Since → Bool
early c = eqb c.lost 0

abbrev pub one : Bool → ℕ
one true = 1
one false = 0

-- the first frame, if any, is lost or damaged: one fault
abbrev pub first_frame : List (List ℕ) → ℕ
first_frame [] = 0
first_frame (f ∷ fs) = 1

-- an answer is lost, if any
abbrev pub first_answer : List Confirmation → ℕ
first_answer [] = 0
first_answer (a ∷ rest) = 1

-- "one per frame": a damaged frame was counted before its NAK is lost
abbrev pub ack_first : List Confirmation → ℕ
ack_first [] = 0
ack_first (Confirmation.ack ∷ rest) = 1
ack_first (Confirmation.nak ∷ rest) = 0

module _ {P : Ports} where
  -- what an event at w adds
  abbrev pub fault_of : World P → Event P → Since → ℕ
  fault_of w damaged c = first_frame w.frames
  fault_of w frame_lost c = first_frame w.frames
  fault_of w confirmation_lost c = ack_first w.confirmations
  fault_of w timeout c = one (early c && unanswered c)
  fault_of w cut c = one (unanswered c)
  fault_of w (ask out) c = 0
  fault_of w arrives c = 0
  fault_of w confirmed c = 0
  fault_of w (other k) c = 0

  abbrev pub after : World P → Event P → Since → Since
  after w (ask out) c = if_any (view (P.ask w.sending w.sent out).says).frame (λ n. record { handed = c.handed + 1; reached = c.reached; lost = c.lost }) c
  after w frame_lost c = record { handed = c.handed; reached = c.reached; lost = c.lost + first_frame w.frames }
  after w confirmed c = record { handed = c.handed; reached = c.reached + first_answer w.confirmations; lost = c.lost }
  after w confirmation_lost c = record { handed = c.handed; reached = c.reached; lost = c.lost + first_answer w.confirmations }
  after w timeout c = none_yet
  after w cut c = none_yet
  after w arrives c = c
  after w damaged c = c
  after w (other k) c = c

  abbrev pub faults_in : World P → List (Event P) → Since → ℕ
  faults_in w [] c = 0
  faults_in w (e ∷ es) c = fault_of w e c + faults_in (step w e) es (after w e c)

  -- losses, damages, cuts and timeouts of a list
  abbrev pub bad : Event P → ℕ
  bad damaged = 1
  bad frame_lost = 1
  bad confirmation_lost = 1
  bad timeout = 1
  bad cut = 1
  bad (ask out) = 0
  bad arrives = 0
  bad confirmed = 0
  bad (other k) = 0

  abbrev pub bad_in : List (Event P) → ℕ
  bad_in [] = 0
  bad_in (e ∷ es) = bad e + bad_in es

-- after any list, allowed or not, between any two ports: the faults are exactly those, and at most the losses, damages, cuts and timeouts
abbrev pub FaultsCounted : Type 1
FaultsCounted =
    (P : Ports) (s : P.Sending) (r : P.Receiving) (sent received : List ℕ) (es : List (Event P)) →
    let w : World P = fresh P s r sent received in ((run w es).tally.faults ≡ faults_in w es none_yet) × ((run w es).tally.faults ≤ bad_in es)
