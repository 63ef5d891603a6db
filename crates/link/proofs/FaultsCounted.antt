-- The tally's faults are those that the events add (`faults_counted`).
use Prim.Native.Nat.{ℕ, ◌+◌, ◌≤◌}
use mathlib.Core.List.{List, [], ◌∷◌}
use mathlib.Core.Bool.{Bool, true, false, ◌&&◌}
use mathlib.Core.Path.{◌≡◌, refl, ap, ◌∙◌}
use native.Mathlib.Omega.{arith}
use lib.Dec.{ltb, eqb}
use lib.ListN.{length, length-append}
use borrow.Author.Tests.{eqb-true, eqb-false, le-ltb, lt-ltb}
use Rattle.status.specs.Pick.{pick}
use Rattle.link.specs.Ports.{Ports}
use Rattle.link.specs.Tally.{Confirmation, Tally, cut_fault, timeout_fault}
use Rattle.link.specs.World.{World, Event, Call, ask, arrives, damaged, frame_lost, confirmed, confirmation_lost, timeout, cut, other, step, run, arrives_whole, arrives_damaged, loses_frame, confirms, loses_confirmation, called}
use Rattle.link.specs.Delivers.{fresh}
use Rattle.link.specs.FaultsCounted.{Since, none_yet, unanswered, early, one, first_frame, first_answer, ack_first, fault_of, after, faults_in, bad, bad_in, FaultsCounted}
use Rattle.link.proofs.FaultsAsked.{Stands, Goes, asked}

-- "with frames unanswered": the tally's count and the two counts agree
cut_is : (t : Tally) (c : Since) → c.handed ≡ c.reached + t.unanswered → cut_fault t ≡ one (unanswered c)
unfolding cut_fault pick
cut_is t c h = go (eqb t.unanswered 0) refl
  where
    go : (b : Bool) → eqb t.unanswered 0 ≡ b → pick b 0 1 ≡ one (ltb c.reached c.handed)
    go true e = rw (le-ltb c.reached c.handed (omega (arith, h, eqb-true t.unanswered 0 e))) refl
    go false e = rw (lt-ltb c.reached c.handed (omega (arith, h, eqb-false t.unanswered 0 e))) refl

timeout_is : (t : Tally) (c : Since) → c.handed ≡ c.reached + t.unanswered → c.lost ≡ t.lost → timeout_fault t ≡ one (early c && unanswered c)
unfolding timeout_fault pick
timeout_is t c h l = rw l (go (eqb t.lost 0))
  where
    go : (b : Bool) → pick b (cut_fault t) 0 ≡ one (b && unanswered c)
    go true = cut_is t c h
    go false = refl

-- each event adds at most one
flag : (b : Bool) → one b ≤ 1
flag true = omega arith
flag false = omega arith

first_frame_lem : (fs : List (List ℕ)) → first_frame fs ≤ 1
first_frame_lem [] = omega arith
first_frame_lem (f ∷ fs) = omega arith

ack_first_lem : (rest : List Confirmation) → ack_first rest ≤ 1
ack_first_lem [] = omega arith
ack_first_lem (Confirmation.ack ∷ rest) = omega arith
ack_first_lem (Confirmation.nak ∷ rest) = omega arith

module _ {P : Ports} where
  module _ (w : World P) (c : Since) (s : Stands w c) where
    open s use {conserved, handed, lost}

    whole : (fs : List (List ℕ)) → w.frames ≡ fs → Goes w (arrives_whole w fs) 0 c
    whole [] e = record { faults = omega arith; stands = s }
    whole (f ∷ fs) e =
        record { faults = omega arith; stands = record { conserved = omega (arith, conserved, ap length e, length-append w.confirmations (Confirmation.ack ∷ [])); handed = handed; lost = lost } }

    damages : (fs : List (List ℕ)) → w.frames ≡ fs → Goes w (arrives_damaged w fs) (first_frame fs) c
    damages [] e = record { faults = omega arith; stands = s }
    damages (f ∷ fs) e =
        record { faults = refl; stands = record { conserved = omega (arith, conserved, ap length e, length-append w.confirmations (Confirmation.nak ∷ [])); handed = handed; lost = lost } }

    loses : (fs : List (List ℕ)) → w.frames ≡ fs → Goes w (loses_frame w fs) (first_frame fs) (record { handed = c.handed; reached = c.reached; lost = c.lost + first_frame fs })
    loses [] e = record { faults = omega arith; stands = record { conserved = conserved; handed = handed; lost = omega (arith, lost) } }
    loses (f ∷ fs) e = record { faults = refl; stands = record { conserved = omega (arith, conserved, ap length e); handed = handed; lost = omega (arith, lost) } }

    comes : (rest : List Confirmation) → w.confirmations ≡ rest → Goes w (confirms w rest) 0 (record { handed = c.handed; reached = c.reached + first_answer rest; lost = c.lost })
    comes [] e = record { faults = omega arith; stands = record { conserved = conserved; handed = omega (arith, handed); lost = lost } }
    comes (a ∷ rest) e = record { faults = omega arith; stands = record { conserved = omega (arith, conserved, ap length e); handed = omega (arith, handed, conserved, ap length e); lost = lost } }

    misses : (rest : List Confirmation) → w.confirmations ≡ rest → Goes w (loses_confirmation w rest) (ack_first rest) (record { handed = c.handed; reached = c.reached; lost = c.lost + first_answer rest })
    misses [] e = record { faults = omega arith; stands = record { conserved = conserved; handed = handed; lost = omega (arith, lost) } }
    misses (Confirmation.ack ∷ rest) e = record { faults = refl; stands = record { conserved = omega (arith, conserved, ap length e); handed = handed; lost = omega (arith, lost) } }
    misses (Confirmation.nak ∷ rest) e = record { faults = refl; stands = record { conserved = omega (arith, conserved, ap length e); handed = handed; lost = omega (arith, lost) } }

    calls : (k : Call P) → Goes w (called w k) 0 c
    calls (Call.asking d out) = record { faults = omega arith; stands = s }
    calls (Call.signals g) = record { faults = omega arith; stands = s }
    calls (Call.at_sender k) = record { faults = omega arith; stands = s }
    calls (Call.at_receiver k) = record { faults = omega arith; stands = s }
    calls (Call.at_receiver_in k b) = record { faults = omega arith; stands = s }

    goes : (e : Event P) → Goes w (step w e) (fault_of w e c) (after w e c)
    goes (ask out) = asked w c s (P.ask w.sending w.sent out)
    goes arrives = whole w.frames refl
    goes damaged = damages w.frames refl
    goes frame_lost = loses w.frames refl
    goes confirmed = comes w.confirmations refl
    goes confirmation_lost = misses w.confirmations refl
    goes timeout = record { faults = ap (λ (n : ℕ). w.tally.faults + n) (timeout_is w.tally c handed lost); stands = record { conserved = refl; handed = refl; lost = refl } }
    goes cut = record { faults = ap (λ (n : ℕ). w.tally.faults + n) (cut_is w.tally c handed); stands = record { conserved = refl; handed = refl; lost = refl } }
    goes (other k) = calls k

  exactly : (w : World P) (es : List (Event P)) (c : Since) → Stands w c → (run w es).tally.faults ≡ w.tally.faults + faults_in w es c
  exactly w [] c s = omega arith
  exactly w (e ∷ es) c s =
      let g = goes w c s e in
      exactly (step w e) es (after w e c) g.stands ∙ omega (arith, g.faults)

  at_most : (w : World P) (e : Event P) (c : Since) → fault_of w e c ≤ bad e
  at_most w (ask out) c = omega arith
  at_most w arrives c = omega arith
  at_most w damaged c = first_frame_lem w.frames
  at_most w frame_lost c = first_frame_lem w.frames
  at_most w confirmed c = omega arith
  at_most w confirmation_lost c = ack_first_lem w.confirmations
  at_most w timeout c = flag (early c && unanswered c)
  at_most w cut c = flag (unanswered c)
  at_most w (other k) c = omega arith

  most : (w : World P) (es : List (Event P)) (c : Since) → faults_in w es c ≤ bad_in es
  most w [] c = omega arith
  most w (e ∷ es) c = omega (arith, at_most w e c, most (step w e) es (after w e c))

pub faults_counted : FaultsCounted
faults_counted P s r sent received es =
    let w : World P = fresh P s r sent received in
    let e = exactly w es none_yet (record { conserved = refl; handed = refl; lost = refl }) in
    (e ∙ omega arith, omega (arith, e, most w es none_yet))
