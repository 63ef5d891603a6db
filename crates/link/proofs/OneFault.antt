-- What counts as one fault and what as none, from the definitions of specs/Tally.
use Prim.Native.Nat.{◌+◌}
use mathlib.Core.Path.{◌≡◌, refl}
use native.Mathlib.Omega.{arith}
use borrow.Author.Tests.{eq-eqb, ne_eqb}
use Rattle.status.specs.Pick.{pick}
use Rattle.link.specs.Tally.{Confirmation, Tally, frame_damaged, confirmation_lost_of, cut_fault, timeout_fault}
use Rattle.link.specs.OneFault.{OneFault}

nak_lost : (t : Tally) → (confirmation_lost_of Confirmation.nak (frame_damaged t)).faults ≡ t.faults + 1
nak_lost t = omega arith

cut : (t : Tally) → (t.unanswered ≡ 0 → ⊥) → cut_fault t ≡ 1
unfolding cut_fault pick
cut t h = rw (ne_eqb _ _ h) refl

at_rest : (t : Tally) → t.unanswered ≡ 0 → cut_fault t ≡ 0
unfolding cut_fault pick
at_rest t e = rw (eq-eqb _ _ e) refl

early : (t : Tally) → t.lost ≡ 0 → timeout_fault t ≡ cut_fault t
unfolding timeout_fault pick
early t e = rw (eq-eqb _ _ e) refl

not_early : (t : Tally) → (t.lost ≡ 0 → ⊥) → timeout_fault t ≡ 0
unfolding timeout_fault pick
not_early t h = rw (ne_eqb _ _ h) refl

pub one_fault : OneFault
one_fault =
    record {
      lost = λ t. refl;
      damaged = λ t. refl;
      nak_lost = nak_lost;
      ack_lost = λ t. refl;
      cut = cut;
      early = early;
      at_rest = at_rest;
      not_early = not_early;
      handed = λ t. refl;
      reached = λ t. refl;
    }
