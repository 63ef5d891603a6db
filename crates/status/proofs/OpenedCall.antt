-- What a call that is not refused with 1, 2 or 4 knows, and that an ended record is refused.
use mathlib.Core.Bool.{Bool, true, false}
use mathlib.Core.Path.{◌≡◌, refl, sym, ap, ◌∙◌}
use native.Mathlib.Omega.{arith}
use Prim.Native.Nat.{ℕ}
use Rattle.status.specs.Pick.{pick}
use Rattle.status.specs.Entry.{entry_of, confirmable_of}
use Rattle.status.specs.Number.{refusal_number}
use Rattle.status.specs.Answer.{Left, unless, refused, ◌saying◌}
use Rattle.status.specs.declared.words.Refusal.{Refusal}
use Rattle.status.specs.declared.words.Refusal.TheVariants.{BadRequest, TransferEnded}
use Rattle.status.specs.Entry.{Entry}
use Rattle.std.specs.Prelude.{Ok, Err}

-- two values that differ
pub differ : {A : Type 0} → ◌≡◌ {A = ℕ} 0 1 → A
differ e = absurd (omega arith)

pub opened : (ok ended : Bool) → (Ok tt) ≡ entry_of ok ended → (ok ≡ true) × (ended ≡ false)
unfolding entry_of pick
opened true false e = (refl, refl)
opened true true e = differ (cc)
opened false ended e = differ (cc)

pub confirmed : (ok ended some : Bool) → (Ok tt) ≡ confirmable_of ok ended some → (ok ≡ true) × (ended ≡ false) × (some ≡ true)
unfolding confirmable_of entry_of pick
confirmed true false true e = (refl, refl, refl)
confirmed true false false e = differ (cc)
confirmed true true some e = differ (cc)
confirmed false ended some e = differ (cc)

pub open_entry : (ok ended : Bool) → ok ≡ true → ended ≡ false → entry_of ok ended ≡ (Ok tt)
unfolding entry_of pick
open_entry ok ended e f = rw (e, f)

pub open_confirmable : (ok ended some : Bool) → ok ≡ true → ended ≡ false → some ≡ true → confirmable_of ok ended some ≡ (Ok tt)
unfolding confirmable_of entry_of pick
open_confirmable ok ended some e f g = rw (e, f, g)

-- an entry e that was tested by a callee's bool
pub entry_is : (ended : Bool) {ok t : Bool} {e x : Entry} → ok ≡ t → e ≡ entry_of ok ended → e ≡ x → entry_of t ended ≡ x
entry_is ended p q r = ap (λ (b : Bool). entry_of b ended) (sym p) ∙ sym q ∙ r

pub confirmable_is : (ended some : Bool) {ok t : Bool} {e x : Entry} → ok ≡ t → e ≡ confirmable_of ok ended some → e ≡ x → confirmable_of t ended some ≡ x
confirmable_is ended some p q r = ap (λ (b : Bool). confirmable_of b ended some) (sym p) ∙ sym q ∙ r

-- an ended record: 1 or 2, whatever is asked of it
closed : (ok ended : Bool) → ended ≡ true → (why : Refusal) × (entry_of ok ended ≡ Err why)
unfolding entry_of pick
closed true ended e = (TransferEnded, rw e)
closed false ended e = (BadRequest, refl)

pub ended_entry : {X : Type 0} (ok ended : Bool) (x : X) (y : Left X) → ended ≡ true → (n : ℕ) × (unless (entry_of ok ended) x y ≡ (x saying refused n))
ended_entry ok ended x y e = let c = closed ok ended e in (refusal_number c.0, rw c.1)

pub ended_confirmable : {X : Type 0} (ok ended some : Bool) (x : X) (y : Left X) → ended ≡ true → (n : ℕ) × (unless (confirmable_of ok ended some) x y ≡ (x saying refused n))
unfolding confirmable_of
ended_confirmable ok ended some x y e = let c = closed ok ended e in (refusal_number c.0, rw c.1)

-- a well-formed record that has ended: 2
pub two_entry : {X : Type 0} (ok ended : Bool) (x : X) (y : Left X) → ok ≡ true → ended ≡ true → unless (entry_of ok ended) x y ≡ (x saying refused 2)
unfolding entry_of pick
two_entry ok ended x y e f = rw (e, f)

pub two_confirmable : {X : Type 0} (ok ended some : Bool) (x : X) (y : Left X) → ok ≡ true → ended ≡ true → unless (confirmable_of ok ended some) x y ≡ (x saying refused 2)
unfolding confirmable_of entry_of pick
two_confirmable ok ended some x y e f = rw (e, f)
