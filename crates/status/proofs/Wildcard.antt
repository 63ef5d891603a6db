-- The last arm of a match, `_ =>`, stands for every kind of answer that no arm before it names; the kit tells them by their tags, in the order of the enum.
use Prim.Native.Nat.{ℕ}
use mathlib.Core.Bool.{Bool, true, false, cond, not}
use mathlib.Core.List.{List, [], ◌∷◌}
use mathlib.Core.Path.{◌≡◌, refl, sym, subst}
use lib.Dec.{T}
use denote.Enum.Declared.{tag_of}
use mir.Val.{has_key}
use types.Run.{OneOf, miss}
use Rattle.status.specs.declared.words.Refusal.{Refusal}
use Rattle.status.specs.declared.words.Failure.{Failure}
use Rattle.status.specs.declared.answer.Part.{Part}
use Rattle.status.specs.declared.answer.Opened.{Opened}
use Rattle.status.specs.declared.answer.Answer.{Answer}
use Rattle.status.specs.declared.answer.Answer.TheVariants.{Refused, Failed, Wait, Frame, Taken, Retry, Unchanged, Delivered, Acknowledged, Discarded, Stored, Received, NextBurst, NextBurstDelivers, Repeated, Response}
use Rattle.status.specs.contracts.answer.Answer.{the_type}

-- of these kinds, those that are not named
abbrev unnamed : List ℕ → List ℕ → List ℕ
unnamed named [] = []
unnamed named (t ∷ ts) = cond (has_key named t) (unnamed named ts) (t ∷ unnamed named ts)

-- the kinds that the arm stands for
abbrev pub but : List ℕ → List ℕ
but named = unnamed named (0 ∷ 1 ∷ 2 ∷ 3 ∷ 4 ∷ 5 ∷ 6 ∷ 7 ∷ 8 ∷ 9 ∷ 10 ∷ 11 ∷ 12 ∷ 13 ∷ 14 ∷ 15 ∷ [])

-- A, where the kind t is one of them
abbrev Asked : List ℕ → ℕ → Type 0 → Type 0
Asked kinds t A = cond (has_key kinds t) A (Unit {0})

asked : (kinds : List ℕ) (t : ℕ) {A : Type 0} → Asked kinds t A → OneOf kinds t → A
asked kinds t {A} p k = go (has_key kinds t) refl p
  where
    go : (b : Bool) → has_key kinds t ≡ b → cond b A (Unit {0}) → A
    go true e p = p
    go false e p = absurd (miss kinds t (subst (λ (x : Bool). T (not x)) (sym e) tt) k)

-- what holds of each kind that is not named holds of an answer of such a kind; nothing is asked of the others
module _ (P : Answer → Type 0) (named : List ℕ)
    (refused : (why : Refusal) → Asked (but named) 0 (P (Refused why))) (failed : (why : Failure) (n : ℕ) → Asked (but named) 1 (P (Failed why n)))
    (wait : Asked (but named) 2 (P Wait)) (frame : (n : ℕ) → Asked (but named) 3 (P (Frame n))) (taken : Asked (but named) 4 (P Taken))
    (retry : Asked (but named) 5 (P Retry)) (unchanged : Asked (but named) 6 (P Unchanged)) (delivered : (n : ℕ) → Asked (but named) 7 (P (Delivered n)))
    (acknowledged : Asked (but named) 8 (P Acknowledged)) (discarded : Asked (but named) 9 (P Discarded)) (stored : Asked (but named) 10 (P Stored))
    (received : Asked (but named) 11 (P Received)) (next : Asked (but named) 12 (P NextBurst)) (delivers : (n : ℕ) → Asked (but named) 13 (P (NextBurstDelivers n)))
    (repeated : Asked (but named) 14 (P Repeated)) (response : (iu : Part) (o : Opened) (n : ℕ) → Asked (but named) 15 (P (Response iu o n))) where
  pub among : (a : Answer) → OneOf (but named) (tag_of the_type a) → P a
  among (Refused why) k = asked (but named) 0 (refused why) k
  among (Failed why n) k = asked (but named) 1 (failed why n) k
  among Wait k = asked (but named) 2 wait k
  among (Frame n) k = asked (but named) 3 (frame n) k
  among Taken k = asked (but named) 4 taken k
  among Retry k = asked (but named) 5 retry k
  among Unchanged k = asked (but named) 6 unchanged k
  among (Delivered n) k = asked (but named) 7 (delivered n) k
  among Acknowledged k = asked (but named) 8 acknowledged k
  among Discarded k = asked (but named) 9 discarded k
  among Stored k = asked (but named) 10 stored k
  among Received k = asked (but named) 11 received k
  among NextBurst k = asked (but named) 12 next k
  among (NextBurstDelivers n) k = asked (but named) 13 (delivers n) k
  among Repeated k = asked (but named) 14 repeated k
  among (Response iu o n) k = asked (but named) 15 (response iu o n) k
