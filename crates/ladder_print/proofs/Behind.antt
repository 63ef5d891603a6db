-- Text put down behind text, at the front of a buffer.
use Rattle.std.specs.Prelude.{Option, Some, None}
use Prim.Native.Nat.{ℕ, ◌+◌, ◌≤◌, ◌<◌}
use mathlib.Core.Bool.{Bool, true, false}
use mathlib.Core.List.{List, [], ◌++◌}
use mathlib.Core.Path.{◌≡◌, refl, sym, ap, subst, ◌∙◌}
use native.Mathlib.Nat.{zero-add}
use native.Mathlib.Omega.{arith}
use lib.ListN.{length, take, drop, length-append}
use lib.Seq.{take_at}
use borrow.Author.Tests.{leb-true, leb-false}
use Rattle.ladder_text.specs.Place.{placed, Puts, Placed, has_room}
use Rattle.ladder_text.specs.Pick as text
use Rattle.ladder_text.proofs.Place.{placed_length, placed_more}

-- ── what a public printer answers: the place behind the text, or that there is no room ──
pub put_room : (d : List ℕ) (at : ℕ) (t : List ℕ) {p : Option ℕ} {n : ℕ} {e : List ℕ} → Placed d at t p e → p ≡ Some n → (at + 64 ≤ length d) × Puts d at t n e
unfolding text.pick
put_room d at t {p} {n} {e} q h = go (has_room (length d) at) refl q.0 q.1
  where
    go : (b : Bool) → has_room (length d) at ≡ b → p ≡ text.pick b (Some (at + length t)) None → e ≡ text.pick b (placed d at t) d → (at + 64 ≤ length d) × Puts d at t n e
    go true f a l = let same : Some n ≡ Some (at + length t) = sym h ∙ a in (leb-true (at + 64) (length d) f, (cc, l))
    go false f a l = let none : Some n ≡ None = sym h ∙ a in absurd cc

pub put_short : (d : List ℕ) (at : ℕ) (t : List ℕ) {p : Option ℕ} {e : List ℕ} → Placed d at t p e → p ≡ None → length d < at + 64
unfolding text.pick
put_short d at t {p} {e} q h = go (has_room (length d) at) refl q.0
  where
    go : (b : Bool) → has_room (length d) at ≡ b → p ≡ text.pick b (Some (at + length t)) None → length d < at + 64
    go true f a = let some : None ≡ Some (at + length t) = sym h ∙ a in absurd cc
    go false f a = leb-false (at + 64) (length d) f

-- another text that is the same
pub puts_as : (d : List ℕ) (i : ℕ) {t u : List ℕ} {n : ℕ} {e : List ℕ} → t ≡ u → Puts d i t n e → Puts d i u n e
puts_as d i {n = n} {e = e} p h = subst (λ (v : List ℕ). Puts d i v n e) p h

-- t stands at the front of what was d
pub record Front (d t : List ℕ) (at : ℕ) (e : List ℕ) : Type 0 where
  pub place : at ≡ length t
  pub is : e ≡ placed d 0 t

pub front_none : (d : List ℕ) → Front d [] 0 d
unfolding placed
front_none d = record { place = refl; is = refl }

pub front_length : {d t : List ℕ} {at : ℕ} {e : List ℕ} → Front d t at e → at ≤ length d → length e ≡ length d
front_length {d} {t} f m = ap length f.is ∙ placed_length d 0 t (omega (arith, f.place))

-- u right behind t
pub front_more : {d t : List ℕ} {at : ℕ} {e : List ℕ} (u : List ℕ) {n : ℕ} {c : List ℕ} → Front d t at e → at + length u ≤ length d → Puts e at u n c → Front d (t ++ u) n c
front_more {d} {t} {at} {e} u {n} {c} f m h =
    record {
      place = h.0 ∙ ap (λ (v : ℕ). v + length u) f.place ∙ sym (length-append t u);
      is = h.1 ∙ (λ i. placed (f.is i) (at_is i) u) ∙ placed_more d 0 t u (omega (arith, f.place));
    }
  where
    at_is : at ≡ 0 + length t
    at_is = omega (arith, f.place)

-- all of it is the text's
pub front_puts : {d t : List ℕ} {at : ℕ} {e : List ℕ} → Front d t at e → Puts d 0 t at e
front_puts {d} {t} f = (f.place ∙ sym (zero-add (length t)), f.is)

-- the front of what was d
pub front_taken : {d t : List ℕ} {at : ℕ} {e : List ℕ} → Front d t at e → take at e ≡ t
unfolding placed
front_taken {d} {t} {at} {e} f = ap (λ (v : List ℕ). take at v) f.is ∙ take_at t (drop (0 + length t) d) at (sym f.place)
