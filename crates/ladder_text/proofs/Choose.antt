-- How a value is shown to be the one that `pick` chooses.
use mathlib.Core.Bool.{Bool, true, false, ◌&&◌, false≢true}
use mathlib.Core.Path.{◌≡◌, refl, sym, ◌∙◌}
use mathlib.Core.List.{List, [], ◌∷◌}
use Prim.Native.Nat.{ℕ}
use lib.Dec.{eqb}
use borrow.Author.Tests.{eq-eqb}
use Rattle.ladder_text.specs.Pick.{pick, and_all, all}

pub in_true : {A : Type 0} (t : Bool) (x a b : A) → t ≡ true → x ≡ a → x ≡ pick t a b
unfolding pick
in_true true x a b p q = q
in_true false x a b p q = absurd (false≢true p)

pub in_false : {A : Type 0} (t : Bool) (x a b : A) → t ≡ false → x ≡ b → x ≡ pick t a b
unfolding pick
in_false true x a b p q = absurd (false≢true (sym p))
in_false false x a b p q = q

-- both arms are x
pub either : {A : Type 0} (t : Bool) (x a b : A) → x ≡ a → x ≡ b → x ≡ pick t a b
unfolding pick
either true x a b p q = p
either false x a b p q = q

-- a callee's number r, and a test for n
pub this_number : {A : Type 0} {r k : ℕ} (n : ℕ) {x a : A} (b : A) → r ≡ k → r ≡ n → x ≡ a → x ≡ pick (eqb k n) a b
this_number n b p q e = in_true _ _ _ _ (eq-eqb _ n (sym p ∙ q)) e

pub and_true : (a b : Bool) → (a && b) ≡ true → (a ≡ true) × (b ≡ true)
and_true true b e = (refl, e)
and_true false b e = absurd (false≢true e)

pub and_both : (a b : Bool) → a ≡ true → b ≡ true → (a && b) ≡ true
and_both true b p q = q
and_both false b p q = p

pub and_first : (a b : Bool) → a ≡ false → (a && b) ≡ false
and_first true b p = absurd (false≢true (sym p))
and_first false b p = refl

-- all tests of a list hold: each does
abbrev pub EachHolds : List Bool → Type 0
EachHolds [] = Unit {0}
EachHolds (t ∷ ts) = (t ≡ true) × EachHolds ts

from : (before : Bool) (ts : List Bool) → and_all before ts ≡ true → (before ≡ true) × EachHolds ts
from before [] e = (e, tt)
from before (t ∷ ts) e =
    let r = from (before && t) ts e in
    let b = and_true before t r.0 in
    (b.0, (b.1, r.1))

pub each : (ts : List Bool) → all ts ≡ true → EachHolds ts
each ts e = (from true ts e).1
