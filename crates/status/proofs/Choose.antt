-- How a value is shown to be the one that `pick` chooses: rules for `search`, which finds the tests among what a place in the code knows.
use mathlib.Core.Bool.{Bool, true, false, not, ◌&&◌, false≢true}
use mathlib.Core.Path.{◌≡◌, refl, sym, ◌∙◌}
use borrow.Author.Tests.{lt-ltb, le-ltb, le-leb, lt-leb, eq-eqb, ne_eqb, not-true, not-false}
use mathlib.Core.List.{List, [], ◌∷◌}
use Rattle.status.specs.Pick.{pick, and_all, all}

pub in_true : {A : Type 0} (t : Bool) (x a b : A) → t ≡ true → x ≡ a → x ≡ pick t a b
unfolding pick
in_true true x a b p q = q
in_true false x a b p q = absurd (false≢true p)

pub in_false : {A : Type 0} (t : Bool) (x a b : A) → t ≡ false → x ≡ b → x ≡ pick t a b
unfolding pick
in_false true x a b p q = absurd (false≢true (sym p))
in_false false x a b p q = q

-- through a callee's result r that equals t
pub via_true : {r t : Bool} → r ≡ t → r ≡ true → t ≡ true
via_true p q = sym p ∙ q

pub via_false : {r t : Bool} → r ≡ t → r ≡ false → t ≡ false
via_false p q = sym p ∙ q

pub and_true : (a b : Bool) → (a && b) ≡ true → (a ≡ true) × (b ≡ true)
and_true true b e = (refl, e)
and_true false b e = absurd (false≢true e)

-- all tests of a list hold: each does
abbrev pub Each : List Bool → Type 0
Each [] = Unit {0}
Each (t ∷ ts) = (t ≡ true) × Each ts

from : (before : Bool) (ts : List Bool) → and_all before ts ≡ true → (before ≡ true) × Each ts
from before [] e = (e, tt)
from before (t ∷ ts) e =
    let r = from (before && t) ts e in
    let b = and_true before t r.0 in
    (b.0, (b.1, r.1))

pub each : (ts : List Bool) → all ts ≡ true → Each ts
each ts e = (from true ts e).1

pub ruleset choose = (refl, in_true, in_false, via_true, via_false, lt-ltb, le-ltb, le-leb, lt-leb, eq-eqb, ne_eqb, not-true, not-false)
