-- Tests, with which the definitions of all crates say "the first condition that holds decides".
use Rattle.std.specs.Prelude.{Bool, true, false, ◌&&◌, List, [], ◌∷◌}
use Rattle.std.proofs.Math.Option.{Option, none, some}

-- the first where the test holds, else the second
unfoldable pub pick : {A : Type 0} → Bool → A → A → A
pick true a b = a
pick false a b = b

-- f of the value where there is one, else b
module _ {ℓ} {A : Type 0} {B : Type ℓ} where
  abbrev pub if_any : Option A → (A → B) → B → B
  if_any (some a) f b = f a
  if_any none f b = b

-- every test of the list holds, and those before it
abbrev pub and_all : Bool → List Bool → Bool
and_all before [] = before
and_all before (t ∷ ts) = and_all (before && t) ts

abbrev pub all : List Bool → Bool
all ts = and_all true ts

-- a record with some fields set anew, each by its setter: `s with nak≔ false with ended≔ true`
infixl 2 ◌with◌
abbrev pub ◌with◌ : {A : Type 0} → A → (A → A) → A
x with set = set x
