-- Tests: "the first condition that holds decides".
use Rattle.std.specs.Prelude.{Bool, true, false, ◌&&◌, List, [], ◌∷◌}

-- the first where the test holds, else the second
unfoldable pub pick : {A : Type 0} → Bool → A → A → A
pick true a b = a
pick false a b = b

-- every test of the list holds, and those before it
abbrev pub and_all : Bool → List Bool → Bool
and_all before [] = before
and_all before (t ∷ ts) = and_all (before && t) ts

abbrev pub all : List Bool → Bool
all ts = and_all true ts
