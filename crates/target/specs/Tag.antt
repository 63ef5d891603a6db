-- "A TPTT is the lowest number from 0 that is not in use; earlier tags leave use when DATA is stored under a later one."
use Rattle.std.specs.Prelude.{ℕ, zero, suc, List, [], ◌∷◌, Bool, true, false, ◌||◌, length, eqb}
use Rattle.status.specs.Pick.{pick}

unfoldable pub member : ℕ → List ℕ → Bool
member n [] = false
member n (x ∷ l) = eqb n x || member n l

-- the first number from n on that is not in l, looking at k more at most
unfoldable pub search : List ℕ → ℕ → ℕ → ℕ
search l zero n = n
search l (suc k) n = pick (member n l) (search l k (suc n)) n

-- the lowest number from 0 that is not in l: of length l + 1 numbers one is not
unfoldable pub lowest : List ℕ → ℕ
lowest l = search l (length l) 0

-- the tags in use: the one under which DATA was last stored, if any, and every tag handed out since, of which there are n;
-- DATA is stored only under the tag that was last handed out, since any other is 8
unfoldable pub used : Bool → ℕ → ℕ → List ℕ
used true under zero = under ∷ []
used false under zero = []
used stored under (suc n) = lowest (used stored under n) ∷ used stored under n
