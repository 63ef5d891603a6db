-- Little-endian words, in which the code reads and writes several bytes at once: one definition over the width each.
use Rattle.std.specs.Prelude.{ℕ, zero, suc, ◌+◌, ◌*◌, ◌/◌, ◌%◌, List, [], ◌∷◌, get_or}

-- a number in n bytes, the lowest first
unfoldable pub little : ℕ → ℕ → List ℕ
little zero x = []
little (suc n) x = x % 256 ∷ little n (x / 256)

-- the number that the n bytes of b from i are, the lowest first
unfoldable pub word : List ℕ → ℕ → ℕ → ℕ
word b i zero = 0
word b i (suc n) = get_or b i 0 + 256 * word b (i + 1) n
