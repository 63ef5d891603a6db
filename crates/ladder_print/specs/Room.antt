-- Text printed where there is room for it.
use Rattle.std.specs.Prelude.{ℕ, ◌+◌, ◌≤◌, ◌<◌, List, ◌≡◌, length, replicate, leb, Option, Some, None}
use Rattle.status.specs.Pick.{pick}
use Rattle.ladder_text.specs.Place.{ROOM, placed, Puts}
use Rattle.ladder_print.specs.Text.{TEXT-MOST}

-- asked to print t into d, the printer answers r and leaves e: t at the front of d, the rest unchanged; where d has not `ROOM` bytes more than t, zeros
pub record PrintsIfRoom (t d : List ℕ) (r : Option ℕ) (e : List ℕ) : Type 0 where
  pub answer : r ≡ pick (leb (length t + ROOM) (length d)) (Some (length t)) None
  pub left : e ≡ pick (leb (length t + ROOM) (length d)) (placed d 0 t) (replicate (length d) 0)

-- t was tried in d, line by line: a text that is answered stands there; without room for a line nothing is said of what is left
pub record Tries (t d : List ℕ) (r : Option ℕ) (e : List ℕ) : Type 0 where
  pub text : (n : ℕ) → r ≡ Some n → Puts d 0 t n e × (n ≤ TEXT-MOST)
  pub short : r ≡ None → (length d < TEXT-MOST) × (length d < length t + ROOM)
