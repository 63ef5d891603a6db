-- Texts, one printed behind the other.
use Prim.Native.Nat.{ℕ, ◌+◌, ◌≤◌}
use mathlib.Core.List.{List, [], ◌∷◌, ◌++◌, append_assoc, append-nil}
use mathlib.Core.Path.{refl}
use native.Mathlib.Omega.{arith}
use lib.ListN.{length, set, length-append}
use Rattle.ladder_text.specs.Place.{Puts}
use Rattle.ladder_text.proofs.Place.{placed_then, placed_byte}

pub puts_byte : (d : List ℕ) (i x : ℕ) → i + 1 ≤ length d → Puts d i (x ∷ []) (i + 1) (set d i x)
puts_byte d i x p = (refl, placed_byte d i x (omega arith))

-- what was printed, one text behind the other
pub ruleset printing = (placed_then, placed_byte, append_assoc, append-nil, length-append)
