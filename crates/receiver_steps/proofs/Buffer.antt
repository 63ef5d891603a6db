-- What a step leaves in the data buffer.
use Prim.Native.Nat.{ℕ, ◌+◌, ◌≤◌}
use mathlib.Core.Bool.{Bool, true, false, cond}
use mathlib.Core.List.{List}
use mathlib.Core.Path.{◌≡◌, refl, ap}
use native.Mathlib.Omega.{arith}
use lib.ListN.{length, length-append, length-take, length-drop}
use Rattle.status.specs.Pick.{pick}
use Rattle.status.specs.Answer.{Said, stores}
use Rattle.frame.specs.Write.{placed}
use Rattle.receiver_steps.specs.DataFrame.{storing}

-- stored, the burst filled with it or not
pub put_down : (t : Bool) (offset : ℕ) (iu d : List ℕ) → storing (pick t Said.received Said.stored) offset iu d ≡ placed d offset iu
unfolding pick
put_down true offset iu d = refl
put_down false offset iu d = refl

pub placed_length : (d : List ℕ) (offset : ℕ) (iu : List ℕ) → offset + length iu ≤ length d → length (placed d offset iu) ≡ length d
unfolding placed
placed_length d offset iu h = simp (length-append, length-take, length-drop) (omega arith)

-- what is not stored changes no byte
pub storing_none : (a : Said) → stores a ≡ false → (offset : ℕ) (iu d : List ℕ) → storing a offset iu d ≡ d
storing_none a e offset iu d = ap (λ (t : Bool). cond t (placed d offset iu) d) e
