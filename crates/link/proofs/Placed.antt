-- The bytes of a buffer in which a part was put down.
use Prim.Native.Nat.{ℕ, ◌+◌, ◌-◌, ◌≤◌, ◌<◌}
use mathlib.Core.List.{List, ◌++◌}
use mathlib.Core.Path.{◌≡◌, refl, ap, ◌∙◌}
use native.Mathlib.Omega.{arith}
use lib.ListN.{length, get_or, take, drop, get_or-append}
use lib.Seq.{length-take-le, get_or-take, get_or-drop, get_or-append-add}
use Rattle.frame.specs.Write.{placed}

-- behind p, the element j of p ++ q is the one of q
behind : (p q : List ℕ) (n j : ℕ) → length p ≡ n → n ≤ j → get_or (p ++ q) j 0 ≡ get_or q (j - n) 0
behind p q n j l h =
    let e : j ≡ length p + (j - n) = omega arith in
    ap (λ (x : ℕ). get_or (p ++ q) x 0) e ∙ get_or-append-add p q (j - n) 0

module _ (d s : List ℕ) (i : ℕ) (fits : i + length s ≤ length d) where
  front : length (take i d) ≡ i
  front = length-take-le i d (omega arith)

  pub placed_under : (j : ℕ) → j < i → get_or (placed d i s) j 0 ≡ get_or d j 0
  unfolding placed
  placed_under j h =
      let l : j < length (take i d) = omega (arith, front) in
      get_or-append (take i d) (s ++ drop (i + length s) d) 0 j l ∙ get_or-take i d j 0 h

  pub placed_in : (j : ℕ) → i ≤ j → j < i + length s → get_or (placed d i s) j 0 ≡ get_or s (j - i) 0
  unfolding placed
  placed_in j lo hi =
      let l : j - i < length s = omega arith in
      behind (take i d) (s ++ drop (i + length s) d) i j front lo ∙ get_or-append s (drop (i + length s) d) 0 (j - i) l

  pub placed_over : (j : ℕ) → i + length s ≤ j → get_or (placed d i s) j 0 ≡ get_or d j 0
  unfolding placed
  placed_over j h =
      let lo : i ≤ j = omega arith in
      let lo₂ : length s ≤ j - i = omega arith in
      let e : i + length s + (j - i - length s) ≡ j = omega arith in
      behind (take i d) (s ++ drop (i + length s) d) i j front lo
      ∙ behind s (drop (i + length s) d) (length s) (j - i) refl lo₂
      ∙ get_or-drop (i + length s) d (j - i - length s) 0
      ∙ ap (λ (x : ℕ). get_or d x 0) e
