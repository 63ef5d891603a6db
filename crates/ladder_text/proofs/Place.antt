-- Texts put down one after the other.
use Prim.Native.Nat.{ℕ, ◌+◌, ◌-◌, ◌≤◌, ◌<◌}
use mathlib.Core.List.{List, [], ◌∷◌, ◌++◌, append_assoc}
use mathlib.Core.Path.{◌≡◌, refl, sym, ap, ◌∙◌}
use native.Mathlib.Numerals.{add-one}
use native.Mathlib.Omega.{arith}
use borrow.Rule.Slice.PartMut.{put_mid, Post-is}
use lib.ListN.{length, take, drop, set, length-append, length-take, length-drop}
use lib.Seq.{length-take-le, take_at, drop-append-add, drop-drop, set_split}
use Rattle.ladder_text.specs.Place.{placed}

pub placed_length : (d : List ℕ) (i : ℕ) (t : List ℕ) → i + length t ≤ length d → length (placed d i t) ≡ length d
unfolding placed
placed_length d i t p = simp (length-append, length-take, length-drop) (omega arith)

-- u right behind t
pub placed_then : (d : List ℕ) (i : ℕ) (t u : List ℕ) → i ≤ length d → placed (placed d i t) (i + length t) u ≡ placed d i (t ++ u)
unfolding placed
placed_then d i t u p =
    let h : List ℕ = take i d ++ t in
    let l : length (take i d) ≡ i = length-take-le i d (omega arith) in
    let m : length h ≡ i + length t = length-append (take i d) t ∙ ap (λ (n : ℕ). n + length t) l in
    let r : List ℕ = drop (i + length t) d in
    let whole : take i d ++ (t ++ r) ≡ h ++ r = sym (append_assoc (take i d) t r) in
    let sums : i + length t + length u ≡ i + length (t ++ u) = omega (arith, length-append t u) in
    let behind : drop (i + length t + length u) (h ++ r) ≡ drop (i + length (t ++ u)) d =
    ap (λ (n : ℕ). drop (n + length u) (h ++ r)) (sym m) ∙ drop-append-add h r (length u) ∙ drop-drop (length u) (i + length t) d ∙ ap (λ (n : ℕ). drop n d) sums in
    rw (whole, take_at h r _ m, behind, append_assoc (take i d) t, append_assoc t u) refl

pub placed_more : (d : List ℕ) (i : ℕ) (t u : List ℕ) → i + length t + length u ≤ length d → placed (placed d i t) (i + length t) u ≡ placed d i (t ++ u)
placed_more d i t u p = placed_then d i t u (omega arith)

-- a byte put down
pub placed_byte : (d : List ℕ) (i x : ℕ) → i < length d → set d i x ≡ placed d i (x ∷ [])
unfolding placed
placed_byte d i x p = rw add-one (set_split d i x p)

-- what a copy of t into the part of d from i on leaves in d
pub copied : (d t : List ℕ) (i : ℕ) → put_mid i (i + length t - i) d t ≡ placed d i t
unfolding placed
copied d t i = ap (λ (l : List ℕ). take i d ++ (t ++ l)) (Post-is i (i + length t) d (omega arith))
