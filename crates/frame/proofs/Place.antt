-- A copy into a part of a buffer, and copies one after the other.
use Prim.Native.Nat.{ℕ, ◌+◌, ◌-◌, ◌≤◌}
use mathlib.Core.List.{List, [], ◌++◌, append_assoc}
use mathlib.Core.Path.{◌≡◌, refl, sym, ap, ◌∙◌}
use native.Mathlib.Nat.{zero-add, add-zero, add_assoc}
use native.Mathlib.Omega.{arith}
use lib.ListN.{length, take, drop, length-append, length-drop, take-append-drop}
use lib.Seq.{take-length, take_all, length-take-le, drop-append-le, drop-append-add, drop-append_seam, drop-drop, take_at, drop_at}
use borrow.Rule.Slice.PartMut.{put_mid, mid_of, mid_len}
use Rattle.frame.specs.Write.{over, placed}

-- what a copy of s into the part of d from a to e leaves in d
pub copied : (d s : List ℕ) (a e : ℕ) → a + length s ≤ e → e ≤ length d → put_mid a (e - a) d (take (length s) s ++ drop (length s) (mid_of a (e - a) d)) ≡ placed d a s
unfolding placed
copied d s a e fits within =
    let n = length s in
    let l = drop a d in
    let room : n ≤ length (take (e - a) l) = omega (arith, mid_len a e d within) in
    let rest : drop n (take (e - a) l) ++ drop (e - a) l ≡ drop (a + n) d =
    sym (drop-append-le n (take (e - a) l) (drop (e - a) l) room) ∙ ap (λ (x : List ℕ). drop n x) (take-append-drop (e - a) l) ∙ drop-drop n a d in
    rw (take-length s, append_assoc s, rest) refl

-- the same of n bytes and a part that is as long
pub put_in : (d s t : List ℕ) (a n : ℕ) → t ≡ s → length t ≡ n → put_mid a ((a + n) - a) d t ≡ placed d a s
unfolding placed
put_in d s t a n e l =
    let k : (a + n) - a ≡ length s = omega (arith, ap length e) in
    rw (k, drop-drop (length s) a d, e) refl

-- the same of a copy that goes as far as the part reaches
pub copied_over : (d s : List ℕ) (a e : ℕ) → a + length s ≤ e → e ≤ length d → put_mid a (e - a) d (over (take (length (mid_of a (e - a) d)) s) (mid_of a (e - a) d)) ≡ placed d a s
unfolding over
copied_over d s a e fits within =
    let m = mid_of a (e - a) d in
    let r : length s ≤ length m = omega (arith, mid_len a e d within) in
    rw (take_all (length m) s r, ← copied d s a e fits within, take-length s) refl

-- s right behind f
behind : (f r s : List ℕ) (n : ℕ) → length f ≡ n → placed (f ++ r) n s ≡ f ++ (s ++ drop (length s) r)
unfolding placed
behind f r s n e = rw (take_at f r n e, ← e, drop-append-add f r (length s)) refl

module _ (d s : List ℕ) (i : ℕ) (within : i ≤ length d) where
  abbrev rest : List ℕ
  rest = drop (i + length s) d

  front_length : length (take i d ++ s) ≡ i + length s
  front_length = length-append (take i d) s ∙ ap (λ (n : ℕ). n + length s) (length-take-le i d within)

  parts : placed d i s ≡ take i d ++ s ++ rest
  unfolding placed
  parts = sym (append_assoc (take i d) s rest)

  -- what stands before s stays, and what stands behind it
  pub before_stays : take i (placed d i s) ≡ take i d
  unfolding placed
  before_stays = take_at (take i d) (s ++ rest) i (length-take-le i d within)

  pub behind_stays : drop (i + length s) (placed d i s) ≡ drop (i + length s) d
  behind_stays = ap (λ (x : List ℕ). drop (i + length s) x) parts ∙ drop_at (take i d ++ s) rest (i + length s) front_length

  -- s put down twice
  pub placed_twice : placed (placed d i s) i s ≡ placed d i s
  unfolding placed
  placed_twice = behind (take i d) (s ++ rest) s i (length-take-le i d within) ∙ ap (λ (x : List ℕ). take i d ++ (s ++ x)) (drop-append_seam s rest)

  -- t right behind s
  pub placed_behind : (t : List ℕ) → placed (placed d i s) (i + length s) t ≡ placed d i (s ++ t)
  unfolding placed
  placed_behind t =
      let e : placed (take i d ++ s ++ rest) (i + length s) t ≡ take i d ++ s ++ (t ++ drop (length t) rest) = behind (take i d ++ s) rest t (i + length s) front_length in
      ap (λ (x : List ℕ). placed x (i + length s) t) parts ∙ e ∙ rw (drop-drop (length t) (i + length s) d, append_assoc (take i d) s, append_assoc s t, length-append s t, add_assoc i (length s) (length t)) refl

  pub placed_length : i + length s ≤ length d → length (placed d i s) ≡ length d
  placed_length fits = ap length parts ∙ length-append (take i d ++ s) rest ∙ omega (arith, front_length, length-drop (i + length s) d)

-- p at the front of d is p in d at place 0
pub at_front : (p d : List ℕ) → placed d 0 p ≡ over p d
unfolding placed over
at_front p d = simp zero-add

-- p put down before s
pub placed_before : (p s d : List ℕ) (i : ℕ) → length p ≡ i → i ≤ length d → placed (placed d i s) 0 p ≡ placed d 0 (p ++ s)
unfolding placed
placed_before p s d i e within = rw (zero-add, zero-add, e, drop_at (take i d) (s ++ drop (i + length s) d) i (length-take-le i d within), length-append p s, e, append_assoc p s) refl

-- nothing put down
pub none_placed : (d : List ℕ) (i : ℕ) → d ≡ placed d i []
unfolding placed
none_placed d i = sym (take-append-drop i d) ∙ ap (λ (k : ℕ). take i d ++ drop k d) (sym (add-zero i))
