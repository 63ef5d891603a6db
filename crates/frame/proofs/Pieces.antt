-- A copy piece by piece: a piece more, and all of it. Each law is over the piece's length.
use Prim.Native.Nat.{ℕ, ◌+◌, ◌-◌, ◌≤◌, ◌<◌, min}
use mathlib.Core.List.{List, ◌++◌}
use mathlib.Core.Path.{◌≡◌, refl, sym, ap, ◌∙◌}
use native.Mathlib.Decide.{dec_le}
use native.Mathlib.Nat.{zero-add}
use native.Mathlib.Omega.{arith}
use lib.ListN.{length, take, drop, length-drop}
use lib.Seq.{take_all, take-add, drop-drop, length-take-le}
use Rattle.frame.specs.Write.{over, placed}
use Rattle.frame.proofs.Place.{at_front, none_placed, placed_behind}

-- behind m bytes of s from i, at the same place of d, the next n
module _ (s d : List ℕ) (i m n : ℕ) (fits : i + m + n ≤ length s) (within : i ≤ length d) where
  one_more : placed (placed d i (take m (drop i s))) (i + m) (take n (drop (i + m) s)) ≡ placed d i (take (m + n) (drop i s))
  one_more =
      let p = take m (drop i s) in
      let l : length p ≡ m = length-take-le m (drop i s) (rw length-drop (omega arith)) in
      let t = take n (drop (i + m) s) in
      ap (λ (k : ℕ). placed (placed d i p) (i + k) t) (sym l) ∙ placed_behind d p i within t ∙ ap (placed d i) (ap (λ (x : List ℕ). p ++ take n x) (sym (drop-drop m i s)) ∙ sym (take-add m n (drop i s)))

-- of the n bytes of s that go to the front of d, the first i stand in x, which was d
pub record Copied (s d : List ℕ) (n i : ℕ) (x : List ℕ) : Type 0 where
  pub there : n ≤ length s
  pub room : n ≤ length d
  pub within : i ≤ n
  pub size : length x ≡ length d
  pub front : x ≡ placed d 0 (take i s)

-- and fewer than k are left
pub record Left (s d : List ℕ) (n k i : ℕ) (x : List ℕ) : Type 0 where
  pub copied : Copied s d n i x
  pub less : n - i < k

module _ (s d : List ℕ) (n : ℕ) where
  pub none_copied : n ≤ length s → n ≤ length d → Copied s d n 0 d
  none_copied there room = record { there = there; room = room; within = omega arith; size = refl; front = none_placed d 0 }

  -- the bytes from i to j too
  pub further : {i j : ℕ} {x y : List ℕ} → Copied s d n i x → i ≤ j → j ≤ n → length y ≡ length x → y ≡ placed x i (take (j - i) (drop i s)) → Copied s d n j y
  further {i} {j} c more within size put =
      let t = c.there in
      let r = c.room in
      let m = one_more s d 0 i (j - i) (omega arith) (omega arith) in
      let e : i + (j - i) ≡ j = omega arith in
      record { there = t; room = r; within = within; size = size ∙ c.size; front = put ∙ ap (λ (v : List ℕ). placed v i (take (j - i) (drop i s))) c.front ∙ (rw (zero-add, e) at m) }

  -- a step with pieces of w bytes, where fewer than twice as many were left
  pub stepped : (w : ℕ) {i j : ℕ} {x y : List ℕ} → Left s d n (w + w) i x → (i ≤ j) × (j ≤ n) × (y ≡ placed x i (take (j - i) (drop i s))) × (n - i < w + w → n - j < w) → length y ≡ length x → Left s d n w j y
  stepped w l e size = record { copied = further l.copied e.0 e.1 size e.2; less = e.3 l.less }

  -- all of it
  pub whole : {i : ℕ} {x : List ℕ} → n ≡ min (length s) (length d) → Left s d n 1 i x → x ≡ over (take (length d) s) d
  whole {i} {x} e l =
      let c = l.copied in
      let h = c.within in
      let end : i ≡ n = omega (arith, l.less) in
      c.front ∙ at_front (take i s) d ∙ ap (λ (v : List ℕ). over v d) (go (dec_le (length d) (length s)))
    where
      go : Dec (length d ≤ length s) → take i s ≡ take (length d) s
      go (yes p) = let k : i ≡ length d = omega arith in ap (λ (k : ℕ). take k s) k
      go (no p) = take_all i s (omega arith) ∙ sym (take_all (length d) s (omega arith))
