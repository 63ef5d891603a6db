-- The frames of a burst by number, for any size from 1 on: where each begins, and how many there are.
use Prim.Native.Nat.{ℕ, suc, ◌+◌, ◌-◌, ◌*◌, ◌/◌, min, ◌≤◌, ◌<◌}
use mathlib.Core.Path.{◌≡◌}
use native.Mathlib.Nat.{suc-mul, zero-mul, mul-le-mul_left, mul-le-mul_right, lt_of_mul-lt-mul_right, div-add-mod', mod-lt}
use native.Mathlib.Omega.{arith}

module _ (base end size : ℕ) where
  -- frame i begins inside the burst
  abbrev pub Inside : ℕ → Type 0
  Inside i = base + i * size < end

  -- where frame i begins; the end, past the last one
  abbrev pub at : ℕ → ℕ
  at i = min (base + i * size) end

  abbrev pub room : ℕ → ℕ
  room i = min size (end - at i)

  -- as many as a faultless transfer needs
  abbrev pub needed : ℕ
  needed = (end - base + (size - 1)) / size

module _ (base end size : ℕ) (z : 1 ≤ size) where
  pub at_first : base ≤ end → at base end size 0 ≡ base
  at_first h = omega (arith, zero-mul size)

  pub at_next : (i : ℕ) → Inside base end size i → at base end size (suc i) ≡ at base end size i + room base end size i
  at_next i h = omega (arith, suc-mul i size)

  pub at_least : (i : ℕ) → base ≤ end → base ≤ at base end size i
  at_least i h = omega arith

  pub at_most : (i : ℕ) → at base end size i ≤ end
  at_most i = omega arith

  pub at_below : (i : ℕ) → Inside base end size i → at base end size i < end
  at_below i h = omega arith

  pub at_mono : (i j : ℕ) → i ≤ j → at base end size i ≤ at base end size j
  at_mono i j h = omega (arith, mul-le-mul_right {m = i} {n = j} size h)

  pub inside_mono : (i j : ℕ) → i ≤ j → Inside base end size j → Inside base end size i
  inside_mono i j h p = omega (arith, mul-le-mul_right {m = i} {n = j} size h)

  pub inside_at : (i : ℕ) → (at base end size i ≡ end → ⊥) → Inside base end size i
  inside_at i h = omega arith

  pub room_some : (i : ℕ) → Inside base end size i → 0 < room base end size i
  room_some i h = omega arith

  pub room_fits : (i : ℕ) → Inside base end size i → at base end size i + room base end size i ≤ end
  room_fits i h = omega arith

  -- the burst is no longer than the frames that it needs
  covered : end - base ≤ needed base end size * size
  covered =
      let x = end - base + (size - 1) in
      omega (arith, div-add-mod' x size, mod-lt x {m = size} (omega arith))

  pub inside_needed : (i : ℕ) → Inside base end size i → i < needed base end size
  inside_needed i h = lt_of_mul-lt-mul_right size (omega (arith, covered))

  pub needed_most : needed base end size ≤ end - base + (size - 1)
  needed_most =
      let x = end - base + (size - 1) in
      let n = needed base end size in
      omega (arith, div-add-mod' x size, mul-le-mul_left n z)
