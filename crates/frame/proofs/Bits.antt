-- Byte 10: what the shifts and masks come to, and that TLR CONTROL and the flags come back.
use Prim.Native.Nat.{ℕ, zero, suc, ◌+◌, ◌*◌, ◌/◌, ◌%◌, ◌^◌, ◌<◌}
use mathlib.Core.Bool.{Bool, true, false}
use mathlib.Core.Path.{◌≡◌, refl}
use lib.Bits.{bit_or, or_shifted}
use lib.Dec.{eqb}
use native.Mathlib.Omega.{arith}
use mir.Val.{bool_byte}
use Rattle.frame.specs.Format.{bit, flag_byte, flags_of}
use Rattle.frame.specs.declared.types.Flags.{Flags}

pub bit_small : (a : Bool) → bit a < 2
bit_small true = omega arith
bit_small false = omega arith

bit_back : (a : Bool) (x : ℕ) → x ≡ bit a → eqb x 1 ≡ a
bit_back true x e = rw e
bit_back false x e = rw e

as_bit : (a : Bool) → bool_byte a ≡ bit a
as_bit true = refl
as_bit false = refl

-- a number below 2 to the power k set in below a multiple of it
or_adds : (x y p k : ℕ) → x ≡ p * 2 ^ k → y < 2 ^ k → bit_or x y ≡ x + y
or_adds x y p k e small = rw e (or_shifted p k y small)

pub built : (t : ℕ) (a b c : Bool) → t < 4 → bit_or (bit_or (bit_or (t * 8 % 256) (bool_byte a * 4 % 256)) (bool_byte b * 2 % 256)) (bool_byte c) ≡ t * 8 + bit a * 4 + bit b * 2 + bit c
built t a b c small =
    let p = bit_small a in
    let q = bit_small b in
    let r = bit_small c in
    let h : t * 8 % 256 ≡ t * 8 = omega arith in
    let i : bit a * 4 % 256 ≡ bit a * 4 = omega arith in
    let j : bit b * 2 % 256 ≡ bit b * 2 = omega arith in
    rw (as_bit a, as_bit b, as_bit c, h, i, j, or_adds (t * 8) (bit a * 4) t 3 refl (omega arith), or_adds (t * 8 + bit a * 4) (bit b * 2) (t * 2 + bit a) 2 (omega arith) (omega arith), or_adds (t * 8 + bit a * 4 + bit b * 2) (bit c) (t * 4 + bit a * 2 + bit b) 1 (omega arith) (omega arith))

pub flags_back : (f : Flags) → f.tlr < 4 → flags_of (flag_byte f) ≡ f
unfolding flag_byte flags_of
flags_back f small =
    let p = bit_small f.retry in
    let q = bit_small f.retransmit in
    let r = bit_small f.cdp in
    let t : flag_byte f / 8 % 4 ≡ f.tlr = omega arith in
    λ i. record { tlr = t i; retry = bit_back f.retry (flag_byte f / 4 % 2) (omega arith) i; retransmit = bit_back f.retransmit (flag_byte f / 2 % 2) (omega arith) i; cdp = bit_back f.cdp (flag_byte f % 2) (omega arith) i }

bit_of : (x : ℕ) → x < 2 → bit (eqb x 1) ≡ x
bit_of zero p = refl
bit_of (suc zero) p = refl
bit_of (suc (suc x)) p = absurd (omega arith)

three : (x : ℕ) → x / 4 % 2 * 4 + x / 2 % 2 * 2 + x % 2 ≡ x % 8
three x =
    let q : x / 4 ≡ x / 2 / 2 = omega arith in
    let e : x / 8 ≡ x / 4 / 2 = omega arith in
    omega arith

five : (x y : ℕ) → y ≡ x % 8 → x / 8 % 4 % 4 * 8 + y ≡ x % 32
five x y e = let q : x / 32 ≡ x / 8 / 4 = omega arith in omega arith

pub byte_back : (x : ℕ) → flag_byte (flags_of x) ≡ x % 32
unfolding flag_byte flags_of
byte_back x =
    let l = five x _ (three x) in
    rw (bit_of (x / 4 % 2) (omega arith), bit_of (x / 2 % 2) (omega arith), bit_of (x % 2) (omega arith)) (omega arith)
