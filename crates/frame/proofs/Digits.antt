-- Big-endian numbers, one law over the width each: written and read back, read and written again.
use Prim.Native.Nat.{ℕ, zero, suc, ◌+◌, ◌*◌, ◌/◌, ◌%◌, ◌^◌, ◌<◌}
use mathlib.Core.List.{List, [], ◌∷◌, ◌++◌, append_assoc}
use mathlib.Core.Path.{◌≡◌, refl, ap, ◌∙◌}
use native.Mathlib.Nat.{pow-suc, zero-add}
use native.Mathlib.Omega.{arith}
use lib.ListN.{length, get_or, length-append}
use lib.Seq.{get_or_at}
use Rattle.frame.specs.Format.{digits, field}
use Rattle.frame.specs.Reserved.{bytes_at}
use Rattle.frame.specs.RoundTrip.{Bytes}

pub digits_length : (n x : ℕ) → length (digits n x) ≡ n
digits_length zero x = refl
digits_length (suc n) x = simp (length-append, digits_length n (x / 256)) (omega arith)

pub field_digits : (n x : ℕ) (r : List ℕ) → x < 256 ^ n → field (digits n x ++ r) 0 n ≡ x
field_digits zero x r b = omega arith
field_digits (suc n) x r fits =
    let y = x / 256 in
    let small : y < 256 ^ n = omega (arith, pow-suc 256 n) in
    let b = digits n y ++ (x % 256 ∷ r) in
    let whole : field ((digits n y ++ (x % 256 ∷ [])) ++ r) 0 (suc n) ≡ field b 0 n * 256 + get_or b (0 + n) 0 = ap (λ (v : List ℕ). field v 0 (suc n)) (append_assoc (digits n y) (x % 256 ∷ []) r) in
    let front : field b 0 n ≡ y = field_digits n y (x % 256 ∷ r) small in
    let last : get_or b (0 + n) 0 ≡ x % 256 = rw zero-add (get_or_at (digits n y) (x % 256) r 0 n (digits_length n y)) in
    whole ∙ omega (arith, front, last)

pub digits_field : (b : List ℕ) → Bytes b → (i n : ℕ) → digits n (field b i n) ≡ bytes_at b i n
digits_field b small i zero = refl
digits_field b small i (suc n) =
    let y = field b i n in
    let d : (y * 256 + get_or b (i + n) 0) / 256 ≡ y = omega (arith, small (i + n)) in
    let m : (y * 256 + get_or b (i + n) 0) % 256 ≡ get_or b (i + n) 0 = omega (arith, small (i + n)) in
    rw (d, m, digits_field b small i n) refl

pub field_fits : (b : List ℕ) → Bytes b → (i n : ℕ) → field b i n < 256 ^ n
field_fits b small i zero = omega arith
field_fits b small i (suc n) = omega (arith, pow-suc 256 n, field_fits b small i n, small (i + n))
