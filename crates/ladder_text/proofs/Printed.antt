-- The digits of a number put down: the last one behind those of its tenth.
use Prim.Native.Nat.{ℕ, ◌+◌, ◌/◌, ◌%◌, ◌≤◌, ◌<◌}
use mathlib.Core.List.{List, [], ◌∷◌}
use mathlib.Core.Path.{◌≡◌, ap, ◌∙◌}
use native.Mathlib.Omega.{arith}
use lib.ListN.{length, set, length-append}
use Rattle.ladder_text.specs.Decimal.{decimal}
use Rattle.ladder_text.specs.Place.{placed}
use Rattle.ladder_text.proofs.Digits.{decimal_one, decimal_more}
use Rattle.ladder_text.proofs.Place.{placed_length, placed_more, placed_byte}

pub one_long : (n : ℕ) → n < 10 → length (decimal n) ≡ 1
one_long n p = ap length (decimal_one n p)

pub more_long : (n : ℕ) → 10 ≤ n → length (decimal n) ≡ length (decimal (n / 10)) + 1
more_long n p = ap length (decimal_more n p) ∙ length-append (decimal (n / 10)) ((48 + n % 10) ∷ [])

pub put_one : (d : List ℕ) (i n : ℕ) → n < 10 → i + length (decimal n) ≤ length d → (i + 1 ≡ i + length (decimal n)) × (set d i (48 + n) ≡ placed d i (decimal n))
put_one d i n p room = (omega (arith, one_long n p), rw (decimal_one n p) (placed_byte d i (48 + n) (omega (arith, one_long n p))))

pub put_more : (d e : List ℕ) (i n q : ℕ) → 10 ≤ n → i + length (decimal n) ≤ length d → q ≡ i + length (decimal (n / 10)) → e ≡ placed d i (decimal (n / 10)) → (q + 1 ≡ i + length (decimal n)) × (set e q (48 + n % 10) ≡ placed d i (decimal n))
put_more d e i n q p room at down =
    let l = more_long n p in
    let k : length e ≡ length d = ap length down ∙ placed_length d i (decimal (n / 10)) (omega arith) in
    (omega arith, placed_byte e q (48 + n % 10) (omega arith) ∙ (rw (down, at, decimal_more n p) (placed_more d i (decimal (n / 10)) ((48 + n % 10) ∷ []) (omega arith))))

pub ruleset printed = (one_long, more_long, put_one, put_more)
