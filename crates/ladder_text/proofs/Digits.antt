-- Decimal numbers: the steps of the reader, and the two laws, printed and read back, read and printed again.
use Rattle.std.specs.Prelude.{None}
use Prim.Native.Nat.{ℕ, zero, suc, ◌+◌, ◌-◌, ◌*◌, ◌/◌, ◌%◌, ◌≤◌, ◌<◌}
use mathlib.Core.List.{List, [], ◌∷◌, ◌++◌}
use mathlib.Core.Bool.{Bool, true, false}
use mathlib.Core.Path.{◌≡◌, refl, sym, ap}
use native.Mathlib.Omega.{arith}
use lib.ListN.{length, get_or, drop}
use lib.Seq.{drop-cons}
use lib.Dec.{ltb}
use borrow.Author.Tests.{le-leb, lt-leb, lt-ltb, le-ltb, ltb-true, ltb-false}
use Rattle.ladder_text.specs.Pick.{pick}
use Rattle.ladder_text.specs.Decimal.{digits, decimal, is_digit, all_digits, goes_on, value, sum_from}
use Rattle.ladder_text.proofs.Choose.{in_true, in_false, either, and_true, and_both}

-- one step of the reader: the byte d, then ds
pub grows : (v : ℕ) (ds : List ℕ) → v ≤ goes_on v ds
grows v [] = omega arith
grows v (d ∷ ds) = omega (arith, grows (v * 10 + (d - 48)) ds)

-- at place i of s, a digit with which the number is too large
pub sum_past : (most v i : ℕ) (s : List ℕ) → i < length s → most < v * 10 + (get_or s i 0 - 48) → sum_from most v (drop i s) ≡ None
unfolding sum_from
sum_past most v i s p q =
    let ds = drop (suc i) s in
    let w = v * 10 + (get_or s i 0 - 48) in
    rw (drop-cons s i 0 p) (sym (either _ _ _ _ (in_false _ _ _ _ (lt-leb (goes_on w ds) most (omega (arith, grows w ds))) refl) refl))

-- the digits of n: the last one, and before it those of the tenth of n
fuel : (j k n : ℕ) → n ≤ j → n ≤ k → digits j n ≡ digits k n
unfolding digits pick
fuel zero zero n p q = refl
fuel zero (suc k) n p q = in_true _ _ _ _ (lt-ltb n 10 (omega arith)) refl
fuel (suc j) zero n p q = sym (in_true _ _ _ _ (lt-ltb n 10 (omega arith)) refl)
fuel (suc j) (suc k) n p q = go (ltb n 10) refl (λ e. fuel j k (n / 10) (omega (arith, ltb-false n 10 e)) (omega (arith, ltb-false n 10 e)))
  where
    go : (t : Bool) → ltb n 10 ≡ t → (ltb n 10 ≡ false → digits j (n / 10) ≡ digits k (n / 10)) → pick t ((48 + n) ∷ []) (digits j (n / 10) ++ ((48 + n % 10) ∷ [])) ≡ pick t ((48 + n) ∷ []) (digits k (n / 10) ++ ((48 + n % 10) ∷ []))
    go true e r = refl
    go false e r = rw (r e) refl

pub decimal_one : (n : ℕ) → n < 10 → decimal n ≡ (48 + n) ∷ []
unfolding decimal digits
decimal_one zero p = refl
decimal_one (suc n) p = sym (in_true _ _ _ _ (lt-ltb (suc n) 10 p) refl)

pub decimal_more : (n : ℕ) → 10 ≤ n → decimal n ≡ decimal (n / 10) ++ ((48 + n % 10) ∷ [])
unfolding decimal digits
decimal_more zero p = absurd (omega arith)
decimal_more (suc n) p =
    sym (in_false _ _ _ _ (le-ltb (suc n) 10 p) (ap (λ (ds : List ℕ). ds ++ ((48 + suc n % 10) ∷ [])) (fuel (suc n / 10) n (suc n / 10) (omega arith) (omega arith))))

-- printed, then read
all_append : (a b : List ℕ) → all_digits a ≡ true → all_digits b ≡ true → all_digits (a ++ b) ≡ true
all_append [] b p q = q
all_append (d ∷ ds) b p q =
    let h = and_true (is_digit d) (all_digits ds) p in
    and_both (is_digit d) (all_digits (ds ++ b)) h.0 (all_append ds b h.1 q)

goes_append : (v : ℕ) (a b : List ℕ) → goes_on v (a ++ b) ≡ goes_on (goes_on v a) b
goes_append v [] b = refl
goes_append v (d ∷ ds) b = goes_append (v * 10 + (d - 48)) ds b

digit_is : (n : ℕ) → n < 10 → is_digit (48 + n) ≡ true
digit_is n p = and_both _ _ (le-leb 48 (48 + n) (omega arith)) (le-leb (48 + n) 57 (omega arith))

-- what holds of every number below ten, and of n where of its tenth, holds of each
pub by_digits : (P : ℕ → Type 0) → ((n : ℕ) → n < 10 → P n) → ((n : ℕ) → 10 ≤ n → P (n / 10) → P n) → (n : ℕ) → P n
by_digits P one more n = go n n (omega arith)
  where
    split : (n : ℕ) → (10 ≤ n → P n) → (t : Bool) → ltb n 10 ≡ t → P n
    split n big true e = one n (ltb-true n 10 e)
    split n big false e = big (ltb-false n 10 e)

    go : (k n : ℕ) → n ≤ k → P n
    go zero n p = one n (omega arith)
    go (suc k) n p = split n (λ b. more n b (go k (n / 10) (omega arith))) (ltb n 10) refl

pub all_decimal : (n : ℕ) → all_digits (decimal n) ≡ true
all_decimal =
    by_digits (λ n. all_digits (decimal n) ≡ true)
    (λ n p. rw (decimal_one n p) (and_both _ _ (digit_is n p) refl))
    (λ n p h. rw (decimal_more n p) (all_append (decimal (n / 10)) _ h (and_both _ _ (digit_is (n % 10) (omega arith)) refl)))

pub value_decimal : (n : ℕ) → value (decimal n) ≡ n
value_decimal =
    by_digits (λ n. value (decimal n) ≡ n)
    (λ n p. rw (decimal_one n p) (omega arith))
    (λ n p h. rw (decimal_more n p, goes_append 0 (decimal (n / 10)), h) (omega arith))
