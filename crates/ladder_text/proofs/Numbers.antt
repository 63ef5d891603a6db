-- The two laws of numbers.
use Rattle.std.specs.Prelude.{None, Some}
use Prim.Native.Nat.{ℕ, ◌+◌, ◌-◌, ◌*◌, ◌/◌, ◌%◌, ◌≤◌, ◌<◌}
use mathlib.Core.List.{List, [], ◌∷◌, ◌++◌, append_assoc, append-nil}
use mathlib.Core.Bool.{Bool, true, false, not, false≢true}
use mathlib.Core.Path.{◌≡◌, refl, sym, ap, ◌∙◌}
use native.Mathlib.Omega.{arith}
use lib.ListN.{length, get_or, get_or-append}
use lib.Dec.{leb, ltb, eqb}
use borrow.Author.Tests.{le-leb, leb-true, lt-ltb, ne_eqb, eqb-false, not-true}
use Rattle.ladder_text.specs.Pick.{pick}
use Rattle.ladder_text.specs.Decimal.{decimal, is_digit, all_digits, goes_on, value, sum_from, opens, number_of}
use Rattle.ladder_text.specs.Laws.{Numbers}
use Rattle.ladder_text.proofs.Choose.{in_true, in_false, and_true}
use Rattle.ladder_text.proofs.Digits.{decimal_one, decimal_more, by_digits, all_decimal, value_decimal}
use Rattle.ladder_text.proofs.Printed.{one_long, more_long}

pub some_digit : (n : ℕ) → 0 < length (decimal n)
some_digit = by_digits (λ n. 0 < length (decimal n)) (λ n p. omega (arith, one_long n p)) (λ n p h. omega (arith, more_long n p))

-- no leading zero
leading : (n : ℕ) → 1 ≤ n → 48 < get_or (decimal n) 0 0
leading =
    by_digits (λ n. 1 ≤ n → 48 < get_or (decimal n) 0 0)
    (λ n p q. rw (decimal_one n p) (omega arith))
    (λ n p h q. rw (decimal_more n p, get_or-append (decimal (n / 10)) ((48 + n % 10) ∷ []) 0 0 (some_digit (n / 10))) (h (omega arith)))

opens_decimal : (n : ℕ) → opens (decimal n) ≡ true
opens_decimal =
    by_digits (λ n. opens (decimal n) ≡ true)
    (λ n p. rw (decimal_one n p) (sym (in_false _ _ _ _ refl refl)))
    (λ n p h. sym (in_true _ _ _ _ (lt-ltb 1 (length (decimal n)) (omega (arith, more_long n p, some_digit (n / 10)))) (sym (ap not (ne_eqb (get_or (decimal n) 0 0) 48 (λ e. omega (arith, leading n (omega arith))))))))

reads_back : (most n : ℕ) → n ≤ most → number_of most (decimal n) ≡ Some n
unfolding number_of sum_from
reads_back most n p =
    let v = value_decimal n in
    sym (in_true _ _ _ _ (opens_decimal n) (in_true _ _ _ _ (all_decimal n) (in_true _ _ _ _ (le-leb (value (decimal n)) most (omega arith)) (ap Some (sym v)))))

-- read, then printed
is_digit_lem : (d : ℕ) → is_digit d ≡ true → (48 ≤ d) × (d ≤ 57)
is_digit_lem d e =
    let h = and_true (leb 48 d) (leb d 57) e in
    (leb-true 48 d h.0, leb-true d 57 h.1)

going_on : (v : ℕ) (ds : List ℕ) → 1 ≤ v → all_digits ds ≡ true → decimal (goes_on v ds) ≡ decimal v ++ ds
going_on v [] p q = sym (append-nil (decimal v))
going_on v (d ∷ ds) p q =
    let h = and_true (is_digit d) (all_digits ds) q in
    let r = is_digit_lem d h.0 in
    let w = v * 10 + (d - 48) in
    let tenth : w / 10 ≡ v = omega arith in
    let last : 48 + w % 10 ≡ d = omega arith in
    going_on w ds (omega arith) h.1 ∙ (rw (decimal_more w (omega arith), tenth, last, append_assoc (decimal v)) refl)

decimal_value : (b : List ℕ) → opens b ≡ true → all_digits b ≡ true → decimal (value b) ≡ b
unfolding pick
decimal_value [] p q = absurd (false≢true p)
decimal_value (d ∷ []) p q =
    let r = is_digit_lem d (and_true (is_digit d) true q).0 in
    let same : 48 + (0 * 10 + (d - 48)) ≡ d = omega arith in
    decimal_one (0 * 10 + (d - 48)) (omega arith) ∙ ap (λ (x : ℕ). x ∷ []) same
decimal_value (d ∷ e ∷ ds) p q =
    let h = and_true (is_digit d) (all_digits (e ∷ ds)) q in
    let r = is_digit_lem d h.0 in
    let n : d ≡ 48 → ⊥ = eqb-false d 48 (not-true (eqb d 48) (in_true (ltb 1 (length (d ∷ e ∷ ds))) (not (eqb d 48)) (not (eqb d 48)) (eqb (length (d ∷ e ∷ ds)) 1) (lt-ltb 1 (length (d ∷ e ∷ ds)) (omega arith)) refl ∙ p)) in
    let same : 48 + (0 * 10 + (d - 48)) ≡ d = omega arith in
    going_on (0 * 10 + (d - 48)) (e ∷ ds) (omega (arith, n)) h.1 ∙ ap (λ (x : List ℕ). x ++ (e ∷ ds)) (decimal_one (0 * 10 + (d - 48)) (omega arith) ∙ ap (λ (x : ℕ). x ∷ []) same)

prints_again : (most : ℕ) (b : List ℕ) (n : ℕ) → number_of most b ≡ Some n → (n ≤ most) × (decimal n ≡ b)
unfolding number_of sum_from pick
prints_again most b n e = go (opens b) (all_digits b) (leb (value b) most) refl refl refl e
  where
    go : (t u w : Bool) → opens b ≡ t → all_digits b ≡ u → leb (value b) most ≡ w → pick t (pick u (pick w (Some (value b)) None) None) None ≡ Some n → (n ≤ most) × (decimal n ≡ b)
    go true true true p q r e =
        let v : value b ≡ n = cc in
        (omega (arith, leb-true (value b) most r), ap decimal (sym v) ∙ decimal_value b p q)
    go true true false p q r e = absurd cc
    go true false w p q r e = absurd cc
    go false u w p q r e = absurd cc

pub numbers : Numbers
numbers most = record { back = reads_back most; again = prints_again most }
