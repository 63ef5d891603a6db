-- Numbers: "decimal"; "leading zeros (but for 0 itself) do not fit". Digits 0 to 9 only: a sign, a blank or a carriage return is no digit.
use Rattle.std.specs.Prelude.{ℕ, zero, suc, ◌+◌, ◌-◌, ◌*◌, ◌/◌, ◌%◌, List, [], ◌∷◌, ◌++◌, Bool, true, ◌&&◌, not, length, get_or, leb, ltb, eqb, Option, None, Some}
use Rattle.ladder_text.specs.Pick.{pick}

-- the digits of n as bytes (that of 0 is 48), found in k steps or fewer; for n, n steps are enough
unfoldable pub digits : ℕ → ℕ → List ℕ
digits zero n = (48 + n) ∷ []
digits (suc k) n = pick (ltb n 10) ((48 + n) ∷ []) (digits k (n / 10) ++ ((48 + n % 10) ∷ []))

unfoldable pub decimal : ℕ → List ℕ
decimal n = digits n n

abbrev pub is_digit : ℕ → Bool
is_digit d = leb 48 d && leb d 57

abbrev pub all_digits : List ℕ → Bool
all_digits [] = true
all_digits (d ∷ ds) = is_digit d && all_digits ds

-- the number v, gone on with further digits
abbrev pub goes_on : ℕ → List ℕ → ℕ
goes_on v [] = v
goes_on v (d ∷ ds) = goes_on (v * 10 + (d - 48)) ds

abbrev pub value : List ℕ → ℕ
value b = goes_on 0 b

-- the number v gone on, where only digits follow and it is at most `most`: any number of digits is read
unfoldable pub sum_from : ℕ → ℕ → List ℕ → Option ℕ
sum_from most v ds = pick (all_digits ds) (pick (leb (goes_on v ds) most) (Some (goes_on v ds)) None) None

-- one byte or more, and no leading zero but for 0 itself
abbrev pub opens : List ℕ → Bool
opens b = pick (ltb 1 (length b)) (not (eqb (get_or b 0 0) 48)) (eqb (length b) 1)

-- the number that b is, where it is one and at most `most`
unfoldable pub number_of : ℕ → List ℕ → Option ℕ
number_of most b = pick (opens b) (sum_from most 0 b) None
