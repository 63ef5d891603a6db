-- Words: the test for a word, and what `find` found.
use Rattle.std.specs.Prelude.{Some, cond, bytes_eq}
use Prim.Native.Nat.{ℕ, ◌<◌}
use mathlib.Core.List.{List, [], ◌∷◌}
use mathlib.Core.Bool.{Bool, true, false, not}
use mathlib.Core.Path.{◌≡◌, refl, sym, ap, subst}
use native.Mathlib.Omega.{arith}
use lib.Dec.{eqb, leb}
use borrow.Author.Tests.{ne_eqb, leb-true}
use Rattle.std.proofs.lemmas.Slice.Eq.{bytes_eq-Decides}
use Rattle.std.proofs.lemmas.Option.{same_Some, none-some}
use Rattle.ladder_text.specs.Text.{free}
use Rattle.ladder_text.specs.Decimal.{decimal, is_digit, all_digits}
use Rattle.ladder_text.specs.Words.{named}
use Rattle.ladder_text.proofs.Choose.{and_true, and_both, and_first}
use Rattle.ladder_text.proofs.Digits.{all_decimal}

abbrev pub Each : {A : Type 0} → (A → Type 0) → List A → Type 0
Each P [] = Unit {0}
Each P (a ∷ rest) = P a × Each P rest

-- a value that was found fits, and b is its word
pub found : {A : Type 0} (word : A → List ℕ) (Fits : A → Type 0) (all : List A) → Each Fits all → (b : List ℕ) (a : A) → named word all b ≡ Some a → Fits a × (word a ≡ b)
found word Fits [] ps b a e = absurd (none-some a e)
found {A} word Fits (x ∷ rest) ps b a e = go (bytes_eq b (word x)) refl e (found word Fits rest ps.1 b a)
  where
    go : (t : Bool) → bytes_eq b (word x) ≡ t → cond t (Some x) (named word rest b) ≡ Some a → (named word rest b ≡ Some a → Fits a × (word a ≡ b)) → Fits a × (word a ≡ b)
    go true p e more =
        let same_value : x ≡ a = same_Some x a e in
        subst (λ (y : A). Fits y × (word y ≡ b)) same_value (ps.0, sym ((bytes_eq-Decides b (word x)).0 p))
    go false p e more = more e

-- digits are no word, and hold no tab and no line feed
pub no_word : (ds : List ℕ) (x : ℕ) (w : List ℕ) → all_digits ds ≡ true → 57 < x → bytes_eq ds (x ∷ w) ≡ false
no_word [] x w p q = refl
no_word (d ∷ ds) x w p q =
    let h = leb-true d 57 (and_true (leb 48 d) (leb d 57) (and_true (is_digit d) (all_digits ds) p).0).1 in
    and_first (eqb d x) (bytes_eq ds w) (ne_eqb d x (λ e. omega arith))

pub free_digits : (c : ℕ) (ds : List ℕ) → c < 48 → all_digits ds ≡ true → free c ds ≡ true
free_digits c [] p q = refl
free_digits c (d ∷ ds) p q =
    let t = and_true (is_digit d) (all_digits ds) q in
    let h = leb-true 48 d (and_true (leb 48 d) (leb d 57) t.0).0 in
    and_both (not (eqb d c)) (free c ds) (ap not (ne_eqb d c (λ e. omega arith))) (free_digits c ds p t.1)

pub free_decimal : (c n : ℕ) → c < 48 → free c (decimal n) ≡ true
free_decimal c n p = free_digits c (decimal n) p (all_decimal n)
