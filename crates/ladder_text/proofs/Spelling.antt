-- The two laws of the words.
use Rattle.std.specs.Prelude.{Option, None, Some, option_map}
use Prim.Native.Nat.{ℕ, zero, suc, ◌<◌}
use mathlib.Core.List.{List}
use mathlib.Core.Bool.{true}
use mathlib.Core.Path.{◌≡◌, refl, ◌∙◌}
use Rattle.std.specs.Option.{option_or}
use native.Mathlib.Omega.{arith}
use Rattle.ladder_text.specs.Pick.{pick}
use Rattle.ladder_text.specs.Text.{free}
use Rattle.ladder_text.specs.Decimal.{decimal, number_of}
use Rattle.ladder_text.specs.Words.{MOST, named, all_directions, all_fates, all_outcomes, word_receipts, direction_word, direction_of, fate_number, fate_at, fate_word, fate_of, receipt_word, receipt_of, outcome_word, outcome_of}
use Rattle.ladder_text.specs.Laws.{Any, Directions, Fates, FateNumbers, Outcomes, ReceiptFits, Receipts}
use Rattle.ladder_text.specs.declared.types.Direction.{Direction}
use Rattle.ladder_text.specs.declared.types.Direction.TheVariants.{Read, Write}
use Rattle.ladder_text.specs.declared.types.Fate.{Fate}
use Rattle.ladder_text.specs.declared.types.Fate.TheVariants.{Ok, Noack, Bad, Nonak, Lost}
use Rattle.ladder_text.specs.declared.types.Receipt.{Receipt}
use Rattle.ladder_text.specs.declared.types.Receipt.TheVariants as receipt
use Rattle.ladder_text.specs.declared.types.Outcome.{Outcome}
use Rattle.ladder_text.specs.declared.types.Outcome.TheVariants.{Delivered, Failed}
use Rattle.ladder_text.proofs.Digits.{all_decimal}
use Rattle.ladder_text.proofs.Named.{found, no_word, free_decimal}
use Rattle.ladder_text.proofs.Numbers.{numbers}

direction_back : (d : Direction) → direction_of (direction_word d) ≡ Some d
unfolding direction_of pick
direction_back Read = refl
direction_back Write = refl

pub directions : Directions
unfolding direction_of
directions =
    record {
      back = λ d u. direction_back d;
      again = found direction_word Any all_directions (tt, (tt, tt));
    }

fate_back : (f : Fate) → fate_of (fate_word f) ≡ Some f
unfolding fate_of pick
fate_back Ok = refl
fate_back Noack = refl
fate_back Bad = refl
fate_back Nonak = refl
fate_back Lost = refl

pub fates : Fates
unfolding fate_of
fates =
    record {
      back = λ f u. fate_back f;
      again = found fate_word Any all_fates (tt, (tt, (tt, (tt, (tt, tt)))));
    }

number_back : (f : Fate) → fate_at (fate_number f) ≡ f
number_back Ok = refl
number_back Noack = refl
number_back Bad = refl
number_back Nonak = refl
number_back Lost = refl

at_number : (n : ℕ) → n < 5 → fate_number (fate_at n) ≡ n
at_number zero p = refl
at_number (suc zero) p = refl
at_number (suc (suc zero)) p = refl
at_number (suc (suc (suc zero))) p = refl
at_number (suc (suc (suc (suc zero)))) p = refl
at_number (suc (suc (suc (suc (suc n))))) p = absurd (omega arith)

pub fate_numbers : FateNumbers
fate_numbers = (number_back, at_number)

outcome_back : (o : Outcome) → outcome_of (outcome_word o) ≡ Some o
unfolding outcome_of pick
outcome_back Delivered = refl
outcome_back Failed = refl

pub outcomes : Outcomes
unfolding outcome_of
outcomes =
    record {
      back = λ o u. outcome_back o;
      again = found outcome_word Any all_outcomes (tt, (tt, tt));
    }

receipt_back : (x : Receipt) → ReceiptFits x → receipt_of (receipt_word x) ≡ Some x
unfolding receipt_of pick
receipt_back receipt.Stored p = refl
receipt_back receipt.Discarded p = refl
receipt_back receipt.Nothing p = refl
receipt_back (receipt.Number n) p =
    let d = all_decimal n in
    rw (no_word (decimal n) 115 _ d (omega arith), no_word (decimal n) 100 _ d (omega arith), no_word (decimal n) 110 _ d (omega arith), (numbers MOST).back n p) refl

-- a number is the word of a receipt too
receipt_number : (b : List ℕ) (x : Receipt) (n : Option ℕ) → number_of MOST b ≡ n → option_map receipt.Number n ≡ Some x → ReceiptFits x × (receipt_word x ≡ b)
receipt_number b receipt.Stored (Some n) p e = absurd cc
receipt_number b receipt.Discarded (Some n) p e = absurd cc
receipt_number b receipt.Nothing (Some n) p e = absurd cc
receipt_number b (receipt.Number m) (Some n) p e =
    let same_number : n ≡ m = cc in
    rw same_number at ((numbers MOST).again b n p)
receipt_number b x None p e = absurd cc

receipt_again : (b : List ℕ) (x : Receipt) (w : Option Receipt) → named receipt_word word_receipts b ≡ w → option_or w (option_map receipt.Number (number_of MOST b)) ≡ Some x → ReceiptFits x × (receipt_word x ≡ b)
receipt_again b x (Some y) p e = found receipt_word ReceiptFits word_receipts (tt, (tt, (tt, tt))) b x (p ∙ e)
receipt_again b x None p e = receipt_number b x (number_of MOST b) refl e

pub receipts : Receipts
unfolding receipt_of
receipts = record { back = receipt_back; again = λ b x e. receipt_again b x (named receipt_word word_receipts b) refl e }

-- a word holds no tab and no line feed
pub free_direction : (d : Direction) → (free 9 (direction_word d) ≡ true) × (free 10 (direction_word d) ≡ true)
free_direction Read = (refl, refl)
free_direction Write = (refl, refl)

pub free_fate : (f : Fate) → (free 9 (fate_word f) ≡ true) × (free 10 (fate_word f) ≡ true)
free_fate Ok = (refl, refl)
free_fate Noack = (refl, refl)
free_fate Bad = (refl, refl)
free_fate Nonak = (refl, refl)
free_fate Lost = (refl, refl)

pub free_receipt : (x : Receipt) → (free 9 (receipt_word x) ≡ true) × (free 10 (receipt_word x) ≡ true)
free_receipt receipt.Stored = (refl, refl)
free_receipt receipt.Discarded = (refl, refl)
free_receipt receipt.Nothing = (refl, refl)
free_receipt (receipt.Number n) = (free_decimal 9 n (omega arith), free_decimal 10 n (omega arith))

pub free_outcome : (o : Outcome) → (free 9 (outcome_word o) ≡ true) × (free 10 (outcome_word o) ≡ true)
free_outcome Delivered = (refl, refl)
free_outcome Failed = (refl, refl)
