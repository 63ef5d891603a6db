-- The words of run files and ladders, as bytes.
use Rattle.std.specs.Prelude.{ℕ, List, [], ◌∷◌, get_or, find, bytes_eq, Option, option_map}
use Rattle.std.specs.Option.{option_or}
use Rattle.ladder_text.specs.Text.{bytes}
use Rattle.ladder_text.specs.Decimal.{decimal, number_of}
use Rattle.ladder_text.specs.declared.types.Direction.{Direction}
use Rattle.ladder_text.specs.declared.types.Direction.TheVariants.{Read, Write}
use Rattle.ladder_text.specs.declared.types.Fate.{Fate}
use Rattle.ladder_text.specs.declared.types.Fate.TheVariants.{Ok, Noack, Bad, Nonak, Lost}
use Rattle.ladder_text.specs.declared.types.Receipt.{Receipt}
use Rattle.ladder_text.specs.declared.types.Receipt.TheVariants as receipt
use Rattle.ladder_text.specs.declared.types.Outcome.{Outcome}
use Rattle.ladder_text.specs.declared.types.Outcome.TheVariants.{Delivered, Failed}

-- the greatest number that any field can hold; a limit of its own, as of line one, is tested beside it
abbrev pub MOST : ℕ
MOST = 4_294_967_295

-- the first of some values whose word is b
abbrev pub named : {A : Type 0} → (A → List ℕ) → List A → List ℕ → Option A
named word all b = find (λ a. bytes_eq b (word a)) all

-- "`read` or `write`"
abbrev pub direction_word : Direction → List ℕ
direction_word Read = bytes "read"
direction_word Write = bytes "write"

abbrev pub all_directions : List Direction
all_directions = Read ∷ Write ∷ []

unfoldable pub direction_of : List ℕ → Option Direction
direction_of b = named direction_word all_directions b

-- "`ok`, `noack` (ACK lost), `bad` (damaged, NAK arrives), `nonak` (damaged, NAK lost), `lost`"
abbrev pub fate_word : Fate → List ℕ
fate_word Ok = bytes "ok"
fate_word Noack = bytes "noack"
fate_word Bad = bytes "bad"
fate_word Nonak = bytes "nonak"
fate_word Lost = bytes "lost"

abbrev pub all_fates : List Fate
all_fates = Ok ∷ Noack ∷ Bad ∷ Nonak ∷ Lost ∷ []

-- the fates in that order, numbered from 0
abbrev pub fate_number : Fate → ℕ
fate_number Ok = 0
fate_number Noack = 1
fate_number Bad = 2
fate_number Nonak = 3
fate_number Lost = 4

abbrev pub fate_at : ℕ → Fate
fate_at n = get_or all_fates n Lost

unfoldable pub fate_of : List ℕ → Option Fate
fate_of b = named fate_word all_fates b

-- "receiver (`stored`, `discarded`, `none` where nothing arrived, or the number it gave)"
abbrev pub receipt_word : Receipt → List ℕ
receipt_word receipt.Stored = bytes "stored"
receipt_word receipt.Discarded = bytes "discarded"
receipt_word receipt.Nothing = bytes "none"
receipt_word (receipt.Number n) = decimal n

abbrev pub word_receipts : List Receipt
word_receipts = receipt.Stored ∷ receipt.Discarded ∷ receipt.Nothing ∷ []

unfoldable pub receipt_of : List ℕ → Option Receipt
receipt_of b = option_or (named receipt_word word_receipts b) (option_map receipt.Number (number_of MOST b))

-- "the sender's verdict, `delivered` or `failed`"
abbrev pub outcome_word : Outcome → List ℕ
outcome_word Delivered = bytes "delivered"
outcome_word Failed = bytes "failed"

abbrev pub all_outcomes : List Outcome
all_outcomes = Delivered ∷ Failed ∷ []

unfoldable pub outcome_of : List ℕ → Option Outcome
outcome_of b = named outcome_word all_outcomes b

-- "prints only `refused`, tab, line number"
abbrev pub refused_word : List ℕ
refused_word = bytes "refused"
