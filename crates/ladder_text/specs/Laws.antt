-- The two laws of each text: what is printed reads back, what is read prints again. Each is stated here and proved in proofs/.
use Rattle.std.specs.Prelude.{ℕ, ◌+◌, ◌*◌, ◌≤◌, ◌<◌, List, ◌∷◌, ◌++◌, true, ◌≡◌, length, get_or, drop, Option, Some}
use Rattle.ladder_text.specs.Text.{LF, TAB, lines, fields, unlines, joined, all_free, finished}
use Rattle.ladder_text.specs.Decimal.{decimal, number_of}
use Rattle.ladder_text.specs.Words.{MOST, direction_word, direction_of, fate_number, fate_at, fate_word, fate_of, receipt_word, receipt_of, outcome_word, outcome_of}
use Rattle.ladder_text.specs.Rows.{within_limits, run_text, run_of, row_text, row_of, verdict_text, verdict_of, ladder_lines, ladder_text, refused_text, refused_of}
use Rattle.ladder_text.specs.Place.{ROOM, ended, cell, line_text}
use Rattle.ladder_text.specs.RunFile.{MOST-BYTES, file_text, taken, file_of, fates_at, next_fate}
use Rattle.ladder_text.specs.declared.types.Direction.{Direction}
use Rattle.ladder_text.specs.declared.types.Receipt.{Receipt}
use Rattle.ladder_text.specs.declared.types.Receipt.TheVariants.{Stored, Discarded, Nothing, Number}
use Rattle.ladder_text.specs.declared.types.Outcome.{Outcome}
use Rattle.ladder_text.specs.declared.types.Fate.{Fate}
use Rattle.ladder_text.specs.declared.types.Fate.TheVariants.{Ok}
use Rattle.ladder_text.specs.declared.types.Run.{Run}
use Rattle.ladder_text.specs.declared.types.NextFate.{NextFate}
use Rattle.ladder_text.specs.declared.types.Row.{Row}
use Rattle.ladder_text.specs.declared.types.Verdict.{Verdict}

-- of values that fit: `text` prints a value, `read` answers it
pub record TwoLaws {A : Type 0} (text : A → List ℕ) (read : List ℕ → Option A) (Fits : A → Type 0) : Type 0 where
  pub back : (a : A) → Fits a → read (text a) ≡ Some a
  pub again : (b : List ℕ) (a : A) → read b ≡ Some a → Fits a × (text a ≡ b)

-- every value fits
abbrev pub Any : {A : Type 0} → A → Type 0
Any a = Unit {0}

abbrev pub Numbers : Type 0
Numbers = (most : ℕ) → TwoLaws decimal (number_of most) (λ n. n ≤ most)

abbrev pub Directions : Type 0
Directions = TwoLaws direction_word direction_of Any

abbrev pub Fates : Type 0
Fates = TwoLaws fate_word fate_of Any

abbrev pub FateNumbers : Type 0
FateNumbers = ((f : Fate) → fate_at (fate_number f) ≡ f) × ((n : ℕ) → n < 5 → fate_number (fate_at n) ≡ n)

abbrev pub Outcomes : Type 0
Outcomes = TwoLaws outcome_word outcome_of Any

abbrev pub ReceiptFits : Receipt → Type 0
ReceiptFits Stored = Unit {0}
ReceiptFits Discarded = Unit {0}
ReceiptFits Nothing = Unit {0}
ReceiptFits (Number n) = n ≤ MOST

abbrev pub Receipts : Type 0
Receipts = TwoLaws receipt_word receipt_of ReceiptFits

-- line one within its limits
abbrev pub Runs : Type 0
Runs = TwoLaws run_text run_of (λ r. within_limits r ≡ true)

-- rows of numbers up to `MOST`
pub record RowFits (r : Row) : Type 0 where
  pub frame : r.frame ≤ MOST
  pub offset : r.offset ≤ MOST
  pub bytes : r.bytes ≤ MOST
  pub cdp : r.cdp ≤ MOST
  pub receipt : ReceiptFits r.receipt

abbrev pub Rows : Type 0
Rows = TwoLaws row_text row_of RowFits

pub record VerdictFits (v : Verdict) : Type 0 where
  pub number : v.number ≤ MOST
  pub frames : v.frames ≤ MOST
  pub faults : v.faults ≤ MOST
  pub filled : v.filled ≤ MOST

abbrev pub Verdicts : Type 0
Verdicts = TwoLaws verdict_text verdict_of VerdictFits

abbrev pub Refusals : Type 0
Refusals = TwoLaws refused_text refused_of (λ n. n ≤ MOST)

pub record RunFits (r : Run) : Type 0 where
  pub count : r.count ≤ MOST
  pub size : r.size ≤ MOST
  pub window : r.window ≤ MOST
  pub limit : r.limit ≤ MOST

-- how long a line can be
pub record Short : Type 0 where
  pub run : (r : Run) → RunFits r → length (line_text (run_text r)) ≤ 50
  pub row : (r : Row) → RowFits r → length (line_text (row_text r)) ≤ 61
  pub verdict : (v : Verdict) → VerdictFits v → length (line_text (verdict_text v)) ≤ 54
  pub refused : (n : ℕ) → n ≤ MOST → length (line_text (refused_text n)) ≤ 19

-- no text of a public printer is longer than `ROOM`
pub record WithinRoom : Type 0 where
  pub number : (n : ℕ) → n ≤ MOST → length (decimal n) ≤ ROOM
  pub direction : (d : Direction) → length (direction_word d) ≤ ROOM
  pub fate : (f : Fate) → length (fate_word f) ≤ ROOM
  pub receipt : (x : Receipt) → ReceiptFits x → length (receipt_word x) ≤ ROOM
  pub outcome : (o : Outcome) → length (outcome_word o) ≤ ROOM
  pub cell : (n end : ℕ) → n ≤ MOST → length (cell n end) ≤ ROOM
  pub fate_cell : (f : Fate) (end : ℕ) → length (ended end (fate_word f)) ≤ ROOM
  pub run : (r : Run) → RunFits r → length (line_text (run_text r)) ≤ ROOM
  pub row : (r : Row) → RowFits r → length (line_text (row_text r)) ≤ ROOM
  pub verdict : (v : Verdict) → VerdictFits v → length (line_text (verdict_text v)) ≤ ROOM
  pub refused : (n : ℕ) → n ≤ MOST → length (line_text (refused_text n)) ≤ ROOM

-- lines, each free of line feeds; read and printed again, the last line has its line feed
abbrev pub LinesReadBack : Type 0
LinesReadBack = (ls : List (List ℕ)) → all_free LF ls ≡ true → lines (unlines ls) ≡ ls

abbrev pub LinesPrintAgain : Type 0
LinesPrintAgain = (b : List ℕ) → unlines (lines b) ≡ finished b

-- lines printed behind others
abbrev pub LinesBehind : Type 0
LinesBehind = (ls ms : List (List ℕ)) → unlines (ls ++ ms) ≡ unlines ls ++ unlines ms

-- a ladder's lines
abbrev pub LaddersReadBack : Type 0
LaddersReadBack = (rs : List Row) (v : Verdict) → lines (ladder_text rs v) ≡ ladder_lines rs v

-- fields, each free of tabs
abbrev pub FieldsReadBack : Type 0
FieldsReadBack = (f : List ℕ) (fs : List (List ℕ)) → all_free TAB (f ∷ fs) ≡ true → fields (joined (f ∷ fs)) ≡ f ∷ fs

abbrev pub FieldsPrintAgain : Type 0
FieldsPrintAgain = (l : List ℕ) → joined (fields l) ≡ l

-- run files: line one, and the fates from the answered place on; read and printed again, the last line has its line feed
abbrev pub FilesReadBack : Type 0
FilesReadBack =
    (r : Run) (fs : List Fate) → within_limits r ≡ true → length (file_text r fs) ≤ MOST-BYTES →
    (file_of (file_text r fs) ≡ taken r (length (run_text r) + 1)) × (fates_at (file_text r fs) (length (run_text r) + 1) ≡ fs)

abbrev pub FilesPrintAgain : Type 0
FilesPrintAgain = (b : List ℕ) (r : Run) (at : ℕ) → file_of b ≡ taken r at → (within_limits r ≡ true) × (file_text r (fates_at b at) ≡ finished b)

-- a run file has line one, and three bytes or more for each fate
abbrev pub FewFates : Type 0
FewFates = (b : List ℕ) (r : Run) (at : ℕ) → file_of b ≡ taken r at → length (run_text r) + 3 * length (fates_at b at) ≤ length b

-- the fates of a file, one after the other; past the list, `ok`
abbrev pub InTurn : List ℕ → ℕ → NextFate → Type 0
InTurn b at x = (x.fate ≡ get_or (fates_at b at) 0 Ok) × (fates_at b x.next ≡ drop 1 (fates_at b at))

abbrev pub FatesInTurn : Type 0
FatesInTurn = (b : List ℕ) (at : ℕ) → InTurn b at (next_fate b at)
