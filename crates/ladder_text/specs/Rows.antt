-- Lines of several fields: line one of a run file, the rows of a ladder, its verdict, and `refused`.
use Rattle.std.specs.Prelude.{ℕ, ◌+◌, ◌%◌, List, [], ◌∷◌, ◌++◌, map, Bool, length, get_or, leb, eqb, Option, None, Some, option_and_then, bytes_eq}
use Rattle.ladder_text.specs.Pick.{pick, all}
use Rattle.ladder_text.specs.Text.{fields, joined, unlines}
use Rattle.ladder_text.specs.Decimal.{decimal, number_of}
use Rattle.ladder_text.specs.Words.{MOST, direction_word, direction_of, fate_word, fate_of, receipt_word, receipt_of, outcome_word, outcome_of, refused_word}
use Rattle.ladder_text.specs.declared.types.Quad.{Quad}
use Rattle.ladder_text.specs.declared.types.Direction.{Direction}
use Rattle.ladder_text.specs.declared.types.Fate.{Fate}
use Rattle.ladder_text.specs.declared.types.Receipt.{Receipt}
use Rattle.ladder_text.specs.declared.types.Outcome.{Outcome}
use Rattle.ladder_text.specs.declared.types.Run.{Run}
use Rattle.ladder_text.specs.declared.types.Row.{Row}
use Rattle.ladder_text.specs.declared.types.Verdict.{Verdict}

-- field i of a line, from 0
abbrev pub field_at : List ℕ → ℕ → List ℕ
field_at l i = get_or (fields l) i []

-- what a line of n fields is read as; a line of another number of fields does not fit
abbrev pub of_fields : {A : Type 0} → ℕ → List ℕ → Option A → Option A
of_fields n l answer = pick (eqb (length (fields l)) n) answer None

abbrev pub number_at : List ℕ → ℕ → Option ℕ
number_at l i = number_of MOST (field_at l i)

-- go on with what was read, where it fits
abbrev pub given : {A B : Type 0} → Option A → (A → Option B) → Option B
given x go = option_and_then go x

-- four numbers, in the fields of a line from i on
unfoldable pub quad_at : List ℕ → ℕ → Option Quad
quad_at l i =
    given (number_at l i) λ a. given (number_at l (i + 1)) λ b. given (number_at l (i + 2)) λ c. given (number_at l (i + 3)) λ d.
    Some (record { a = a; b = b; c = c; d = d })

-- "Line one, by tabs: `read` or `write`, byte count, data size, window, retry limit, decimal"
abbrev pub run_text : Run → List ℕ
run_text r = joined (direction_word r.direction ∷ decimal r.count ∷ decimal r.size ∷ decimal r.window ∷ decimal r.limit ∷ [])

-- "Byte count 1" to 65,536 ("takes counts to 65,536"). "Data per frame a multiple of four, 4 to 1,024. .. the window 1 to 64. Retry limit 0 to 15"
abbrev pub limits : Run → List Bool
limits r =
    leb 1 r.count ∷ leb r.count 65_536 ∷
    leb 4 r.size ∷ leb r.size 1_024 ∷ eqb (r.size % 4) 0 ∷
    leb 1 r.window ∷ leb r.window 64 ∷ leb r.limit 15 ∷ []

abbrev pub within_limits : Run → Bool
within_limits r = all (limits r)

abbrev pub within_or : Run → Option Run
within_or r = pick (within_limits r) (Some r) None

abbrev pub run_from : Option Direction → Option Quad → Option Run
run_from d q =
    given d λ d'. given q λ q'.
    within_or (record { direction = d'; count = q'.a; size = q'.b; window = q'.c; limit = q'.d })

unfoldable pub run_of : List ℕ → Option Run
run_of l = of_fields 5 l (run_from (direction_of (field_at l 0)) (quad_at l 1))

-- "Fields: frame (from 1), offset, bytes, CDP, fate, receiver"
abbrev pub row_text : Row → List ℕ
row_text r =
    joined
    (decimal r.frame ∷ decimal r.offset ∷ decimal r.bytes ∷ decimal r.cdp ∷ fate_word r.fate ∷ receipt_word r.receipt ∷ [])

abbrev pub row_from : Option Quad → Option Fate → Option Receipt → Option Row
row_from q f x =
    given q λ q'. given f λ f'. given x λ x'.
    Some (record { frame = q'.a; offset = q'.b; bytes = q'.c; cdp = q'.d; fate = f'; receipt = x' })

unfoldable pub row_of : List ℕ → Option Row
row_of l = of_fields 6 l (row_from (quad_at l 0) (fate_of (field_at l 4)) (receipt_of (field_at l 5)))

-- "last line, the sender's verdict, `delivered` or `failed`, number (0 when delivered), frames, faults, the receiver's filled mark"
abbrev pub verdict_text : Verdict → List ℕ
verdict_text v =
    joined
    (outcome_word v.outcome ∷ decimal v.number ∷ decimal v.frames ∷ decimal v.faults ∷ decimal v.filled ∷ [])

abbrev pub verdict_from : Option Outcome → Option Quad → Option Verdict
verdict_from o q =
    given o λ o'. given q λ q'.
    Some (record { outcome = o'; number = q'.a; frames = q'.b; faults = q'.c; filled = q'.d })

unfoldable pub verdict_of : List ℕ → Option Verdict
verdict_of l = of_fields 5 l (verdict_from (outcome_of (field_at l 0)) (quad_at l 1))

-- a whole ladder
abbrev pub ladder_lines : List Row → Verdict → List (List ℕ)
ladder_lines rs v = map row_text rs ++ (verdict_text v ∷ [])

abbrev pub ladder_text : List Row → Verdict → List ℕ
ladder_text rs v = unlines (ladder_lines rs v)

-- "A line that does not fit prints only `refused`, tab, line number; too long an input, number 0"
abbrev pub refused_text : ℕ → List ℕ
refused_text n = joined (refused_word ∷ decimal n ∷ [])

unfoldable pub refused_of : List ℕ → Option ℕ
refused_of l = of_fields 2 l (pick (bytes_eq (field_at l 0) refused_word) (number_at l 1) None)
