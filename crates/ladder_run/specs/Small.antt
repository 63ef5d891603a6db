-- How large the numbers of a row can be, and how long its line: of any ladder record, since a port hands out only what its tests of number 1 allow, and `open_of` asks
-- for none beyond 65,536.
use Rattle.std.specs.Prelude.{ℕ, ◌≤◌, ◌<◌, List, ◌≡◌, length, Some}
use Rattle.ladder_text.specs.Rows.{row_text, verdict_text}
use Rattle.ladder_text.specs.Place.{line_text}
use Rattle.ladder_text.specs.Laws.{RowFits}
use Rattle.ladder_text.specs.declared.types.Row.{Row}
use Rattle.ladder_text.specs.declared.types.Verdict.{Verdict}
use Rattle.ladder_run.specs.Row.{ROWS-MOST, COUNT-MOST, out_of}
use Rattle.ladder_run.specs.Line.{line_of}
use Rattle.ladder_run.specs.declared.types.Ladder.{Ladder}
use Rattle.ladder_run.specs.declared.types.Line.TheVariants as line

-- 5 digits, 5, 4 and 1; a fate of 5 letters; a receiver's word of 9; a tab or line feed behind each
abbrev pub ROW-MOST : ℕ
ROW-MOST = 35

pub record SmallRow (r : Row) : Type 0 where
  pub frame : r.frame ≤ ROWS-MOST
  pub offset : r.offset < COUNT-MOST
  pub bytes : r.bytes ≤ 1_024
  pub cdp : r.cdp ≤ 1
  -- the receiver's number too: the row reads back (ladder_text `Rows`)
  pub fits : RowFits r
  pub text : length (line_text (row_text r)) ≤ ROW-MOST

-- a frame asked for; fates, sent data, received data
abbrev pub SmallOuts : Type 0
SmallOuts = (l : Ladder) (fs d b : List ℕ) (r : Row) → (out_of l fs d b).line ≡ Some r → SmallRow r

-- a line
abbrev pub SmallLines : Type 0
SmallLines = (l : Ladder) (fs d b : List ℕ) (r : Row) → (line_of l fs d b).line ≡ line.Row r → SmallRow r

-- a verdict of numbers that short: 9 letters, 3 digits, and three times 5
abbrev pub VERDICT-MOST : ℕ
VERDICT-MOST = 32

abbrev pub SmallVerdicts : Type 0
SmallVerdicts =
    (v : Verdict) → v.number ≤ 255 → v.frames ≤ 99_999 → v.faults ≤ 99_999 → v.filled ≤ 99_999 → length (line_text (verdict_text v)) ≤ VERDICT-MOST
