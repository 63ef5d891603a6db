-- A whole ladder: line after line, rows until the verdict.
use Rattle.std.specs.Prelude.{ℕ, zero, suc, ◌+◌, List, [], ◌∷◌}
use Rattle.ladder_text.specs.declared.types.Row.{Row}
use Rattle.ladder_run.specs.Row.{ROWS-MOST}
use Rattle.ladder_run.specs.Line.{line_of}
use Rattle.ladder_run.specs.declared.types.Ladder.{Ladder}
use Rattle.ladder_run.specs.declared.types.Line.{Line}
use Rattle.ladder_run.specs.declared.types.Line.TheVariants as line

-- the rows, the ladder at its verdict, the received data
pub record Whole : Type 0 where
  pub rows : List Row
  pub last : Ladder
  pub received : List ℕ

-- a row more at its front
abbrev pub above : Row → Whole → Whole
above r x = record { rows = r ∷ x.rows; last = x.last; received = x.received }

-- a row, and what goes on from the ladder that is left; or the verdict
abbrev pub onward : Line → Ladder → List ℕ → (Ladder → List ℕ → Whole) → Whole
onward (line.Row r) l b go = above r (go l b)
onward (line.Verdict v) l b go = record { rows = []; last = l; received = b }

-- at most k lines; fates, sent data, received data
abbrev pub climb : ℕ → List ℕ → List ℕ → Ladder → List ℕ → Whole
climb zero fs d l b = record { rows = []; last = l; received = b }
climb (suc k) fs d l b = let x = line_of l fs d b in onward x.line x.ladder x.received (λ m c. climb k fs d m c)

-- a ladder has at most `ROWS-MOST` rows, and its verdict
abbrev pub whole_of : List ℕ → List ℕ → Ladder → List ℕ → Whole
whole_of fs d l b = climb (ROWS-MOST + 1) fs d l b
