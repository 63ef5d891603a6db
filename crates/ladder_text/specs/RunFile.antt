-- A run file: line one, and "each further line is the fate of the next frame".
use Rattle.std.specs.Prelude.{ℕ, ◌+◌, List, [], ◌∷◌, map, length, drop, leb, ltb, is_some, unwrap_or, Option, None, Some, Result, Ok, Err}
use Rattle.ladder_text.specs.Pick.{pick}
use Rattle.ladder_text.specs.Text.{LF, lines, unlines, before}
use Rattle.ladder_text.specs.Words.{fate_word, fate_of}
use Rattle.ladder_text.specs.Rows.{run_text, run_of}
use Rattle.ladder_text.specs.declared.types.Run.{Run}
use Rattle.ladder_text.specs.declared.types.Fate.{Fate}
use Rattle.ladder_text.specs.declared.types.Fate.TheVariants as fate
use Rattle.ladder_text.specs.declared.types.RunFile.{RunFile}
use Rattle.ladder_text.specs.declared.types.Misfit.{Misfit}
use Rattle.ladder_text.specs.declared.types.NextFate.{NextFate}

abbrev pub file_text : Run → List Fate → List ℕ
file_text r fs = unlines (run_text r ∷ map fate_word fs)

-- "reads up to 65,536 bytes"
abbrev pub MOST-BYTES : ℕ
MOST-BYTES = 65_536

-- the number of the first line that is no fate, the lines numbered from n
abbrev pub misfit : ℕ → List (List ℕ) → Option ℕ
misfit n [] = None
misfit n (l ∷ ls) = pick (is_some (fate_of l)) (misfit (n + 1) ls) (Some n)

-- a run file of that line one, with its fates from that place on
abbrev pub taken : Run → ℕ → Result RunFile Misfit
taken r at = Ok (record { run = r; fates = at })

-- line n does not fit
abbrev pub refused : ℕ → Result RunFile Misfit
refused n = Err (record { line = n })

abbrev pub further_lines : Run → ℕ → Option ℕ → Result RunFile Misfit
further_lines r at None = taken r at
further_lines r at (Some n) = refused n

-- line one, then line 2 and on
abbrev pub after_one : Option Run → ℕ → List (List ℕ) → Result RunFile Misfit
after_one (Some r) at ls = further_lines r at (misfit 2 ls)
after_one None at ls = refused 1

-- "empty input fails at line 1"
abbrev pub from_lines : List (List ℕ) → Result RunFile Misfit
from_lines [] = refused 1
from_lines (l ∷ ls) = after_one (run_of l) (length l + 1) ls

-- "too long an input, number 0"
unfoldable pub file_of : List ℕ → Result RunFile Misfit
file_of b = pick (leb (length b) MOST-BYTES) (from_lines (lines b)) (refused 0)

-- the fates of lines; a run file that was read has no other lines
abbrev pub fate_or : Option Fate → Fate
fate_or f = unwrap_or f fate.Ok

abbrev pub fates_of : List (List ℕ) → List Fate
fates_of ls = map (λ l. fate_or (fate_of l)) ls

-- the fates from place `at` of b on
abbrev pub fates_at : List ℕ → ℕ → List Fate
fates_at b at = fates_of (lines (drop at b))

-- "the fate of the next frame .. past the list, `ok`"
unfoldable pub next_fate : List ℕ → ℕ → NextFate
next_fate b at =
    pick (ltb at (length b))
    (record { fate = fate_or (fate_of (before LF (drop at b))); next = at + length (before LF (drop at b)) + 1 })
    (record { fate = fate.Ok; next = at })
