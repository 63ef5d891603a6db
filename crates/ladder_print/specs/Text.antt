-- The text of a run file's ladder, of any input.
use Rattle.std.specs.Prelude.{ℕ, zero, suc, ◌+◌, ◌%◌, ◌≤◌, List, [], ◌∷◌, map, ◌≡◌, length, replicate, leb, Option, Some, None, Ok, Err}
use Rattle.std.specs.Prelude as code
use Rattle.status.specs.Pick.{pick}
use Rattle.status.specs.Result.{Result}
use Rattle.ladder_text.specs.Words.{fate_number}
use Rattle.ladder_text.specs.Rows.{ladder_text, refused_text}
use Rattle.ladder_text.specs.Place.{placed, line_text}
use Rattle.ladder_text.specs.RunFile.{file_of, fates_at}
use Rattle.ladder_text.specs.declared.types.RunFile.{RunFile}
use Rattle.ladder_text.specs.declared.types.Misfit.{Misfit}
use Rattle.ladder_run.specs.Line.{verdict_of}
use Rattle.ladder_run.specs.Whole.{Whole, whole_of}
use Rattle.ladder_run.specs.Setup.{set_up_of}
use Rattle.ladder_run.specs.declared.types.Ladder.{Ladder}

-- n bytes from byte i on
abbrev pub bytes_from : ℕ → ℕ → List ℕ
bytes_from i zero = []
bytes_from i (suc n) = i % 256 ∷ bytes_from (i + 1) n

-- "Byte i is the remainder of i by 256"
abbrev pub data_of : ℕ → List ℕ
data_of n = bytes_from 0 n

-- rows and verdict
abbrev pub whole_text : List ℕ → Whole → List ℕ
whole_text fs x = ladder_text x.rows (verdict_of fs x.last)

-- the ladder l at its start, of so many bytes, over the fates fs; the receiving port's buffer is zeroed
unfoldable pub start_text : Ladder → ℕ → List ℕ → List ℕ
start_text l n fs = whole_text fs (whole_of fs (data_of n) l (replicate n 0))

-- "prints only `refused`, tab, line number"
abbrev pub misfit_text : Misfit → List ℕ
misfit_text m = line_text (refused_text m.line)

-- a line one that set_up refuses does not fit; there is none (crate ladder_claim, `SetsUp`)
abbrev pub set_up_text : Result Ladder → ℕ → List ℕ → List ℕ
set_up_text (Result.value l) n fs = start_text l n fs
set_up_text (Result.number k) n fs = line_text (refused_text 1)

-- "A line that does not fit prints only `refused`, tab, line number"
abbrev pub of_file : code.Result RunFile Misfit → List ℕ → List ℕ
of_file (Err m) b = misfit_text m
of_file (Ok f) b = set_up_text (set_up_of f.run) f.run.count (map fate_number (fates_at b f.fates))

unfoldable pub text_of : List ℕ → List ℕ
text_of b = of_file (file_of b) b

-- 35 bytes for each of 38,292 lines, and the room that a line's printer asks for
abbrev pub TEXT-MOST : ℕ
TEXT-MOST = 1_340_284

-- asked to print t into d, the printer answers r and leaves e: t at the front of d, the rest unchanged; where d is too short, d unchanged. A buffer
-- that is not too short has room for t, whatever the input
pub record Prints (t d : List ℕ) (r : Option ℕ) (e : List ℕ) : Type 0 where
  pub answer : r ≡ pick (leb TEXT-MOST (length d)) (Some (length t)) None
  pub left : e ≡ pick (leb TEXT-MOST (length d)) (placed d 0 t) d
  pub fits : TEXT-MOST ≤ length d → length t ≤ TEXT-MOST
