-- The text of a ladder at its start.
use Rattle.std.specs.Prelude.{List, ℕ, map, Result, Ok, Err}
use Rattle.ladder_text.specs.Words.{fate_number}
use Rattle.ladder_text.specs.RunFile.{fates_at}
use Rattle.ladder_text.specs.declared.types.Misfit.{Misfit}
use Rattle.ladder_print.specs.Text.{misfit_text, start_text}
use Rattle.ladder_print.specs.declared.start.Start.{Start}

-- a ladder that is set up
abbrev pub from_start_text : Start → List ℕ
from_start_text s = start_text s.ladder s.file.run.count (map fate_number (fates_at s.input.now s.file.fates))

abbrev pub started_text : Result Start Misfit → List ℕ
started_text (Ok s) = from_start_text s
started_text (Err m) = misfit_text m
