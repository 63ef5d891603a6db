-- The worked ladders, by computation; their set_up by the theorem.
use mathlib.Core.Path.{refl, ◌∙◌}
use Rattle.ladder_text.specs.Rows.{ladder_text}
use Rattle.ladder_text.specs.WorkedTexts.{example}
use Rattle.ladder_text.proofs.WorkedTexts.{answers}
use Rattle.ladder_run.specs.Row.{out_of}
use Rattle.ladder_run.specs.Round.{closed_of}
use Rattle.ladder_run.specs.Line.{line_of}
use Rattle.ladder_claim.proofs.Begun.{within, read_ladder, read_sets_up, write_ladder, write_sets_up}
use Rattle.worked.specs.Ladders.{ExampleRuns, ExamplePrints, write_run, WriteRuns, noack_run, NoackRuns, nonak_run, NonakRuns, failing_run, FailingRuns}
use Rattle.worked.proofs.ReadComputes.{computed}
use Rattle.worked.proofs.WriteComputes.{computed_write}

pub example_runs : ExampleRuns
unfolding computed out_of closed_of line_of
example_runs = record { start = read_ladder example; ready = read_sets_up example (within example refl) refl; shows = refl; ends = refl; fills = refl }

pub failing_runs : FailingRuns
unfolding computed out_of closed_of line_of
failing_runs = record { start = read_ladder failing_run; ready = read_sets_up failing_run (within failing_run refl) refl; shows = refl; ends = refl; fills = refl }

pub write_runs : WriteRuns
unfolding computed_write out_of closed_of line_of
write_runs = record { start = write_ladder write_run; ready = write_sets_up write_run (within write_run refl) refl; shows = refl; ends = refl; fills = refl }

pub noack_runs : NoackRuns
unfolding computed_write out_of closed_of line_of
noack_runs = record { start = write_ladder noack_run; ready = write_sets_up noack_run (within noack_run refl) refl; shows = refl; ends = refl; fills = refl }

pub nonak_runs : NonakRuns
unfolding computed out_of closed_of line_of
nonak_runs = record { start = read_ladder nonak_run; ready = read_sets_up nonak_run (within nonak_run refl) refl; shows = refl; ends = refl; fills = refl }

pub example_prints : ExamplePrints
example_prints x = (λ i. ladder_text (x.shows i) (x.ends i)) ∙ answers.ladder
