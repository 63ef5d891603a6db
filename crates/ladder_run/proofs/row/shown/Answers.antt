use mathlib.Core.Path.{sym, ap, ◌∙◌}
use native.Mathlib.Omega.{arith}
use Rattle.ladder_run.proofs.Leaves.{few_bytes}
use Rattle.ladder_run.proofs.row.shown.Goals as goal
use Rattle.status.specs.Result.{or_refusal}

pub overflow_cast-result : goal.overflow_cast-result
overflow_cast-result c = omega (arith, few_bytes _ _ (sym c.read.ensures ∙ ap or_refusal c.in-Ok.is))
