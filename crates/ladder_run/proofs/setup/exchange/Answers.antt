use mathlib.Core.Path.{ap, ◌∙◌}
use native.Mathlib.Omega.{arith}
use Rattle.std.specs.Prelude.{ℕ, Option, unwrap_or}
use Rattle.status.specs.Answer.{Left}
use Rattle.target.specs.declared.types.Target.{Target}
use Rattle.ladder_run.proofs.Handed.{handed_length, issued_most}
use Rattle.ladder_run.proofs.setup.exchange.Goals as goal

pub prove-unreachable-requires : goal.prove-unreachable-requires
prove-unreachable-requires c =
    let most = issued_most c.args.y (c.unwrap_or-n.ensures ∙ ap (λ (x : Option ℕ). unwrap_or x 0) c.handed.ensures ∙ ap (λ (x : Left Target). handed_length x.says) c.write_next_frame-issued.ensures.0) in
    omega arith
