use mathlib.Core.Path.{sym, ap, ◌∙◌}
use native.Mathlib.Omega.{arith}
use Rattle.link.specs.Ports.{Called}
use Rattle.ladder_run.specs.Row.{handed}
use Rattle.ladder_run.specs.declared.types.Sending.{Sending}
use Rattle.ladder_run.proofs.Handed.{area_most}
use Rattle.ladder_run.proofs.row.frame_out.Goals as goal

pub prove-unreachable-requires : goal.prove-unreachable-requires
prove-unreachable-requires c =
    let most = area_most c.args.l.sending c.args.source.now (sym c.in-Some.is ∙ c.handed.ensures ∙ ap (λ (x : Called Sending). handed x.says) c.ask-x.ensures) in
    omega arith
