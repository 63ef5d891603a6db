use mathlib.Core.Path.{sym, ◌∙◌}
use Rattle.status.proofs.OpenedCall.{opened}
use Rattle.sender.proofs.Steps.{next_step}
use Rattle.sender.proofs.Next.{told}
use Rattle.sender.proofs.transmit.next_frame.Goals as goal

pub returns-in-Ok : goal.returns-in-Ok
returns-in-Ok c =
    let a = c.args in
    let o = opened _ _ (sym c.in-Ok.is ∙ c.admit.ensures) in
    let t = c.frame_step.ensures in
    told a.s a.buffer.now a.out.now _ _ _ (next_step a.s a.buffer.now a.out.now (sym c.lent.ensures ∙ o.0) o.1) t.0 t.1
