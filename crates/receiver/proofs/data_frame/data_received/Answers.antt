-- 1 and 2 first; else `data_step` does it.
use mathlib.Core.Path.{refl, sym, ◌∙◌}
use Rattle.status.proofs.OpenedCall.{opened}
use Rattle.receiver.specs.DataFrame.{arrival_of}
use Rattle.receiver.proofs.Views.{step_is}
use Rattle.receiver.proofs.data_frame.data_received.Goals as goal

pub returns-in-Err : goal.returns-in-Err
unfolding arrival_of
returns-in-Err c = rw (← c.lent-ok.ensures, sym c.admit.ensures ∙ c.in-Err.is) (c.refused.ensures, refl)

pub returns-in-Ok : goal.returns-in-Ok
returns-in-Ok c =
    let o = opened _ _ (sym c.in-Ok.is ∙ c.admit.ensures) in
    rw (step_is _ _ _ _ _ (sym c.lent-ok.ensures ∙ o.0) o.1) c.data_step.ensures
