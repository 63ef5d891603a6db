use mathlib.Core.Path.{refl, sym, ap, ◌∙◌}
use Rattle.status.proofs.OpenedCall.{opened}
use Rattle.initiator.proofs.WriteReturns.{told, kept_says}
use Rattle.initiator.proofs.WriteSteps.{begun_starts, begun_same, first_is, served_is}
use Rattle.initiator.specs.WriteRecord.{starts_of}
use Rattle.initiator.specs.WriteSend.{reached_of, next_of}
use Rattle.sender_steps.specs.Transmit.{frame_step_of}
use Rattle.status.specs.Pick.{pick}
use Rattle.initiator.proofs.write_send.write_next_frame.Goals as goal

pub returns-in-Err : goal.returns-in-Err
unfolding next_of
returns-in-Err c =
    let a = c.args in
    told a.w a.buffer.now a.out.now (rw (← c.lent.ensures, sym c.admit.ensures ∙ c.in-Err.is) refl) c.refused.ensures refl

pub returns-then-held_up : goal.returns-then-held_up
unfolding next_of pick
returns-then-held_up c =
    let a = c.args in
    told a.w a.buffer.now a.out.now (rw (← c.lent.ensures, sym c.admit.ensures ∙ c.in-Ok.is, sym c.held_up.ensures ∙ c.if-held_up.true) refl) refl refl

pub returns-then-w : goal.returns-then-w
returns-then-w c =
    let a = c.args in
    let w = a.w in
    let d = a.buffer.now in
    let o = opened _ _ (sym c.in-Ok.is ∙ c.admit.ensures) in
    let l = sym c.lent.ensures ∙ o.0 in
    let p = c.if-w.true in
    let f = c.first.ensures in
    told w d a.out.now (first_is w d a.out.now l o.1 (sym c.held_up.ensures ∙ c.if-held_up.false) p) f.0
    (rw (begun_starts w d a.out.now l o.1 p, kept_says w (reached_of (starts_of w) (frame_step_of (starts_of w).sender d a.out.now))) f.1)

pub returns-else-w : goal.returns-else-w
returns-else-w c =
    let a = c.args in
    let w = a.w in
    let d = a.buffer.now in
    let o = opened _ _ (sym c.in-Ok.is ∙ c.admit.ensures) in
    let l = sym c.lent.ensures ∙ o.0 in
    let p = c.if-w.false in
    let f = c.frame_step.ensures in
    told w d a.out.now (served_is w d a.out.now l o.1 (sym c.held_up.ensures ∙ c.if-held_up.false) p) (c.reach.ensures ∙ ap (reached_of w) f.0)
    (rw (begun_same w d a.out.now l o.1 p) f.1)
