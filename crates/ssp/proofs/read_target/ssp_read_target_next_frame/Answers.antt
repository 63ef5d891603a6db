use mathlib.Core.Path.{refl}
use Rattle.sender_steps.proofs.Held.{lent_holds}
use Rattle.ssp.proofs.FrameCases.{full_frame, waiting}
use Rattle.ssp.proofs.read_target.ssp_read_target_next_frame.Goals as goal

pub send-requires : goal.send-requires
send-requires c =
    let d = c.is_full_due.ensures c.if-is_full_due.true in
    let l = c.is_lent.ensures c.if-is_lent.true in
    (d.1, d.2, (lent_holds _ _ l.2).0)

pub returns-then-is_lent : goal.returns-then-is_lent
returns-then-is_lent c = full_frame _ _ _ _ _ _ (c.is_full_due.ensures c.if-is_full_due.true, c.is_lent.ensures c.if-is_lent.true) c.put_down-a.ensures c.send.ensures

pub returns-then-is_wait : goal.returns-then-is_wait
returns-then-is_wait c = waiting _ _ _ _ _ _ (c.is_wait.ensures c.if-is_wait.true) (c.word.ensures, refl) refl
