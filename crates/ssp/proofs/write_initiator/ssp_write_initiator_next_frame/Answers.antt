use mathlib.Core.Path.{refl}
use Rattle.ssp.proofs.WriteCases.{full_of, full_frame, waiting}
use Rattle.ssp.proofs.write_initiator.ssp_write_initiator_next_frame.Goals as goal

pub put_down-a-requires : goal.put_down-a-requires
put_down-a-requires c = let d = c.is_full_due.ensures c.if-is_full_due.true in full_of _ _ _ (d.0, d.1, c.is_lent.ensures c.if-is_lent.true)

pub returns-then-is_lent : goal.returns-then-is_lent
returns-then-is_lent c =
    let d = c.is_full_due.ensures c.if-is_full_due.true in
    full_frame _ _ _ _ _ _ (d.0, d.1, c.is_lent.ensures c.if-is_lent.true) c.put_down-a.ensures c.send.ensures

pub returns-then-is_wait : goal.returns-then-is_wait
returns-then-is_wait c = waiting _ _ _ _ _ _ (c.is_wait.ensures c.if-is_wait.true) (c.word.ensures, refl) refl
