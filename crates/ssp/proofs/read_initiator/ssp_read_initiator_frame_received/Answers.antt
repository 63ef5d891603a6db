use native.Mathlib.Omega.{arith}
use Rattle.receiver_steps.proofs.Held.{lent}
use Rattle.ssp.proofs.ReceiveCases.{read_next}
use Rattle.ssp.proofs.read_initiator.ssp_read_initiator_frame_received.Goals as goal

pub store-a-requires : goal.store-a-requires
store-a-requires c = let q = c.is_next.ensures c.if-is_next.true in (omega (arith, q.1.0.least), q.0, (lent _ _ q.4).reach)

pub returns-then-is_next : goal.returns-then-is_next
returns-then-is_next c = read_next _ _ _ _ _ _ (c.is_next.ensures c.if-is_next.true) c.store-a.ensures c.grow.ensures
