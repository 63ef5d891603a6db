use native.Mathlib.Omega.{arith}
use Rattle.receiver_steps.proofs.Held.{lent}
use Rattle.target.proofs.Held.{core_lent}
use Rattle.ssp.proofs.TargetCases.{write_next}
use Rattle.ssp.proofs.write_target.ssp_write_target_frame_received.Goals as goal

pub store-a-requires : goal.store-a-requires
store-a-requires c = let q = c.is_next.ensures c.if-is_next.true in (omega (arith, q.1.0.least), q.0, (lent _ _ (core_lent _ _ q.5)).reach)

pub returns-then-is_next : goal.returns-then-is_next
returns-then-is_next c = write_next _ _ _ _ _ _ (c.is_next.ensures c.if-is_next.true) c.store-a.ensures c.grow.ensures
