use native.Mathlib.Omega.{arith}
use Rattle.target.proofs.Held.{held}
use Rattle.target.proofs.transmit.Held.burst_end.Goals as goal

pub overflow_sub-left : goal.overflow_sub-left
overflow_sub-left c = omega (arith, (held _ c.args.self.holds).end_most)
