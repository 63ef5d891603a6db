use native.Mathlib.Omega.{arith}
use Rattle.target.proofs.Held.{held}
use Rattle.target.proofs.transmit.Held.issue.Goals as goal

pub new_tag-requires : goal.new_tag-requires
new_tag-requires c = (held _ c.args.self.holds).since_most

pub overflow_add-y : goal.overflow_add-y
overflow_add-y c = omega (arith, (held _ c.args.self.holds).since_most)
