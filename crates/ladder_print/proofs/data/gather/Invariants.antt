use Rattle.std.proofs.Common.{◌-◌, length}
use Rattle.ladder_print.proofs.Filled.{Gathering}
use Rattle.ladder_print.proofs.data.gather.Given as goal

-- the numbers of the fates passed stand at the front
abbrev pub invariant-loop-at : goal.invariant-loop-at
invariant-loop-at l = Gathering l.input l.from l.initial.fates l.fates l.at l.n

abbrev pub decreases-loop-at : goal.decreases-loop-at
decreases-loop-at l = length l.input - l.at
