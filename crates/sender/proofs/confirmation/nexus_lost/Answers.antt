use mathlib.Core.List.{[]}
use Rattle.std.proofs.Common.{rules}
use Rattle.sender.proofs.Counting.{both, loss_counts}
use Rattle.sender.proofs.confirmation.nexus_lost.Goals as goal

pub returns : goal.returns
returns c = both c.args.s [] (search rules) (loss_counts c.args.s)
