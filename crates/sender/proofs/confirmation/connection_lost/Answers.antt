use mathlib.Core.List.{[]}
use Rattle.std.proofs.Common.{rules}
use Rattle.sender.proofs.Counting.{both, cut_counts}
use Rattle.sender.proofs.confirmation.connection_lost.Goals as goal

pub returns : goal.returns
returns c = both c.args.s [] (search rules) (cut_counts c.args.s)
