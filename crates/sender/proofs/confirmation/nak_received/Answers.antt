use mathlib.Core.List.{[]}
use Rattle.std.proofs.Common.{rules}
use Rattle.sender.proofs.Counting.{both, nak_counts}
use Rattle.sender.proofs.confirmation.nak_received.Goals as goal

pub returns : goal.returns
returns c = both c.args.s [] (search rules) (nak_counts c.args.s)
