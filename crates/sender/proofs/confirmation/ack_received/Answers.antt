use mathlib.Core.List.{[]}
use Rattle.std.proofs.Common.{rules}
use Rattle.sender.proofs.Counting.{both, ack_counts}
use Rattle.sender.proofs.confirmation.ack_received.Goals as goal

pub returns : goal.returns
returns c = both c.args.s [] (search rules) (ack_counts c.args.s)
