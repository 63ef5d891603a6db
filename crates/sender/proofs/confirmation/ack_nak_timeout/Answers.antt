use mathlib.Core.List.{[]}
use Rattle.std.proofs.Common.{rules}
use Rattle.sender.proofs.Counting.{both, timeout_counts}
use Rattle.sender.proofs.confirmation.ack_nak_timeout.Goals as goal

pub returns : goal.returns
returns c = both c.args.s [] (search rules) (timeout_counts c.args.s)
