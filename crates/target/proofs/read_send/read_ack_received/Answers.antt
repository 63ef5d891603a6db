use mathlib.Core.List.{[]}
use Rattle.std.proofs.Common.{rules}
use Rattle.sender.specs.Confirmation.{ack_of}
use Rattle.sender.proofs.Counting.{ack_counts}
use Rattle.target.proofs.ReadSteps.{reads}
use Rattle.target.proofs.read_send.read_ack_received.Goals as goal

pub returns : goal.returns
returns c = reads c.args.s [] _ c.is_read.ensures (ack_counts c.args.s) (c.unless.ensures (ack_of c.args.s) (λ r p. search rules))
