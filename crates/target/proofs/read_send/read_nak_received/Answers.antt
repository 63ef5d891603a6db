use mathlib.Core.List.{[]}
use Rattle.std.proofs.Common.{rules}
use Rattle.sender.specs.Confirmation.{nak_of}
use Rattle.sender.proofs.Counting.{nak_counts}
use Rattle.target.proofs.ReadSteps.{reads}
use Rattle.target.proofs.read_send.read_nak_received.Goals as goal

pub returns : goal.returns
returns c = reads c.args.s [] _ c.is_read.ensures (nak_counts c.args.s) (c.unless.ensures (nak_of c.args.s) (λ r p. search rules))
