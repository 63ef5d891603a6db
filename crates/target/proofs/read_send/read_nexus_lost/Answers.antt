use mathlib.Core.List.{[]}
use Rattle.std.proofs.Common.{rules}
use Rattle.sender.specs.Confirmation.{loss_of}
use Rattle.sender.proofs.Counting.{loss_counts}
use Rattle.target.proofs.ReadSteps.{reads}
use Rattle.target.proofs.read_send.read_nexus_lost.Goals as goal

pub returns : goal.returns
returns c = reads c.args.s [] _ c.is_read.ensures (loss_counts c.args.s) (c.unless.ensures (loss_of c.args.s) (λ r p. search rules))
