use mathlib.Core.List.{[]}
use Rattle.std.proofs.Common.{rules}
use Rattle.sender.specs.Confirmation.{cut_of}
use Rattle.sender.proofs.Counting.{cut_counts}
use Rattle.target.proofs.ReadSteps.{reads}
use Rattle.target.proofs.read_send.read_connection_lost.Goals as goal

pub returns : goal.returns
returns c = reads c.args.s [] _ c.is_read.ensures (cut_counts c.args.s) (c.unless.ensures (cut_of c.args.s) (λ r p. search rules))
