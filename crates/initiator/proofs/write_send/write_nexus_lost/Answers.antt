use mathlib.Core.List.{[]}
use Rattle.std.proofs.Common.{rules}
use Rattle.sender.specs.Confirmation as confirmation
use Rattle.initiator.specs.WriteSend.{lifted_of}
use Rattle.initiator.proofs.WriteCounts.{both, loss_counts}
use Rattle.initiator.proofs.write_send.write_nexus_lost.Goals as goal

pub returns : goal.returns
returns c =
    let w = c.args.w in
    both w [] (rw c.admitted.ensures at (c.unless.ensures (lifted_of w (confirmation.loss_of w.sender)) (λ r p. search rules))) (loss_counts w)
