use Prim.Native.Nat.{◌-◌}
use Rattle.sender_steps.specs.Confirmation.{ack_step_of}
use mathlib.Core.List.{[]}
use mathlib.Core.Path.{◌∙◌}
use Rattle.std.proofs.Common.{rules}
use Rattle.initiator.specs.WriteSend.{served_of}
use Rattle.initiator.proofs.WriteCounts.{both, ack_counts}
use Rattle.initiator.proofs.WriteSteps.{acked_is}
use Rattle.initiator.proofs.write_send.write_ack_received.Goals as goal

pub returns : goal.returns
returns c = let w = c.args.w in both w [] (rw c.confirmable.ensures at (c.unless.ensures (served_of w (ack_step_of w.sender) (w.sender.unanswered - 1)) (λ r p. search rules)) ∙ acked_is w) (ack_counts w)
