use mathlib.Core.List.{[]}
use Rattle.initiator.proofs.WriteCounts.{both, timeout_counts}
use Rattle.initiator.proofs.write_send.write_ack_nak_timeout.Goals as goal

pub returns : goal.returns
returns c = both c.args.w [] (rw (c.ack_nak_timeout.ensures.0) at c.confirmed.ensures) (timeout_counts c.args.w)
