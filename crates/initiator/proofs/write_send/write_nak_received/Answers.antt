use mathlib.Core.List.{[]}
use Rattle.initiator.proofs.WriteCounts.{both, nak_counts}
use Rattle.initiator.proofs.write_send.write_nak_received.Goals as goal

pub returns : goal.returns
returns c = both c.args.w [] (rw (c.nak_received.ensures.0, c.less_one-left.ensures) at c.confirmed.ensures) (nak_counts c.args.w)
