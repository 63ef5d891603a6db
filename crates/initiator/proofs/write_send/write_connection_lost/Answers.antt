use mathlib.Core.List.{[]}
use Rattle.initiator.proofs.WriteCounts.{both, cut_counts}
use Rattle.initiator.proofs.write_send.write_connection_lost.Goals as goal

pub returns : goal.returns
returns c = both c.args.w [] (rw (c.connection_lost.ensures.0) at c.confirmed.ensures) (cut_counts c.args.w)
