use Rattle.std.proofs.Common.{arith}
use Rattle.ladder_print.proofs.Files.{thirds}
use Rattle.ladder_print.proofs.run.from_start_if_room.Goals as goal

pub from_start-requires-clause-fates : goal.from_start-requires-clause-fates
from_start-requires-clause-fates c = omega (arith, thirds _ _ _ c.args.s.taken)
