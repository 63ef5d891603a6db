use Rattle.ladder_print.proofs.Files.{few, count_most}
use Rattle.ladder_print.proofs.run.in_large_buffers.Goals as goal

pub from_start-requires-clause-fates : goal.from_start-requires-clause-fates
from_start-requires-clause-fates c = few _ _ _ c.args.s.taken

pub from_start-requires-clause-bytes : goal.from_start-requires-clause-bytes
from_start-requires-clause-bytes c = count_most _ _ _ c.args.s.taken
