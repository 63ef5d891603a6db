use Rattle.std.proofs.Common.{arith}
use Rattle.ladder_print.proofs.Filled.{fates_length, some_room, gathered}
use Rattle.ladder_print.proofs.data.gather.Goals as goal

pub bounds-fates-n : goal.bounds-fates-n
bounds-fates-n c =
    let l = fates_length c.loop-at.invariant c.requires in
    let r = some_room c.loop-at.invariant c.requires c.loop-at-test.true c.next_fate-f.ensures in
    omega arith

pub returns : goal.returns
returns c = gathered c.loop-at.invariant c.requires c.loop-at-test.false
