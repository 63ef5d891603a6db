use Rattle.std.proofs.Common.{◌-◌}
use Rattle.ladder_run.specs.Whole.{whole_of}
use Rattle.ladder_print.proofs.Climbing.{Climbing}
use Rattle.ladder_print.proofs.climb.climb_if_room.Given as goal

-- what stands printed and what is to come are the whole ladder
abbrev pub invariant-loop : goal.invariant-loop
invariant-loop l =
    Climbing l.fates l.source l.initial.out (whole_of l.fates l.source l.fn.start l.initial.received) l.received l.out l.l l.at (38_292 - l.counter)
