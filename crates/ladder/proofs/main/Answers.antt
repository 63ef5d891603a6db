use Rattle.std.proofs.Common.{arith}
use Rattle.ladder_print.proofs.Tried.{within, text_taken}
use Rattle.ladder.proofs.main.Goals as goal

pub slice_bounds-out-end : goal.slice_bounds-out-end
slice_bounds-out-end c = omega (arith, within c.print_ladder.ensures (omega (arith, c.buffer-out.ensures)) c.in-Some.is, c.print_ladder.auto.out)

pub slice_bounds-write_whole-end : goal.slice_bounds-write_whole-end
slice_bounds-write_whole-end c = text_taken c.print_ladder.ensures (omega (arith, c.buffer-out.ensures)) c.in-Some.is
