use native.Mathlib.Omega.{arith}
use Rattle.status.proofs.Choose.{each}
use Rattle.transfer.proofs.Bounds.{bounds}
use Rattle.sender.specs.Record.{set_up_tests}
use Rattle.sender.proofs.record.set_up_read.Goals as goal

pub overflow_cast-end : goal.overflow_cast-end
overflow_cast-end c =
    let h = each (set_up_tests c.args.t) (rw c.limits_hold.ensures at c.if-limits_hold-t.true) in
    omega (arith, c.past-end.ensures, (bounds _ h.0).past_most)
