use native.Mathlib.Omega.{arith}
use mathlib.Core.Path.{refl, ap}
use Rattle.status.specs.Result.{Result, granted}
use Rattle.status.proofs.Choose.{each, in_true, in_false}
use Rattle.transfer.proofs.Bounds.{bounds}
use Rattle.receiver_steps.specs.declared.types.Receiver.{Receiver}
use Rattle.receiver.specs.Record.{set_up_tests}
use Rattle.receiver.proofs.record.set_up_read.Goals as goal

pub overflow_cast-past : goal.overflow_cast-past
overflow_cast-past c =
    let h = each (set_up_tests c.args.t) (rw c.limits_hold.ensures at c.if-limits_hold-t.true) in
    omega (arith, c.past.ensures, (bounds _ h.0).past_most)

pub returns-then-limits_hold-t : goal.returns-then-limits_hold-t
unfolding granted
returns-then-limits_hold-t c = in_true _ _ _ _ (rw c.limits_hold.ensures at c.if-limits_hold-t.true) (ap (λ (r : Receiver). Result.value r) (rw (← c.past.ensures) c.begin.ensures))

pub returns-else-limits_hold-t : goal.returns-else-limits_hold-t
unfolding granted
returns-else-limits_hold-t c = in_false _ _ _ _ (rw c.limits_hold.ensures at c.if-limits_hold-t.false) refl
