use Rattle.std.proofs.Common.{arith}
use Rattle.ladder_print.proofs.Tried.{if_room, too_long, too_short}
use Rattle.ladder_print.proofs.text.print_if_room.Goals as goal
use Rattle.ladder_print.proofs.text.print_if_room.Goals.{in_default-via-in-Some+else-n-out, in_default-via-in_default}

pub overflow_add-n : goal.overflow_add-n
overflow_add-n c = omega (arith, (c.whole.ensures.text _ c.in-Some.is).1)

pub returns-in-Some : goal.returns-in-Some
returns-in-Some c = if_room c.whole.ensures _ c.in-Some.is (omega (arith, c.whole.auto.out, c.if-n-out.true))

pub returns-in_default : goal.returns-in_default
returns-in_default c =
    let zeros = c.fill.ensures.after (λ y p. p) in
    elim c.in_default.branch [
      | in_default-via-in-Some+else-n-out w ↦ too_long c.whole.ensures _ w.in-Some.is (omega (arith, c.whole.auto.out, w.if-n-out.false)) zeros c.whole.auto.out
      | in_default-via-in_default w ↦ too_short c.whole.ensures w.in_default.is zeros c.whole.auto.out
    ]
