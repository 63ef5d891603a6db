use Rattle.std.proofs.Common.{arith, ap, ◌∙◌}
use Rattle.ladder_text.specs.Laws.{VerdictFits}
use Rattle.ladder_text.proofs.Lengths.{within_room}
use Rattle.ladder_run.specs.Line.{verdict_of}
use Rattle.ladder_print.proofs.Climbing.{climbing_first, climbing_next, climbing_stuck, climbing_over, climbed_tries}
use Rattle.ladder_print.proofs.climb.climb_if_room.Goals as goal
use Rattle.ladder_print.proofs.climb.climb_if_room.Goals.{else-loop-test, then-loop-test+in_default}

pub loop-init : goal.loop-init
loop-init c = climbing_first c.args.fates.now c.args.source.now c.args.out.now c.args.received.now c.args.start 38_292 (omega arith)

pub returns-in_err-at : goal.returns-in_err-at
returns-in_err-at c = climbing_stuck c.loop.invariant c.in-Row.r c.put_ended.ensures c.in_err-at.was c.from_residual.ensures

pub loop-preserved : goal.loop-preserved
loop-preserved c = climbing_next c.loop.invariant c.next_line-x.ensures (omega arith) _ (omega arith) c.in-Row.is c.put_ended.ensures c.in_ok-at.was

pub returns : goal.returns
returns c =
    let fits : VerdictFits c.verdict.result = record { number = omega arith; frames = omega arith; faults = omega arith; filled = omega arith } in
    let short = within_room.verdict c.verdict.result fits in
    elim c.loop-test.branch [
      | else-loop-test w ↦ climbed_tries c.loop.invariant (omega (arith, w.loop-test.false)) (c.verdict.ensures ∙ ap (verdict_of c.args.fates.now) w.l-is) short c.put_ended-2.ensures
      | then-loop-test+in_default w ↦
          climbed_tries (climbing_over c.loop.invariant w.next_line-x.ensures (omega (arith, w.loop-test.true)) w.in_default.is)
          (omega arith) (c.verdict.ensures ∙ ap (verdict_of c.args.fates.now) w.l-is) short c.put_ended-2.ensures
    ]
