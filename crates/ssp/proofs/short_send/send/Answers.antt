use native.Mathlib.Omega.{arith}
use Rattle.sender_steps.proofs.Held.{held}
use Rattle.ssp.proofs.FullFrame.{sized, sent_is}
use Rattle.ssp.proofs.short_send.send.Goals as goal

pub overflow_add-s-3 : goal.overflow_add-s-3
overflow_add-s-3 c = omega (arith, (held _ c.requires.2).marks.frames_most)

pub returns : goal.returns
returns c = sent_is _ (sized _ c.requires)
