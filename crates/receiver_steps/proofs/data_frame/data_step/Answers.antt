use borrow.Author.Tests.{le-leb, lt-leb}
use mathlib.Core.Path.{refl}
use Rattle.status.specs.Pick.{pick}
use Rattle.receiver_steps.specs.DataFrame.{data_step_of}
use Rattle.receiver_steps.proofs.data_frame.data_step.Goals as goal

-- 1 where the burst passes the buffer; else `take` does it.

pub returns-then-buffer-r : goal.returns-then-buffer-r
unfolding data_step_of pick
returns-then-buffer-r c = rw (lt-leb _ _ c.if-buffer-r.true) (c.refused.ensures, refl)

pub returns : goal.returns
unfolding data_step_of pick
returns c = rw (le-leb _ _ c.if-buffer-r.false) c.take.ensures
