use mathlib.Core.Path.{refl, sym, ◌∙◌}
use Rattle.sender_steps.specs.Transmit.{frame_of}
use Rattle.sender.proofs.Counting.{next_counts}
use Rattle.target.proofs.ReadSteps.{reads_out}
use Rattle.target.proofs.read_send.read_next_frame.Goals as goal

pub returns-in-Err : goal.returns-in-Err
returns-in-Err c =
    let a = c.args in
    reads_out a.s (frame_of a.s a.buffer.now) _ (sym c.in-Err.is ∙ c.is_read.ensures) (next_counts a.s a.buffer.now a.out.now) a.out.now (c.refused.ensures, refl)

pub returns-in-Ok : goal.returns-in-Ok
returns-in-Ok c =
    let a = c.args in
    let n = c.next_frame.ensures in
    reads_out a.s (frame_of a.s a.buffer.now) _ (sym c.in-Ok.is ∙ c.is_read.ensures) (next_counts a.s a.buffer.now a.out.now) a.out.now (n.0, n.1)
