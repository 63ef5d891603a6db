-- No frame asked for reports anything, at any record and with any buffers.
use Prim.Native.Nat.{ℕ}
use mathlib.Core.List.{List}
use mathlib.Core.Path.{◌≡◌, refl, sym, subst}
use lib.Dec.{leb}
use lib.ListN.{length}
use Rattle.status.specs.Entry.{entry_of}
use Rattle.status.specs.Answer.{Said, view, Left, ◌saying◌}
use Rattle.status.specs.Report.{Report}
use Rattle.status.proofs.Leaves.{picked, unless_gives}
use Rattle.frame.specs.Write.{hands}
use Rattle.sender_steps.specs.Record.{lent_of}
use Rattle.sender_steps.specs.Transmit.{waits_of, frame_of, sent_of}
use Rattle.sender_steps.specs.declared.types.Sender.{Sender}
use Rattle.sender.specs.Transmit.{next_of}
use Rattle.initiator.specs.WriteSend as write
use Rattle.initiator.specs.declared.types.Writer.{Writer}
use Rattle.initiator.proofs.WriteReturns.{kept_says}
use Rattle.target.specs.ReadSend.{read_next_of}

abbrev pub Quiet : Said → Type 0
Quiet a = (view a).report ≡ Report.none

abbrev QuietLeft : {X : Type 0} → Left X → Type 0
QuietLeft x = Quiet x.says

next_quiet : (s : Sender) (d out : List ℕ) → Quiet (next_of s d out).says
unfolding next_of hands
next_quiet s d out =
    unless_gives QuietLeft (entry_of (lent_of s (length d)) s.ended) s _ (λ n. refl)
    (picked QuietLeft (waits_of s) _ _ refl (picked QuietLeft (leb (length (frame_of s d)) (length out)) (sent_of s saying Said.frame (length (frame_of s d))) (s saying Said.refused 3) refl refl))

pub read_quiet : (s : Sender) (d out : List ℕ) → Quiet (read_next_of s d out).says
read_quiet s d out = picked QuietLeft s.transfer.write _ _ refl (next_quiet s d out)

pub write_quiet : (w : Writer) (d out : List ℕ) → Quiet (write.next_of w d out).says
unfolding write.next_of
write_quiet w d out =
    unless_gives QuietLeft (entry_of (write.lent_of w (length d)) w.sender.ended) w _ (λ n. refl)
    (picked QuietLeft (write.held_up w) _ _ refl (subst Quiet (sym (kept_says w (write.reached_of (write.begun_of w) (next_of (write.begun_of w).sender d out)))) (next_quiet (write.begun_of w).sender d out)))
