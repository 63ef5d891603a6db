-- In the common case the definition of a frame asked for at a read's target gives this: the frame, or "wait".
use Prim.Native.Nat.{ℕ, ◌+◌}
use mathlib.Core.List.{List}
use mathlib.Core.Bool.{false}
use mathlib.Core.Path.{◌≡◌, refl, sym, ap, subst, ◌∙◌}
use lib.ListN.{length}
use Rattle.status.specs.Answer.{Word, Said, Left, ◌saying◌}
use Rattle.status.proofs.Choose.{in_true, in_false}
use Rattle.status.proofs.OpenedCall.{open_entry}
use Rattle.frame.specs.Write.{over, handing, hands}
use Rattle.sender_steps.specs.Transmit.{frame_of, sent_of}
use Rattle.sender_steps.specs.declared.types.Sender.{Sender}
use Rattle.sender.specs.Transmit.{next_of}
use Rattle.sender.proofs.Next.{next_waits, next_due}
use Rattle.target.specs.ReadSend.{read_next_of}
use Rattle.ssp.specs.CAnswer.{Leaves, answer_with, word}
use Rattle.ssp.specs.ShortSend.{Full, FullFrame, ReadLent, WaitDue}
use Rattle.ssp.specs.declared.types.CAnswer.{CAnswer}
use Rattle.ssp.proofs.FullFrame.{not_waiting, frame_length, frame_fits}

-- the sending port hands the frame out
pub hands_full : (h : Sender) (d w : List ℕ) → Full h (length d) (length w) → h.ended ≡ false → next_of h d w ≡ (sent_of h saying Said.frame (24 + h.transfer.size))
unfolding hands
hands_full h d w f o =
    next_due h d w (open_entry _ _ f.1 o) (not_waiting h (length d) (length w) f) ∙
    sym (in_true _ _ _ _ (frame_fits h d w f) refl) ∙
    ap (λ (n : ℕ). sent_of h saying Said.frame n) (frame_length h d w f)

module _ (h : Sender) (d w : List ℕ) (x : Sender) (r : CAnswer) (zs : List ℕ) where
  abbrev Gives : Left Sender → Type 0
  Gives y = Leaves y x r × (zs ≡ handing y.says (frame_of h d) w)

  reads : (y : Left Sender) → ReadLent h (length d) → next_of h d w ≡ y → Gives y → Gives (read_next_of h d w)
  reads y l e = subst Gives (in_false h.transfer.write y _ (next_of h d w) l.0 (sym e))

  pub full_frame : FullFrame h (length d) (length w) → (r ≡ answer_with 0 3 0 0 (24 + h.transfer.size)) × (zs ≡ over (frame_of h d) w) → x ≡ sent_of h → Leaves (read_next_of h d w) x r × (zs ≡ handing (read_next_of h d w).says (frame_of h d) w)
  full_frame q s l = reads (sent_of h saying Said.frame (24 + h.transfer.size)) q.1 (hands_full h d w (q.0, q.1.2) q.1.1) ((l, s.0), s.1)

  pub waiting : WaitDue h (length d) → (r ≡ word 2) × (zs ≡ w) → x ≡ h → Leaves (read_next_of h d w) x r × (zs ≡ handing (read_next_of h d w).says (frame_of h d) w)
  waiting q s l = reads (h saying Said.word Word.wait) q.1 (next_waits h d w (open_entry _ _ q.1.2 q.1.1) q.0) ((l, s.0), s.1)
