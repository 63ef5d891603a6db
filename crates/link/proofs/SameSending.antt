-- A read's target and a write's initiator are the sending port (`same_sending`).
use Prim.Native.Nat.{ℕ, ◌-◌, ◌≤◌, ◌<◌, max}
use mathlib.Core.List.{List}
use mathlib.Core.Bool.{Bool, true, false}
use mathlib.Core.Logic.{◌⊎◌, inl, inr}
use mathlib.Core.Path.{◌≡◌, refl, sym, ap, ◌∙◌}
use native.Mathlib.Omega.{arith}
use lib.ListN.{length}
use borrow.Author.Tests.{ne_eqb}
use Rattle.status.specs.Pick.{pick, ◌with◌}
use Rattle.status.specs.Answer.{Word, Said, Left, ◌saying◌, refuses}
use Rattle.status.proofs.Leaves.{refused_same}
use Rattle.status.proofs.OpenedCall.{differ, open_entry}
use Rattle.frame.specs.Write.{handing}
use Rattle.sender_steps.specs.Fields.{unanswered≔}
use Rattle.sender_steps.specs.Transmit.{frame_of}
use Rattle.sender_steps.specs.declared.types.Sender.{Sender}
use Rattle.sender.specs.Transmit.{next_of}
use Rattle.sender.proofs.Ended.{Ended, next_leaves}
use Rattle.initiator.specs.Fields.{sender≔, reached≔}
use Rattle.initiator.specs.WriteRecord.{holds_of, starts_of}
use Rattle.initiator.specs.WriteSend.{begun_of, lent_of, held_up, counted_of, reached_of, lifted_of, confirmed_of}
use Rattle.initiator.specs.WriteSend as write
use Rattle.initiator.specs.declared.types.Writer.{Writer}
use Rattle.initiator.proofs.WriteHeld.{held, lent, lent_again}
use Rattle.initiator.proofs.WriteSame.{ack_is, nak_is, timeout_is, cut_is, loss_is, begun_same, next_is}
use Rattle.target.proofs.ReadSteps.{only_read_lem}
use Rattle.link.specs.Ports.{lending, Signal}
use Rattle.link.specs.Calls.{read_signalled, signalled, write_asked, write_signalled}
use Rattle.link.specs.SameSending.{Waits, SameSending}

read_told : (g : Signal) (s : Sender) → s.transfer.write ≡ false → read_signalled g s ≡ signalled g s
read_told Signal.ack s e = only_read_lem s _ e
read_told Signal.nak s e = only_read_lem s _ e
read_told Signal.timeout s e = only_read_lem s _ e
read_told Signal.cut s e = only_read_lem s _ e
read_told Signal.loss s e = only_read_lem s _ e

write_told : (g : Signal) (w : Writer) → holds_of w ≡ true → w.pending ≡ false → write_signalled g w ≡ lifted_of w (signalled g w.sender)
write_told Signal.ack w h p = ack_is w h p
write_told Signal.nak w h p = nak_is w h p
write_told Signal.timeout w h p = timeout_is w h p
write_told Signal.cut w h p = cut_is w h p
write_told Signal.loss w h p = loss_is w h

module _ (w : Writer) (d out : List ℕ) (l : lent_of w (length d) ≡ true) (p : w.pending ≡ false) where
  abbrev x : Left Sender
  x = next_of w.sender d out

  -- a refusal leaves the record, and the furthest offset is not below the next one
  stays : refuses x.says ≡ true → w ≡ (w with sender≔ x.left with reached≔ (max w.reached x.left.next))
  stays r =
      let e = sym (refused_same Ended w.sender x (next_leaves w.sender d out) r) in
      let m = (held w (lent w (length d) l).0).marks.reached_least in
      (λ i. w with reached≔ (far m i)) ∙ (λ i. w with sender≔ (e i) with reached≔ (max w.reached (e i).next))
    where
      far : w.sender.next ≤ w.reached → w.reached ≡ max w.reached w.sender.next
      far m = omega (arith, m)

  asked_is : write.next_of w d out ≡ reached_of w x
  unfolding pick
  asked_is = next_is w d out l p ∙ go (refuses x.says) refl
    where
      go : (t : Bool) → refuses x.says ≡ t → pick t (w saying x.says) (reached_of w x) ≡ reached_of w x
      go true r = ap (λ (v : Writer). v saying x.says) (stays r)
      go false r = refl

  write_asks : write_asked w d out ≡ lending (reached_of w (next_of w.sender d out)) (handing (next_of w.sender d out).says (frame_of w.sender d) out)
  write_asks i = lending (asked_is i) (handing (asked_is i).says (frame_of (begun_same w p i).sender d) out)

-- while a taken burst waits, n is the count that is left
module _ (w : Writer) (v : Waits w) (some : 0 < w.sender.unanswered) where
  held_up_lem : held_up w ≡ true
  held_up_lem = rw (v.pending, ne_eqb w.sender.unanswered 0 (λ e. omega (arith, e, some))) refl

  counts : (step : Left Sender) (n : ℕ) → confirmed_of w step n ≡ counted_of w n
  unfolding confirmed_of pick
  counts step n = rw (open_entry _ _ v.holds v.live, held_up_lem) refl

counted_more : (w : Writer) (n : ℕ) → (n ≡ 0 → ⊥) → counted_of w n ≡ ((w with sender≔ (w.sender with unanswered≔ n)) saying Said.word Word.taken)
unfolding counted_of pick
counted_more w n f = rw (ne_eqb n 0 f) refl

counted_none : (w : Writer) (n : ℕ) → n ≡ 0 → counted_of w n ≡ (starts_of w saying Said.word Word.taken)
unfolding counted_of pick
counted_none w n e = rw e refl

lowers : (g : Signal) (w : Writer) → Waits w → (g ≡ Signal.ack) ⊎ (g ≡ Signal.nak) → 1 < w.sender.unanswered → write_signalled g w ≡ ((w with sender≔ (w.sender with unanswered≔ (w.sender.unanswered - 1))) saying Said.word Word.taken)
lowers Signal.ack w v e l = counts w v (omega (arith, l)) _ _ ∙ counted_more w _ (λ q. omega (arith, q, l))
lowers Signal.nak w v e l = counts w v (omega (arith, l)) _ _ ∙ counted_more w _ (λ q. omega (arith, q, l))
lowers Signal.timeout w v (inl e) l = differ (cc)
lowers Signal.timeout w v (inr e) l = differ (cc)
lowers Signal.cut w v (inl e) l = differ (cc)
lowers Signal.cut w v (inr e) l = differ (cc)
lowers Signal.loss w v (inl e) l = differ (cc)
lowers Signal.loss w v (inr e) l = differ (cc)

starts : (g : Signal) (w : Writer) → Waits w → (g ≡ Signal.ack) ⊎ (g ≡ Signal.nak) → w.sender.unanswered ≡ 1 → write_signalled g w ≡ (starts_of w saying Said.word Word.taken)
starts Signal.ack w v e u = counts w v (omega (arith, u)) _ _ ∙ counted_none w _ (omega (arith, u))
starts Signal.nak w v e u = counts w v (omega (arith, u)) _ _ ∙ counted_none w _ (omega (arith, u))
starts Signal.timeout w v (inl e) u = differ (cc)
starts Signal.timeout w v (inr e) u = differ (cc)
starts Signal.cut w v (inl e) u = differ (cc)
starts Signal.cut w v (inr e) u = differ (cc)
starts Signal.loss w v (inl e) u = differ (cc)
starts Signal.loss w v (inr e) u = differ (cc)

clears : (g : Signal) (w : Writer) → Waits w → (g ≡ Signal.timeout) ⊎ (g ≡ Signal.cut) → 0 < w.sender.unanswered → write_signalled g w ≡ (starts_of w saying Said.word Word.taken)
clears Signal.timeout w v e u = counts w v u _ _ ∙ counted_none w 0 refl
clears Signal.cut w v e u = counts w v u _ _ ∙ counted_none w 0 refl
clears Signal.ack w v (inl e) u = differ (cc)
clears Signal.ack w v (inr e) u = differ (cc)
clears Signal.nak w v (inl e) u = differ (cc)
clears Signal.nak w v (inr e) u = differ (cc)
clears Signal.loss w v (inl e) u = differ (cc)
clears Signal.loss w v (inr e) u = differ (cc)

-- a frame asked for while a taken burst waits
module _ (w : Writer) (d out : List ℕ) (v : Waits w) (e : length d ≡ w.sender.transfer.count) (some : 0 < w.sender.unanswered) where
  waiting : write.next_of w d out ≡ (w saying Said.word Word.wait)
  unfolding write.next_of pick
  waiting = rw (open_entry _ _ (lent_again w (length d) v.holds e) v.live, held_up_lem w v some) refl

  waits : write_asked w d out ≡ lending (w saying Said.word Word.wait) out
  waits = ap (λ (x : Left Writer). lending x (handing x.says (frame_of (begun_of w).sender d) out)) waiting

pub same_sending : SameSending
same_sending =
    record {
      read_asked_lem = λ s d out e i. lending (only_read_lem s (next_of s d out) e i) (handing (only_read_lem s (next_of s d out) e i).says (frame_of s d) out);
      read_signalled_lem = read_told;
      write_asked_lem = write_asks;
      write_signalled_lem = write_told;
      waits = waits;
      lowers = lowers;
      starts = starts;
      clears = clears;
    }
