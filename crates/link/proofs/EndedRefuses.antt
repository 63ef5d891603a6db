-- An ended record refuses every call: each port's own law, over the list of calls.
use Prim.Native.Nat.{ℕ}
use mathlib.Core.List.{List, []}
use mathlib.Core.Bool.{Bool, true, false}
use mathlib.Core.Path.{◌≡◌, refl, ap, ◌∙◌}
use lib.ListN.{length}
use Rattle.status.specs.Answer.{Said, Left, ◌saying◌}
use Rattle.frame.specs.Read.{header_in, iu_of}
use Rattle.frame.specs.Write.{handing}
use Rattle.sender_steps.specs.Transmit.{frame_of}
use Rattle.sender_steps.specs.declared.types.Sender.{Sender}
use Rattle.receiver_steps.specs.DataFrame.{storing}
use Rattle.receiver_steps.specs.declared.types.Receiver.{Receiver}
use Rattle.sender.proofs.Ended as sender
use Rattle.receiver.proofs.Views as receiver
use Rattle.initiator.specs.WriteSend.{begun_of}
use Rattle.initiator.specs.declared.types.Writer.{Writer}
use Rattle.initiator.proofs.ReadViews.{read_arrival_ended, read_loss_ended}
use Rattle.initiator.proofs.WriteEnded as initiator
use Rattle.target.specs.Transmit as target-ask
use Rattle.target.specs.ReadSend.{only_read}
use Rattle.target.specs.declared.types.Target.{Target}
use Rattle.target.proofs.ReadSteps.{only_write, only_read_lem}
use Rattle.target.proofs.Ended as target
use Rattle.link.specs.Ports.{lending, Signal}
use Rattle.link.specs.Calls.{read_signalled, signalled, SenderCall, sender_call, ReaderCall, reader_call, write_signalled, WriterCall, writer_call, target_signalled, TargetCall, target_call}
use Rattle.link.specs.EndedRefuses.{Refused, EndedRefuses}

-- refused, of the record alone
abbrev Closed : {X : Type 0} → X → Left X → Type 0
Closed x y = (n : ℕ) × (y ≡ (x saying Said.refused n))

-- with a buffer f of the answer, which a refusal leaves as it was
lent : {X : Type 0} {x : X} {y : Left X} (f : Said → List ℕ) {b : List ℕ} → ((n : ℕ) → f (Said.refused n) ≡ b) → Closed x y → Refused x b (lending y (f y.says))
lent {X = X} {x = x} f same p = (p.0, ap (λ (z : Left X). lending z (f z.says)) p.1 ∙ ap (lending (x saying Said.refused p.0)) (same p.0))

-- a write's record is 1
only : (s : Sender) {y : Left Sender} → Closed s y → Closed s (only_read s y)
only s {y = y} p = go s.transfer.write refl
  where
    go : (t : Bool) → s.transfer.write ≡ t → Closed s (only_read s y)
    go true e = (1, only_write s y e)
    go false e = (p.0, only_read_lem s y e ∙ p.1)

core : (g : Signal) (s : Sender) → s.ended ≡ true → Closed s (signalled g s)
core Signal.ack s e = sender.ack_ended s e
core Signal.nak s e = sender.nak_ended s e
core Signal.timeout s e = sender.timeout_ended s e
core Signal.cut s e = sender.cut_ended s e
core Signal.loss s e = sender.loss_ended s e

reads : (g : Signal) (s : Sender) → s.ended ≡ true → Closed s (read_signalled g s)
reads Signal.ack s e = only s (core Signal.ack s e)
reads Signal.nak s e = only s (core Signal.nak s e)
reads Signal.timeout s e = only s (core Signal.timeout s e)
reads Signal.cut s e = only s (core Signal.cut s e)
reads Signal.loss s e = only s (core Signal.loss s e)

sends : (c : SenderCall) (s : Sender) → s.ended ≡ true → Closed s (sender_call c s)
sends (SenderCall.bytes f) s e = target.read_refuses s f
sends (SenderCall.core_ask d out) s e = sender.next_ended s e d out
sends (SenderCall.core_signal g) s e = core g s e

receives : (c : ReaderCall) (r : Receiver) (b : List ℕ) → r.ended ≡ true → Refused r b (reader_call c r b)
receives (ReaderCall.bytes f) r b e = lent (λ a. storing a (header_in f).offset (iu_of f) b) (λ n. refl) (read_arrival_ended r e f (length b))
receives ReaderCall.loss r b e = lent (λ a. b) (λ n. refl) (read_loss_ended r e)
receives (ReaderCall.core_data offset cdp iu) r b e = lent (λ a. storing a offset iu b) (λ n. refl) (receiver.ended_refuses r offset cdp (length iu) (length b) e)
receives ReaderCall.core_loss r b e = lent (λ a. b) (λ n. refl) (receiver.loss_ended r e)

writes : (g : Signal) (w : Writer) → w.sender.ended ≡ true → Closed w (write_signalled g w)
writes Signal.ack w e = initiator.ack_ended w e
writes Signal.nak w e = initiator.nak_ended w e
writes Signal.timeout w e = initiator.timeout_ended w e
writes Signal.cut w e = initiator.cut_ended w e
writes Signal.loss w e = initiator.loss_ended w e

calls : (c : WriterCall) (w : Writer) → w.sender.ended ≡ true → Closed w (writer_call c w)
calls (WriterCall.asking d out) w e = initiator.next_ended w e d out
calls (WriterCall.signals g) w e = writes g w e
calls (WriterCall.bytes f) w e = initiator.arrival_ended w e f

targets : (g : Signal) (y : Target) → y.receiver.ended ≡ true → Closed y (target_signalled g y)
targets Signal.ack y e = target.ack_ended y e
targets Signal.nak y e = target.nak_ended y e
targets Signal.timeout y e = target.timeout_ended y e
targets Signal.cut y e = target.cut_ended y e
targets Signal.loss y e = target.loss_ended y e

takes : (c : TargetCall) (y : Target) (b : List ℕ) → y.receiver.ended ≡ true → Refused y b (target_call c y b)
takes (TargetCall.bytes f) y b e = lent (λ a. storing a (header_in f).offset (iu_of f) b) (λ n. refl) (target.arrival_ended y e f (length b))
takes TargetCall.asking y b e = lent (λ a. handing a (target-ask.frame_of y) b) (λ n. refl) (target.next_ended y e b)
takes (TargetCall.signals g) y b e = lent (λ a. b) (λ n. refl) (targets g y e)
takes (TargetCall.time ms) y b e = lent (λ a. b) (λ n. refl) (target.time_ended y e ms)

pub ended_refuses : EndedRefuses
ended_refuses =
    record {
      read_asked_lem = λ s d out e. lent (λ a. handing a (frame_of s d) out) (λ n. refl) (only s (sender.next_ended s e d out));
      read_signalled_lem = λ g s e. lent (λ a. []) (λ n. refl) (reads g s e);
      sender = λ c s e. lent (λ a. []) (λ n. refl) (sends c s e);
      sender_asked = λ s d out e. lent (λ a. handing a (frame_of s d) out) (λ n. refl) (sender.next_ended s e d out);
      reader = receives;
      write_asked_lem = λ w d out e. lent (λ a. handing a (frame_of (begun_of w).sender d) out) (λ n. refl) (initiator.next_ended w e d out);
      writer = λ c w e. lent (λ a. []) (λ n. refl) (calls c w e);
      target = takes;
    }
