-- A refusal leaves record and buffer, a failure ends the record (`demand_1`): each port's own law, over the list of calls.
use Prim.Native.Nat.{ℕ}
use mathlib.Core.List.{List, []}
use mathlib.Core.Path.{◌≡◌, refl, sym, ap, subst, ◌∙◌}
use lib.ListN.{length}
use Rattle.status.specs.Answer.{Said, view, Left, refuses}
use Rattle.status.specs.Report.{Report}
use Rattle.status.proofs.Leaves.{Leaves, picked, refusal_same, failure_ends}
use Rattle.status.proofs.OpenedCall.{differ}
use Rattle.frame.specs.Read.{header_in, iu_of}
use Rattle.frame.specs.Write.{handing}
use Rattle.sender_steps.specs.Transmit.{frame_of}
use Rattle.sender_steps.specs.declared.types.Sender.{Sender}
use Rattle.receiver_steps.specs.DataFrame.{storing}
use Rattle.receiver_steps.specs.declared.types.Receiver.{Receiver}
use Rattle.sender.proofs.Ended as sender
use Rattle.receiver.proofs.Views as receiver
use Rattle.initiator.specs.WriteSend.{begun_of}
use Rattle.initiator.specs.WriteSend as write
use Rattle.initiator.specs.declared.types.Writer.{Writer}
use Rattle.initiator.proofs.ReadViews.{read_arrival_leaves, read_loss_leaves}
use Rattle.initiator.proofs.WriteEnded as initiator
use Rattle.target.specs.Transmit as target-ask
use Rattle.target.specs.ReadSend.{only_read}
use Rattle.target.specs.declared.types.Target.{Target}
use Rattle.target.proofs.Ended as target
use Rattle.link.specs.Ports.{lending, Signal}
use Rattle.link.specs.Calls.{read_signalled, signalled, SenderCall, sender_call, ReaderCall, reader_call, write_signalled, WriterCall, writer_call, target_signalled, TargetCall, target_call}
use Rattle.link.specs.ByAnswer.{ByAnswer, Demand1}
use Rattle.link.proofs.Quiet.{write_quiet}

-- with a buffer f of the answer, which a refusal leaves as it was
by : {X : Type 0} (End : X → Type 0) (x : X) (y : Left X) (f : Said → List ℕ) {b : List ℕ} → ((n : ℕ) → f (Said.refused n) ≡ b) → Leaves End x y → ByAnswer End x b (lending y (f y.says))
by End x y f same l = record { refusal = λ n e. (refusal_same End x y l n e, ap f e ∙ same n); failure = λ n k e. failure_ends End x y l n k e }

core : (g : Signal) (s : Sender) → Leaves sender.Ended s (signalled g s)
core Signal.ack s = sender.ack_leaves s
core Signal.nak s = sender.nak_leaves s
core Signal.timeout s = sender.timeout_leaves s
core Signal.cut s = sender.cut_leaves s
core Signal.loss s = sender.loss_leaves s

-- a write's record is 1
only : (s : Sender) (y : Left Sender) → Leaves sender.Ended s y → Leaves sender.Ended s (only_read s y)
only s y l = picked (Leaves sender.Ended s) s.transfer.write _ y refl l

reads : (g : Signal) (s : Sender) → Leaves sender.Ended s (read_signalled g s)
reads Signal.ack s = only s _ (core Signal.ack s)
reads Signal.nak s = only s _ (core Signal.nak s)
reads Signal.timeout s = only s _ (core Signal.timeout s)
reads Signal.cut s = only s _ (core Signal.cut s)
reads Signal.loss s = only s _ (core Signal.loss s)

sends : (c : SenderCall) (s : Sender) → Leaves sender.Ended s (sender_call c s)
sends (SenderCall.bytes f) s = let r = target.read_refuses s f in subst (Leaves sender.Ended s) (sym r.1) refl
sends (SenderCall.core_ask d out) s = sender.next_leaves s d out
sends (SenderCall.core_signal g) s = core g s

receives : (c : ReaderCall) (r : Receiver) (b : List ℕ) → ByAnswer receiver.Ended r b (reader_call c r b)
receives (ReaderCall.bytes f) r b = by receiver.Ended r _ (λ a. storing a (header_in f).offset (iu_of f) b) (λ n. refl) (read_arrival_leaves r f (length b))
receives ReaderCall.loss r b = by receiver.Ended r _ (λ a. b) (λ n. refl) (read_loss_leaves r)
receives (ReaderCall.core_data offset cdp iu) r b = by receiver.Ended r _ (λ a. storing a offset iu b) (λ n. refl) (receiver.arrival_leaves r offset cdp (length iu) (length b))
receives ReaderCall.core_loss r b = by receiver.Ended r _ (λ a. b) (λ n. refl) (receiver.loss_leaves r)

-- a frame asked for in a write: it reports nothing
never_fails : (w : Writer) (d out : List ℕ) (n k : ℕ) → (write.next_of w d out).says ≡ Said.failed n k → ⊥
never_fails w d out n k e = absurd (no (sym (write_quiet w d out) ∙ ap (λ (a : Said). (view a).report) e))
  where
    no : {A : Type 0} → Report.none ≡ Report.failed n k → A
    no q = differ (cc)

refused : (w : Writer) (d out : List ℕ) (n : ℕ) → (write.next_of w d out).says ≡ Said.refused n → (write.next_of w d out).left ≡ w
refused w d out n e = initiator.next_same w d out (ap (λ (a : Said). refuses a) e)

signals : (g : Signal) (w : Writer) → Leaves initiator.Ended w (write_signalled g w)
signals Signal.ack w = initiator.ack_leaves w
signals Signal.nak w = initiator.nak_leaves w
signals Signal.timeout w = initiator.timeout_leaves w
signals Signal.cut w = initiator.cut_leaves w
signals Signal.loss w = initiator.loss_leaves w

writes : (c : WriterCall) (w : Writer) → ByAnswer initiator.Ended w [] (lending (writer_call c w) [])
writes (WriterCall.asking d out) w = record { refusal = λ n e. (refused w d out n e, refl); failure = λ n k e. absurd (never_fails w d out n k e) }
writes (WriterCall.signals g) w = by initiator.Ended w _ (λ a. []) (λ n. refl) (signals g w)
writes (WriterCall.bytes f) w = by initiator.Ended w _ (λ a. []) (λ n. refl) (initiator.arrival_leaves w f)

targets : (g : Signal) (y : Target) → Leaves target.Ended y (target_signalled g y)
targets Signal.ack y = target.ack_leaves y
targets Signal.nak y = target.nak_leaves y
targets Signal.timeout y = target.timeout_leaves y
targets Signal.cut y = target.cut_leaves y
targets Signal.loss y = target.loss_leaves y

takes : (c : TargetCall) (y : Target) (b : List ℕ) → ByAnswer target.Ended y b (target_call c y b)
takes (TargetCall.bytes f) y b = by target.Ended y _ (λ a. storing a (header_in f).offset (iu_of f) b) (λ n. refl) (target.arrival_leaves y f (length b))
takes TargetCall.asking y b = by target.Ended y _ (λ a. handing a (target-ask.frame_of y) b) (λ n. refl) (target.next_leaves y b)
takes (TargetCall.signals g) y b = by target.Ended y _ (λ a. b) (λ n. refl) (targets g y)
takes (TargetCall.time ms) y b = by target.Ended y _ (λ a. b) (λ n. refl) (target.time_leaves y ms)

pub demand_1 : Demand1
demand_1 =
    record {
      read_asked_lem = λ s d out. by sender.Ended s _ (λ a. handing a (frame_of s d) out) (λ n. refl) (only s _ (sender.next_leaves s d out));
      read_signalled_lem = λ g s. by sender.Ended s _ (λ a. []) (λ n. refl) (reads g s);
      sender = λ c s. by sender.Ended s _ (λ a. []) (λ n. refl) (sends c s);
      sender_asked = λ s d out. by sender.Ended s _ (λ a. handing a (frame_of s d) out) (λ n. refl) (sender.next_leaves s d out);
      reader = receives;
      write_asked_lem = λ w d out. record { refusal = λ n e. (refused w d out n e, ap (λ (a : Said). handing a (frame_of (begun_of w).sender d) out) e); failure = λ n k e. absurd (never_fails w d out n k e) };
      writer = writes;
      target = takes;
    }
