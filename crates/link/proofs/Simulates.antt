-- What the claim asks of a pair of ports: while the burst lasts, their records move as the sending and the receiving core do.
use Prim.Native.Nat.{ℕ}
use mathlib.Core.List.{List}
use mathlib.Core.Bool.{true, false}
use mathlib.Core.Logic.{◌⊎◌}
use mathlib.Core.Path.{◌≡◌}
use lib.ListN.{length}
use Rattle.status.specs.Answer.{fails}
use Rattle.frame.specs.Format.{DATA, encode}
use Rattle.frame.specs.Write.{writable, handing}
use Rattle.frame.specs.RoundTrip.{InRange}
use Rattle.frame.specs.declared.types.Header.{Header}
use Rattle.sender_steps.specs.Record.{holds_of, lent_of}
use Rattle.sender_steps.specs.Transmit.{frame_of}
use Rattle.sender.specs.Transmit.{next_of}
use Rattle.sender_steps.specs.Confirmation.{ended_of}
use Rattle.sender_steps.specs.declared.types.Sender.{Sender}
use Rattle.sender_steps.proofs.Held.{Held}
use Rattle.sender.proofs.Shape.{Shape, ack_shape, nak_shape, timeout_shape, cut_shape, loss_shape}
use Rattle.receiver_steps.specs.DataFrame.{storing}
use Rattle.receiver.specs.DataFrame.{arrival_of}
use Rattle.receiver_steps.specs.Record as receiver
use Rattle.receiver_steps.specs.declared.types.Receiver.{Receiver}
use Rattle.link.specs.Ports.{Signal, Ports}
use Rattle.link.specs.Calls.{signalled}
use Rattle.link.proofs.Others.{Steady}
use Rattle.link.proofs.Quiet.{Quiet}

-- a DATA frame for the receiving record r
pub record Addressed (τ : ℕ) (h : Header) (r : Receiver) : Type 0 where
  pub frametype : h.frametype ≡ DATA
  pub dest : h.dest ≡ r.transfer.local
  pub source : h.source ≡ r.transfer.remote
  pub tag : h.tag ≡ r.transfer.tag
  pub tptt : h.tptt ≡ τ
  pub range : InRange h

pub record Simulates (P : Ports) (tptt : ℕ) : Type 1 where
  pub SendsAs : P.Sending → Sender → Type 0
  pub TakesAs : P.Receiving → Receiver → Type 0
  pub asks_as : (x : P.Sending) (s : Sender) (d out : List ℕ) → SendsAs x s → lent_of s (length d) ≡ true →
      SendsAs (P.ask x d out).left (next_of s d out).left × ((P.ask x d out).says ≡ (next_of s d out).says) × ((P.ask x d out).lent ≡ handing (next_of s d out).says (frame_of s d) out)
  pub signals_as : (g : Signal) (x : P.Sending) (s : Sender) → SendsAs x s → holds_of s ≡ true →
      SendsAs (P.signal g x).left (signalled g s).left × ((P.signal g x).says ≡ (signalled g s).says)
  -- a frame asked for reports nothing
  pub asks_quiet : (x : P.Sending) (d out : List ℕ) → Quiet (P.ask x d out).says
  pub arrives_as : (y : P.Receiving) (r : Receiver) (h : Header) (iu b : List ℕ) → TakesAs y r → receiver.lent_of r (length b) ≡ true → r.ended ≡ false →
      Addressed tptt h r → writable h (length iu) ≡ true →
      TakesAs (P.receive_call (P.arrival (encode h iu)) y b).left (arrival_of r h.offset h.flags.cdp (length iu) (length b)).left ×
      ((P.receive_call (P.arrival (encode h iu)) y b).lent ≡ storing (arrival_of r h.offset h.flags.cdp (length iu) (length b)).says h.offset iu b)
  -- a refusal changes nothing
  pub steady : Steady P
  -- a RESPONSE at the sending port leaves its record or ends it; a RESPONSE or a nexus loss at the receiving port leaves its buffer
  pub late_sends : (c : P.SendCall) → P.SendLate c → (x : P.Sending) (s : Sender) → SendsAs x s → holds_of s ≡ true → SendsAs (P.send_call c x).left s ⊎ SendsAs (P.send_call c x).left (ended_of s)
  pub late_receives : (c : P.ReceiveCall) → P.ReceiveLate c → (y : P.Receiving) (b : List ℕ) → (P.receive_call c y b).lent ≡ b
  -- a report of time that fails nothing leaves the receiving core, and any report of time the buffer
  pub passes_as : (c : P.ReceiveCall) → P.ReceiveTimes c → (y : P.Receiving) (r : Receiver) (b : List ℕ) → TakesAs y r → fails (P.receive_call c y b).says ≡ false → TakesAs (P.receive_call c y b).left r
  pub times_lend : (c : P.ReceiveCall) → P.ReceiveTimes c → (y : P.Receiving) (b : List ℕ) → (P.receive_call c y b).lent ≡ b

-- no signal changes the transfer
pub signal_shape : (g : Signal) (s : Sender) → Held s → Shape s s.next (signalled g s)
signal_shape Signal.ack s h = ack_shape s h
signal_shape Signal.nak s h = nak_shape s h
signal_shape Signal.timeout s h = timeout_shape s h
signal_shape Signal.cut s h = cut_shape s h
signal_shape Signal.loss s h = loss_shape s h
