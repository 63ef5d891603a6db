-- A read's ports: the target's sending port and the initiator's receiving port.
use Rattle.std.specs.Prelude.{List, ◌≡◌, ℕ, get_or}
use Rattle.frame.specs.Format.{RESPONSE}
use Rattle.sender_steps.specs.declared.types.Sender.{Sender}
use Rattle.receiver_steps.specs.declared.types.Receiver.{Receiver}
use Rattle.link.specs.Ports.{Signal, Ports}
use Rattle.link.specs.Calls.{read_asked, read_signalled, SenderCall, sender_call, ReaderCall, reader_call}

-- a frame of type RESPONSE
abbrev pub IsResponse : List ℕ → Type 0
IsResponse f = get_or f 0 0 ≡ RESPONSE

abbrev pub SenderLate : SenderCall → Type 0
SenderLate (SenderCall.bytes f) = IsResponse f
SenderLate (SenderCall.core_ask d out) = ⊥
SenderLate (SenderCall.core_signal Signal.loss) = Unit {0}
SenderLate (SenderCall.core_signal Signal.ack) = ⊥
SenderLate (SenderCall.core_signal Signal.nak) = ⊥
SenderLate (SenderCall.core_signal Signal.timeout) = ⊥
SenderLate (SenderCall.core_signal Signal.cut) = ⊥

abbrev pub ReaderLate : ReaderCall → Type 0
ReaderLate (ReaderCall.bytes f) = IsResponse f
ReaderLate ReaderCall.loss = Unit {0}
ReaderLate (ReaderCall.core_data offset cdp iu) = ⊥
ReaderLate ReaderCall.core_loss = Unit {0}

abbrev pub read_ports : Ports
read_ports =
    record {
      Sending = Sender;
      Receiving = Receiver;
      ask = read_asked;
      signal = read_signalled;
      SendCall = SenderCall;
      send_call = sender_call;
      SendLate = SenderLate;
      ReceiveCall = ReaderCall;
      receive_call = reader_call;
      ReceiveLate = ReaderLate;
      ReceiveTimes = λ c. ⊥;
      arrival = λ f. ReaderCall.bytes f;
    }
