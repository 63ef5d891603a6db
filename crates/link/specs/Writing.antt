-- A write burst's ports: the initiator's sending port and the target's receiving port.
use Rattle.std.specs.Prelude.{List, ℕ}
use Rattle.initiator.specs.declared.types.Writer.{Writer}
use Rattle.target.specs.declared.types.Target.{Target}
use Rattle.link.specs.Ports.{Signal, Ports}
use Rattle.link.specs.Calls.{write_asked, write_signalled, WriterCall, writer_call, TargetCall, target_call}
use Rattle.link.specs.Reading.{IsResponse}

abbrev pub TargetLate : TargetCall → Type 0
TargetLate (TargetCall.bytes f) = IsResponse f
TargetLate TargetCall.asking = ⊥
TargetLate (TargetCall.signals Signal.loss) = Unit {0}
TargetLate (TargetCall.signals Signal.ack) = ⊥
TargetLate (TargetCall.signals Signal.nak) = ⊥
TargetLate (TargetCall.signals Signal.timeout) = ⊥
TargetLate (TargetCall.signals Signal.cut) = ⊥
TargetLate (TargetCall.time ms) = Unit {0}

abbrev pub TargetTimes : TargetCall → Type 0
TargetTimes (TargetCall.bytes f) = ⊥
TargetTimes TargetCall.asking = ⊥
TargetTimes (TargetCall.signals g) = ⊥
TargetTimes (TargetCall.time ms) = Unit {0}

abbrev pub write_ports : Ports
write_ports =
    record {
      Sending = Writer;
      Receiving = Target;
      ask = write_asked;
      signal = write_signalled;
      -- arrivals of any bytes at the initiator
      SendCall = List ℕ;
      send_call = λ f w. writer_call (WriterCall.bytes f) w;
      SendLate = IsResponse;
      ReceiveCall = TargetCall;
      receive_call = target_call;
      ReceiveLate = TargetLate;
      ReceiveTimes = TargetTimes;
      arrival = λ f. TargetCall.bytes f;
    }
