-- Request K7: "every read DATA and RESPONSE of the command carries it, resent ones too". Read DATA; a RESPONSE's record, which link does not know: response specs/CarriesValue.
-- Proved in proofs/CarriesValue.antt.
use Rattle.std.specs.Prelude.{ℕ, ◌^◌, ◌<◌, List, [], false, ◌≡◌}
use Rattle.status.specs.Answer.{Left}
use Rattle.frame.specs.Write.{handing}
use Rattle.frame.specs.HandedOut.{Calls, Carries}
use Rattle.sender_steps.specs.Transmit.{frame_of}
use Rattle.sender_steps.specs.declared.types.Sender.{Sender}
use Rattle.target.specs.ReadSend.{read_next_of}
use Rattle.link.specs.Ports.{Signal}
use Rattle.link.specs.Calls.{read_asked, read_signalled, SenderCall, sender_call}

-- every call of specs/Calls that takes a read's sending record
pub data SendingCall : Type 0 where
  asking : List ℕ → List ℕ → SendingCall
  signals : Signal → SendingCall
  other : SenderCall → SendingCall

abbrev pub sending_call : SendingCall → Sender → Left Sender
sending_call (SendingCall.asking d out) s = read_next_of s d out
sending_call (SendingCall.signals g) s = read_signalled g s
sending_call (SendingCall.other c) s = sender_call c s

-- the output buffer that it was lent, as it is left; none but where a frame is asked for
abbrev pub sending_lent : SendingCall → Sender → List ℕ
sending_lent (SendingCall.asking d out) s = (read_asked s d out).lent
sending_lent (SendingCall.signals g) s = []
sending_lent (SendingCall.other (SenderCall.bytes f)) s = []
sending_lent (SendingCall.other (SenderCall.core_ask d out)) s = handing (sender_call (SenderCall.core_ask d out) s).says (frame_of s d) out
sending_lent (SendingCall.other (SenderCall.core_signal g)) s = []

abbrev pub sending_calls : Calls Sender
sending_calls = record { Call = SendingCall; call = sending_call; lent = sending_lent }

-- from any read's record, in any list of calls, each frame handed out has the transfer's value as its TPTT
abbrev pub CarriesValue : Type 0
CarriesValue = (s : Sender) → s.transfer.write ≡ false → s.transfer.value < 2 ^ 16 → Carries sending_calls s s.transfer.value
