-- Every entry point that takes a record of the delivery claim, with the definition that its contract cites: "any call" of the claim is one of these (specs/World, `Call`).
-- A line `-- crate::function` names the public function of the clause below it; tests/calls compares these lines with the sources of the five port crates.
-- Not here: the set-ups, which make a record and take none (specs/Claim, `Starts`); initiator::sense_data, which takes none; crate response, whose record no link event meets.
use Rattle.std.specs.Prelude.{ℕ, List, Bool, length}
use Rattle.status.specs.Answer.{Left}
use Rattle.frame.specs.Read.{header_in, iu_of}
use Rattle.frame.specs.Write.{handing}
use Rattle.sender_steps.specs.Transmit.{frame_of}
use Rattle.sender_steps.specs.declared.types.Sender.{Sender}
use Rattle.receiver_steps.specs.DataFrame.{storing}
use Rattle.receiver_steps.specs.declared.types.Receiver.{Receiver}
use Rattle.sender.specs.Transmit as sender-ask
use Rattle.sender.specs.Confirmation as sender
use Rattle.receiver.specs.DataFrame.{arrival_of}
use Rattle.receiver.specs.Record.{loss_of}
use Rattle.initiator.specs.Read as initiator-read
use Rattle.initiator.specs.WriteSend as initiator
use Rattle.initiator.specs.WriteTake as initiator-take
use Rattle.initiator.specs.declared.types.Writer.{Writer}
use Rattle.target.specs.Read as target-read
use Rattle.target.specs.ReadSend.{read_next_of, read_ack_of, read_nak_of, read_timeout_of, read_cut_of, read_loss_of}
use Rattle.target.specs.Transmit as target-ask
use Rattle.target.specs.Confirmation as target
use Rattle.target.specs.Arrival as target-take
use Rattle.target.specs.Time.{time_of}
use Rattle.target.specs.declared.types.Target.{Target}
use Rattle.link.specs.Ports.{Called, lending, Signal}

-- ── a read at the target: the sending record ──
-- a frame asked for: the data buffer, the output buffer
-- target::read_next_frame
abbrev pub read_asked : Sender → List ℕ → List ℕ → Called Sender
read_asked s d out = let x = read_next_of s d out in lending x (handing x.says (frame_of s d) out)

abbrev pub read_signalled : Signal → Sender → Left Sender
-- target::read_ack_received
read_signalled Signal.ack s = read_ack_of s
-- target::read_nak_received
read_signalled Signal.nak s = read_nak_of s
-- target::read_ack_nak_timeout
read_signalled Signal.timeout s = read_timeout_of s
-- target::read_connection_lost
read_signalled Signal.cut s = read_cut_of s
-- target::read_nexus_lost
read_signalled Signal.loss s = read_loss_of s

-- the sending port's own entry points take the same record
abbrev pub signalled : Signal → Sender → Left Sender
-- sender::ack_received
signalled Signal.ack s = sender.ack_of s
-- sender::nak_received
signalled Signal.nak s = sender.nak_of s
-- sender::ack_nak_timeout
signalled Signal.timeout s = sender.timeout_of s
-- sender::connection_lost
signalled Signal.cut s = sender.cut_of s
-- sender::nexus_lost
signalled Signal.loss s = sender.loss_of s

-- besides: arrivals of any bytes at the target, each refused; the sending port's own
pub data SenderCall : Type 0 where
  bytes : List ℕ → SenderCall
  core_ask : List ℕ → List ℕ → SenderCall
  core_signal : Signal → SenderCall

abbrev pub sender_call : SenderCall → Sender → Left Sender
-- target::read_frame_received
sender_call (SenderCall.bytes f) s = target-read.read_arrival_of s f
-- sender::next_frame
sender_call (SenderCall.core_ask d out) s = sender-ask.next_of s d out
sender_call (SenderCall.core_signal g) s = signalled g s

-- ── a read at the initiator: the receiving record ──
-- arrivals and nexus loss at the initiator, and the receiving port's own entry points
pub data ReaderCall : Type 0 where
  bytes : List ℕ → ReaderCall
  loss : ReaderCall
  core_data : ℕ → Bool → List ℕ → ReaderCall
  core_loss : ReaderCall

abbrev pub reader_call : ReaderCall → Receiver → List ℕ → Called Receiver
-- initiator::read_frame_received
reader_call (ReaderCall.bytes f) r b = let x = initiator-read.read_arrival_of r f (length b) in lending x (storing x.says (header_in f).offset (iu_of f) b)
-- initiator::read_nexus_lost
reader_call ReaderCall.loss r b = lending (initiator-read.read_loss_of r) b
-- receiver::data_received
reader_call (ReaderCall.core_data offset cdp iu) r b = let x = arrival_of r offset cdp (length iu) (length b) in lending x (storing x.says offset iu b)
-- receiver::nexus_lost
reader_call ReaderCall.core_loss r b = lending (loss_of r) b

-- ── a write at the initiator ──
abbrev pub write_signalled : Signal → Writer → Left Writer
-- initiator::write_ack_received
write_signalled Signal.ack w = initiator.ack_of w
-- initiator::write_nak_received
write_signalled Signal.nak w = initiator.nak_of w
-- initiator::write_ack_nak_timeout
write_signalled Signal.timeout w = initiator.timeout_of w
-- initiator::write_connection_lost
write_signalled Signal.cut w = initiator.cut_of w
-- initiator::write_nexus_lost
write_signalled Signal.loss w = initiator.loss_of w

-- all of them: a frame asked for; ACK, NAK, timeout, cut, nexus loss; arrivals of any bytes
pub data WriterCall : Type 0 where
  asking : List ℕ → List ℕ → WriterCall
  signals : Signal → WriterCall
  bytes : List ℕ → WriterCall

abbrev pub writer_call : WriterCall → Writer → Left Writer
-- initiator::write_next_frame
writer_call (WriterCall.asking d out) w = initiator.next_of w d out
writer_call (WriterCall.signals g) w = write_signalled g w
-- initiator::write_frame_received
writer_call (WriterCall.bytes f) w = initiator-take.write_arrival_of w f

-- a frame asked for, with the output buffer as it is left
abbrev pub write_asked : Writer → List ℕ → List ℕ → Called Writer
write_asked w d out = let x = writer_call (WriterCall.asking d out) w in lending x (handing x.says (frame_of (initiator.begun_of w).sender d) out)

-- ── a write at the target ──
abbrev pub target_signalled : Signal → Target → Left Target
-- target::write_ack_received
target_signalled Signal.ack y = target.ack_of y
-- target::write_nak_received
target_signalled Signal.nak y = target.nak_of y
-- target::write_ack_nak_timeout
target_signalled Signal.timeout y = target.timeout_of y
-- target::write_connection_lost
target_signalled Signal.cut y = target.cut_of y
-- target::write_nexus_lost
target_signalled Signal.loss y = target.loss_of y

-- arrivals of any bytes; an XFER_RDY asked for, lent its output buffer; ACK, NAK, timeout, cut and nexus loss; a report of so many milliseconds
pub data TargetCall : Type 0 where
  bytes : List ℕ → TargetCall
  asking : TargetCall
  signals : Signal → TargetCall
  time : ℕ → TargetCall

abbrev pub target_call : TargetCall → Target → List ℕ → Called Target
-- target::write_frame_received
target_call (TargetCall.bytes f) y b = let x = target-take.write_arrival_of y f (length b) in lending x (storing x.says (header_in f).offset (iu_of f) b)
-- target::write_next_frame
target_call TargetCall.asking y out = let x = target-ask.next_of y out in lending x (handing x.says (target-ask.frame_of y) out)
target_call (TargetCall.signals g) y b = lending (target_signalled g y) b
-- target::write_time_reported
target_call (TargetCall.time ms) y b = lending (time_of y ms) b
