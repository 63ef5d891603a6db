-- An ended record refuses every call of specs/Calls, and record and lent buffer stay as they were; so a transfer that failed stores nothing more.
-- Proved in proofs/EndedRefuses.antt. (A RESPONSE's record, which link does not know: response proofs/Ended.)
use Rattle.std.specs.Prelude.{ℕ, List, [], true, ◌≡◌}
use Rattle.status.specs.Answer.{Said, ◌saying◌}
use Rattle.frame.specs.Write.{handing}
use Rattle.sender_steps.specs.Transmit.{frame_of}
use Rattle.sender_steps.specs.declared.types.Sender.{Sender}
use Rattle.receiver_steps.specs.declared.types.Receiver.{Receiver}
use Rattle.initiator.specs.declared.types.Writer.{Writer}
use Rattle.target.specs.declared.types.Target.{Target}
use Rattle.link.specs.Ports.{Called, lending, Signal}
use Rattle.link.specs.Calls.{read_asked, read_signalled, SenderCall, sender_call, ReaderCall, reader_call, write_asked, WriterCall, writer_call, TargetCall, target_call}

-- a call on x, lent b: refused, and nothing changed
abbrev pub Refused : {X : Type 0} → X → List ℕ → Called X → Type 0
Refused x b y = (n : ℕ) × (y ≡ lending (x saying Said.refused n) b)

pub record EndedRefuses : Type 0 where
  -- a read at the target
  pub read_asked_lem : (s : Sender) (d out : List ℕ) → s.ended ≡ true → Refused s out (read_asked s d out)
  pub read_signalled_lem : (g : Signal) (s : Sender) → s.ended ≡ true → Refused s [] (lending (read_signalled g s) [])
  pub sender : (c : SenderCall) (s : Sender) → s.ended ≡ true → Refused s [] (lending (sender_call c s) [])
  pub sender_asked : (s : Sender) (d out : List ℕ) → s.ended ≡ true → Refused s out (let x = sender_call (SenderCall.core_ask d out) s in lending x (handing x.says (frame_of s d) out))
  -- a read at the initiator
  pub reader : (c : ReaderCall) (r : Receiver) (b : List ℕ) → r.ended ≡ true → Refused r b (reader_call c r b)
  -- a write at the initiator
  pub write_asked_lem : (w : Writer) (d out : List ℕ) → w.sender.ended ≡ true → Refused w out (write_asked w d out)
  pub writer : (c : WriterCall) (w : Writer) → w.sender.ended ≡ true → Refused w [] (lending (writer_call c w) [])
  -- a write at the target
  pub target : (c : TargetCall) (y : Target) (b : List ℕ) → y.receiver.ended ≡ true → Refused y b (target_call c y b)
