-- Demand 1, by what a call answers: "1 to 8 are refusals", which leave record and lent buffer as they were, and "20 to 32 failures that end the port"; so do 33 and 34.
-- Every call of specs/Calls, at any record, with any arguments. What an ended record does: specs/EndedRefuses. Proved in proofs/ByAnswer.antt.
use Rattle.std.specs.Prelude.{ℕ, List, [], true, ◌≡◌}
use Rattle.status.specs.Answer.{Said}
use Rattle.frame.specs.Write.{handing}
use Rattle.sender_steps.specs.Transmit.{frame_of}
use Rattle.sender_steps.specs.declared.types.Sender.{Sender}
use Rattle.receiver_steps.specs.declared.types.Receiver.{Receiver}
use Rattle.initiator.specs.declared.types.Writer.{Writer}
use Rattle.target.specs.declared.types.Target.{Target}
use Rattle.link.specs.Ports.{Called, lending, Signal}
use Rattle.link.specs.Calls.{read_asked, read_signalled, SenderCall, sender_call, ReaderCall, reader_call, write_asked, WriterCall, writer_call, TargetCall, target_call}

-- y: what a call left of x and of the buffer b that it was lent; End: a record has ended
pub record ByAnswer {X : Type 0} (End : X → Type 0) (x : X) (b : List ℕ) (y : Called X) : Type 0 where
  pub refusal : (n : ℕ) → y.says ≡ Said.refused n → (y.left ≡ x) × (y.lent ≡ b)
  pub failure : (n k : ℕ) → y.says ≡ Said.failed n k → End y.left

pub record Demand1 : Type 0 where
  -- a read at the target
  pub read_asked_lem : (s : Sender) (d out : List ℕ) → ByAnswer (λ x. x.ended ≡ true) s out (read_asked s d out)
  pub read_signalled_lem : (g : Signal) (s : Sender) → ByAnswer (λ x. x.ended ≡ true) s [] (lending (read_signalled g s) [])
  pub sender : (c : SenderCall) (s : Sender) → ByAnswer (λ x. x.ended ≡ true) s [] (lending (sender_call c s) [])
  pub sender_asked : (s : Sender) (d out : List ℕ) → ByAnswer (λ x. x.ended ≡ true) s out (let x = sender_call (SenderCall.core_ask d out) s in lending x (handing x.says (frame_of s d) out))
  -- a read at the initiator
  pub reader : (c : ReaderCall) (r : Receiver) (b : List ℕ) → ByAnswer (λ x. x.ended ≡ true) r b (reader_call c r b)
  -- a write at the initiator
  pub write_asked_lem : (w : Writer) (d out : List ℕ) → ByAnswer (λ x. x.sender.ended ≡ true) w out (write_asked w d out)
  pub writer : (c : WriterCall) (w : Writer) → ByAnswer (λ x. x.sender.ended ≡ true) w [] (lending (writer_call c w) [])
  -- a write at the target
  pub target : (c : TargetCall) (y : Target) (b : List ℕ) → ByAnswer (λ x. x.receiver.ended ≡ true) y b (target_call c y b)
