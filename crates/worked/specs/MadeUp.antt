-- Number 1 by a record's marks and counts, each just met and just broken: records that only a caller can make. Limits of the transfer are in specs/TransferLimits.
-- Proved in proofs/MadeUp.antt.
use Rattle.std.specs.Prelude.{ℕ, ◌^◌, ◌-◌, List, [], ◌∷◌, map, Bool, true, false, ◌≡◌}
use Rattle.transfer.specs.declared.Transfer.{Transfer}
use Rattle.sender_steps.specs.Record as sender
use Rattle.sender_steps.specs.declared.types.Sender.{Sender}
use Rattle.receiver_steps.specs.Record as receiver
use Rattle.receiver_steps.specs.declared.types.Receiver.{Receiver}
use Rattle.initiator.specs.WriteRecord as writer
use Rattle.initiator.specs.declared.types.Writer.{Writer}
use Rattle.target.specs.Record as target
use Rattle.target.specs.declared.types.Target.{Target}
use Rattle.response.specs.Record as response
use Rattle.response.specs.declared.types.Responder.{Responder}
use Rattle.worked.specs.Setting.{between}

-- a write of twenty bytes, window 3, retry limit 2; true where number 1 does not refuse
abbrev pub transfer : Transfer
transfer = between 0x123456 0xabcdef true 20 3 2 20

-- ── the sending port: base, balance point, next offset, end; unanswered, the burst's limit, retries, frames ──
abbrev pub sends : ℕ → ℕ → ℕ → ℕ → ℕ → ℕ → ℕ → ℕ → Sender
sends base balance next end unanswered limit retries frames =
    record {
      transfer = transfer;
      burst = record { base = base; end = end; tptt = 0; limit = limit };
      next = next;
      balance = balance;
      unanswered = unanswered;
      nak = false;
      cdp = false;
      retries = retries;
      frames = frames;
      ended = false;
    }

abbrev pub sending : List Sender → List Bool
sending ss = map (λ s. sender.holds_of s) ss

-- ── the receiving port: base, expected offset, filled mark, end ──
abbrev pub takes : ℕ → ℕ → ℕ → ℕ → Receiver
takes base expected filled end = record { transfer = transfer; base = base; end = end; expected = expected; filled = filled; waiting = false; ended = false }

abbrev pub taking : List Receiver → List Bool
taking rs = map (λ r. receiver.holds_of r) rs

-- ── a write's initiator, whose burst has next offset 8 and end 12: the furthest offset; base, end and limit of the burst taken ──
abbrev pub writes : ℕ → ℕ → ℕ → ℕ → Writer
writes reached base end limit = record { sender = sends 4 4 8 12 1 2 0 1; reached = reached; pending = true; taken = record { base = base; end = end; tptt = 1; limit = limit } }

abbrev pub writing : List Writer → List Bool
writing ws = map (λ w. writer.holds_of w) ws

-- ── a write's target: state, base and end, retries, tags handed out since a store ──
abbrev pub asks : ℕ → ℕ → ℕ → ℕ → ℕ → Target
asks state base end retries since =
    record { receiver = takes base base base end; state = state; tptt = 0; retries = retries; stored = false; under = 0; since = since; elapsed = 0 }

abbrev pub asking : List Target → List Bool
asking ys = map (λ y. target.holds_of y) ys

-- ── a RESPONSE: the IU's length, retries; the transfer's limit is 2 ──
abbrev pub answers : ℕ → ℕ → Responder
answers len retries = record { transfer = transfer; len = len; unanswered = false; retries = retries; ended = false }

abbrev pub answering : List Responder → List Bool
answering xs = map (λ x. response.holds_of x) xs

pub record MadeUp : Type 0 where
  -- "marks outside base to end, balance point above next offset": all equal; each of the four steps down by one
  pub marks : sending (sends 4 4 4 4 0 2 0 0 ∷ sends 5 4 4 4 0 2 0 0 ∷ sends 4 5 4 8 0 2 0 0 ∷ sends 4 4 9 8 0 2 0 0 ∷ sends 4 4 8 20 0 2 0 0 ∷ sends 4 4 8 21 0 2 0 0 ∷ []) ≡ true ∷ false ∷ false ∷ false ∷ true ∷ false ∷ []
  -- "another count past its limit": unanswered 3 and 4, the burst's limit 2 and 3, retries 2 and 3, retries beyond a burst's limit of 0
  pub unanswered : sending (sends 4 4 8 12 3 2 0 0 ∷ sends 4 4 8 12 4 2 0 0 ∷ []) ≡ true ∷ false ∷ []
  pub limit : sending (sends 4 4 8 12 0 2 2 0 ∷ sends 4 4 8 12 0 3 0 0 ∷ sends 4 4 8 12 0 2 3 0 ∷ sends 4 4 8 12 0 0 1 0 ∷ []) ≡ true ∷ false ∷ false ∷ false ∷ []
  -- "a frame count of 2 to the power 60 or more"
  pub frames : sending (sends 4 4 8 12 0 2 0 (2 ^ 60 - 1) ∷ sends 4 4 8 12 0 2 0 (2 ^ 60) ∷ []) ≡ true ∷ false ∷ []
  -- "expected above filled", and marks outside base to end
  pub received : taking (takes 4 4 4 4 ∷ takes 4 8 8 20 ∷ takes 5 4 4 8 ∷ takes 4 9 8 12 ∷ takes 4 8 13 12 ∷ takes 4 8 8 21 ∷ []) ≡ true ∷ true ∷ false ∷ false ∷ false ∷ false ∷ []
  -- the furthest offset between next offset and end; the burst taken within count and limit
  pub reached : writing (writes 8 12 16 2 ∷ writes 12 12 16 2 ∷ writes 7 12 16 2 ∷ writes 13 12 16 2 ∷ []) ≡ true ∷ true ∷ false ∷ false ∷ []
  pub taken : writing (writes 8 12 20 2 ∷ writes 8 16 16 0 ∷ writes 8 17 16 2 ∷ writes 8 12 21 2 ∷ writes 8 12 16 3 ∷ []) ≡ true ∷ true ∷ false ∷ false ∷ false ∷ []
  -- one of the four states; an empty burst only before the first XFER_RDY
  pub states : asking (asks 0 0 0 0 0 ∷ asks 1 0 0 0 0 ∷ asks 1 0 1 0 0 ∷ asks 3 0 1 0 0 ∷ asks 4 0 1 0 0 ∷ []) ≡ true ∷ false ∷ true ∷ true ∷ false ∷ []
  pub retries : asking (asks 1 0 1 2 0 ∷ asks 1 0 1 3 0 ∷ []) ≡ true ∷ false ∷ []
  pub tags : asking (asks 1 0 1 0 16 ∷ asks 1 0 1 0 17 ∷ []) ≡ true ∷ false ∷ []
  -- a RESPONSE: 24 to 1,024 bytes, retries up to the limit
  pub response : answering (answers 23 0 ∷ answers 24 0 ∷ answers 1_024 0 ∷ answers 1_025 0 ∷ answers 24 2 ∷ answers 24 3 ∷ []) ≡ false ∷ true ∷ true ∷ false ∷ true ∷ false ∷ []
