-- The sending port's rules, of ACK, NAK, timeout, cut, retry and a frame asked for, sentence by sentence, at any record that 1 and 2 do not refuse. Each line says all that the call leaves
-- and answers, and together they have every case. Proved in proofs/Retries.antt.
use Rattle.std.specs.Prelude.{ℕ, ◌+◌, ◌-◌, ◌≤◌, ◌<◌, min, List, true, false, ◌⊎◌, ◌≡◌, leb, length}
use Rattle.status.specs.Pick.{pick, ◌with◌}
use Rattle.status.specs.Answer.{Word, Said, Left, ◌saying◌}
use Rattle.sender_steps.specs.Fields.{next≔, balance≔, unanswered≔, nak≔, cdp≔, retries≔, frames≔, ended≔}
use Rattle.sender_steps.specs.Record.{holds_of}
use Rattle.sender_steps.specs.Transmit.{frame_of}
use Rattle.sender_steps.specs.declared.types.Sender.{Sender}
use Rattle.sender.specs.Transmit.{next_of}
use Rattle.sender.specs.Confirmation.{ack_of, nak_of, timeout_of, cut_of}

-- neither 1 nor 2; a read's or a write's record
pub record Open (s : Sender) : Type 0 where
  pub holds : holds_of s ≡ true
  pub live : s.ended ≡ false

abbrev pub Read : Sender → Type 0
Read s = s.transfer.write ≡ false

abbrev pub Write : Sender → Type 0
Write s = s.transfer.write ≡ true

-- the attempt from an offset on: the retry "clears the count" and "also clears a pending NAK"
abbrev pub again : Sender → ℕ → Sender
again s offset = s with next≔ offset with balance≔ offset with unanswered≔ 0 with nak≔ false with cdp≔ true with retries≔ (s.retries + 1)

-- a NAK is pending, the window is full, or the next offset is the end
abbrev pub Waits : Sender → Type 0
Waits s = (s.nak ≡ true) ⊎ ((s.transfer.window ≤ s.unanswered) ⊎ (s.next ≡ s.burst.end))

-- x is the retry of s, or the failure n
pub record Retry (s : Sender) (n : ℕ) (x : Left Sender) : Type 0 where
  -- "the next offset returns to the balance point (read) or base (write), and only the next frame has CDP one"
  pub read : Read s → s.retries < s.burst.limit → x ≡ (again s s.balance saying Said.word Word.retry)
  pub write : Write s → s.retries < s.burst.limit → x ≡ (again s s.burst.base saying Said.word Word.retry)
  -- "A retry beyond the limit is 28, 29 or 30", which ends the port
  pub beyond : s.burst.limit ≤ s.retries → x ≡ ((s with unanswered≔ 0 with nak≔ false with ended≔ true) saying Said.failed n s.frames)

pub record Retries : Type 0 where
  -- "ACK lowers the unanswered count"
  pub ack_lowers : (s : Sender) → Open s → 1 < s.unanswered → ack_of s ≡ ((s with unanswered≔ (s.unanswered - 1)) saying Said.word Word.taken)
  -- "At zero, no NAK pending, a read's balance point becomes the next offset (a write's stays its base)"; "A read counts retries from the last move of the balance point, a
  -- write from the start of the burst"
  pub read_moves : (s : Sender) → Open s → Read s → s.unanswered ≡ 1 → s.nak ≡ false → (s.next ≡ s.burst.end → ⊥) →
      ack_of s ≡ ((s with unanswered≔ 0 with balance≔ s.next with retries≔ 0) saying Said.word Word.taken)
  pub write_stays : (s : Sender) → Open s → Write s → s.unanswered ≡ 1 → s.nak ≡ false → (s.next ≡ s.burst.end → ⊥) →
      ack_of s ≡ ((s with unanswered≔ 0) saying Said.word Word.taken)
  -- "at the end the port reports delivered"; 2 after "a read's delivery .. a write burst's delivery ends nothing"
  pub read_delivers : (s : Sender) → Open s → Read s → s.unanswered ≡ 1 → s.nak ≡ false → s.next ≡ s.burst.end →
      ack_of s ≡ ((s with unanswered≔ 0 with balance≔ s.next with retries≔ 0 with ended≔ true) saying Said.delivered s.frames)
  pub write_delivers : (s : Sender) → Open s → Write s → s.unanswered ≡ 1 → s.nak ≡ false → s.next ≡ s.burst.end →
      ack_of s ≡ ((s with unanswered≔ 0) saying Said.delivered s.frames)
  -- "NAK lowers it and stays pending; at zero the retry begins"; 28, since a pending NAK came first, or else this one does
  pub nak_lowers : (s : Sender) → Open s → 1 < s.unanswered → nak_of s ≡ ((s with unanswered≔ (s.unanswered - 1) with nak≔ true) saying Said.word Word.taken)
  pub nak_retries : (s : Sender) → Open s → s.unanswered ≡ 1 → Retry s 28 (nak_of s)
  pub ack_retries : (s : Sender) → Open s → s.unanswered ≡ 1 → s.nak ≡ true → Retry s 28 (ack_of s)
  -- "Timeout, or a cut with frames unanswered, begins the retry": the first bad event, unless a NAK is pending
  pub timeout_retries : (s : Sender) → Open s → 0 < s.unanswered → s.nak ≡ false → Retry s 29 (timeout_of s)
  pub timeout_after_nak : (s : Sender) → Open s → 0 < s.unanswered → s.nak ≡ true → Retry s 28 (timeout_of s)
  pub cut_retries : (s : Sender) → Open s → 0 < s.unanswered → s.nak ≡ false → Retry s 30 (cut_of s)
  pub cut_after_nak : (s : Sender) → Open s → 0 < s.unanswered → s.nak ≡ true → Retry s 28 (cut_of s)
  -- "A cut with none changes nothing"; "4: ACK, NAK or timeout, none unanswered"
  pub cut_at_rest : (s : Sender) → Open s → s.unanswered ≡ 0 → cut_of s ≡ (s saying Said.word Word.unchanged)
  pub ack_at_rest : (s : Sender) → Open s → s.unanswered ≡ 0 → ack_of s ≡ (s saying Said.refused 4)
  pub nak_at_rest : (s : Sender) → Open s → s.unanswered ≡ 0 → nak_of s ≡ (s saying Said.refused 4)
  pub timeout_at_rest : (s : Sender) → Open s → s.unanswered ≡ 0 → timeout_of s ≡ (s saying Said.refused 4)
  -- "Asked for a frame, it says wait if a NAK is pending, the window is full or the next offset is the end"
  pub waits : (s : Sender) → Open s → (d out : List ℕ) → length d ≡ s.transfer.count → Waits s → next_of s d out ≡ (s saying Said.word Word.wait)
  -- "Else it hands out the lesser of the data size and what remains", or 3; "only the next frame has CDP one"
  pub hands_out : (s : Sender) → Open s → (d out : List ℕ) → length d ≡ s.transfer.count → (Waits s → ⊥) →
      let n = length (frame_of s d) in
      next_of s d out ≡
      pick (leb n (length out))
      ((s with next≔ (s.next + min s.transfer.size (s.burst.end - s.next)) with unanswered≔ (s.unanswered + 1) with cdp≔ false with frames≔ (s.frames + 1)) saying Said.frame n)
      (s saying Said.refused 3)
