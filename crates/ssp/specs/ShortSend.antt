-- The short paths of the sending ports: what they test, and what they tell and leave. Only private functions promise these; the contracts that C has do not name them.
use Rattle.std.specs.Prelude.{ℕ, ◌+◌, ◌≤◌, ◌<◌, ◌≡◌, true, false, eqb}
use Rattle.status.specs.Pick.{pick, ◌with◌}
use Rattle.sender_steps.specs.Record.{holds_of, lent_of}
use Rattle.sender_steps.specs.Transmit.{waits_of}
use Rattle.sender_steps.specs.Fields.{balance≔, unanswered≔, retries≔, ended≔}
use Rattle.sender_steps.specs.declared.types.Sender.{Sender}
use Rattle.ssp.specs.CAnswer.{DELIVERED, TAKEN, answer_with, word}
use Rattle.ssp.specs.declared.types.CAnswer.{CAnswer}

-- 1 and 2 do not apply to a read's record
abbrev pub ReadOpen : Sender → Type 0
ReadOpen s = (s.transfer.write ≡ false) × (s.ended ≡ false) × (holds_of s ≡ true)

-- an ACK leaves frames unanswered
abbrev pub OneOfMany : Sender → Type 0
OneOfMany s = (1 < s.unanswered) × ReadOpen s

-- an ACK leaves nothing unanswered, and no NAK is pending
abbrev pub LastOne : Sender → Type 0
LastOne s = (s.unanswered ≡ 1) × (s.nak ≡ false) × ReadOpen s

unfoldable pub last_told : Sender → CAnswer
last_told s = pick (eqb s.next s.burst.end) (answer_with 0 DELIVERED s.frames 0 0) (word TAKEN)

abbrev pub last_left : Sender → Sender
last_left s = s with balance≔ s.next with unanswered≔ 0 with retries≔ 0 with ended≔ (eqb s.next s.burst.end)

-- 1 and 2 do not apply to a read's record and a data buffer of n bytes
abbrev pub ReadLent : Sender → ℕ → Type 0
ReadLent s n = (s.transfer.write ≡ false) × (s.ended ≡ false) × (lent_of s n ≡ true)

-- a frame of the full data size is due, and there is room for it
abbrev pub FullDue : Sender → ℕ → Type 0
FullDue s room = (s.nak ≡ false) × (s.unanswered < s.transfer.window) × (s.next + s.transfer.size ≤ s.burst.end) × (24 + s.transfer.size ≤ room)

-- of number 1 what such a frame leans on: the record is in order, and the data buffer has the byte count
abbrev pub Full : Sender → ℕ → ℕ → Type 0
Full s n room = FullDue s room × (lent_of s n ≡ true)

abbrev pub Sendable : Sender → Type 0
Sendable s = (s.unanswered < s.transfer.window) × (s.next + s.transfer.size ≤ s.burst.end) × (holds_of s ≡ true)

abbrev pub FullFrame : Sender → ℕ → ℕ → Type 0
FullFrame s n room = FullDue s room × ReadLent s n

-- no frame is due
abbrev pub WaitDue : Sender → ℕ → Type 0
WaitDue s n = (waits_of s ≡ true) × ReadLent s n
