-- "A retry beyond the limit is 28, 29 or 30, by the first bad event of the attempt": seen from outside, over every list of calls from any record with no NAK pending. Set-up,
-- the start of a write burst and each retry leave such a record, so an attempt begins there. Proved in proofs/FirstBadEvent.antt.
use Rattle.std.specs.Prelude.{ℕ, List, [], ◌∷◌, Bool, false, not, ◌&&◌, ◌≡◌, ltb}
use Rattle.status.specs.Pick.{pick}
use Rattle.status.specs.Answer.{Word, Said, Left, refuses}
use Rattle.sender_steps.specs.declared.types.Sender.{Sender}
use Rattle.sender.specs.Transmit.{next_of}
use Rattle.sender.specs.Confirmation.{ack_of, nak_of, timeout_of, cut_of}

-- a frame asked for, with a data buffer and an output buffer; the events
pub data Call : Type 0 where
  asked : List ℕ → List ℕ → Call
  ack nak timeout cut : Call

abbrev pub told : Call → Sender → Left Sender
told (asked d out) s = next_of s d out
told ack s = ack_of s
told nak s = nak_of s
told timeout s = timeout_of s
told cut s = cut_of s

-- "28, 29, 30: NAK Received, ACK/NAK Timeout, Connection Lost"
abbrev pub number : Call → ℕ
number nak = 28
number timeout = 29
number cut = 30
number ack = 0
number (asked d out) = 0

-- a bad event: one of these that is not refused, "with frames unanswered"
abbrev pub is_bad : Call → Sender → Bool
is_bad c s = ltb 0 (number c) && ltb 0 s.unanswered && not (refuses (told c s).says)

abbrev pub after : Sender → List Call → Sender
after s [] = s
after s (c ∷ cs) = after (told c s).left cs

-- no retry begins with these calls
abbrev pub OneAttempt : Sender → List Call → Type 0
OneAttempt s [] = Unit {0}
OneAttempt s (c ∷ cs) = ((told c s).says ≡ Said.word Word.retry → ⊥) × OneAttempt (told c s).left cs

-- the number of their first bad event; n where they have none
abbrev pub first_bad : Sender → List Call → ℕ → ℕ
first_bad s [] n = n
first_bad s (c ∷ cs) n = pick (is_bad c s) (number c) (first_bad (told c s).left cs n)

-- a failure that comes with the call c, behind the calls cs of the same attempt
abbrev pub FirstBadEvent : Type 0
FirstBadEvent =
    (s : Sender) → s.nak ≡ false → (cs : List Call) → OneAttempt s cs →
    (c : Call) (n frames : ℕ) → (told c (after s cs)).says ≡ Said.failed n frames → n ≡ first_bad s cs (number c)
