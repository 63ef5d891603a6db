-- ACK, NAK, timeout, cut and nexus loss at the sending port, once the event's own numbers are tested.
use Rattle.std.specs.Prelude.{ℕ, ◌+◌, ◌-◌, Bool, true, false, not, eqb, ltb}
use Rattle.status.specs.Pick.{pick, ◌with◌}
use Rattle.status.specs.Answer.{Word, Said, Left, ◌saying◌}
use Rattle.sender_steps.specs.Fields.{next≔, balance≔, unanswered≔, nak≔, cdp≔, retries≔, ended≔}
use Rattle.sender_steps.specs.declared.types.Sender.{Sender}

-- ACK and NAK lower the unanswered count; a NAK stays pending
abbrev pub lowered_of : Sender → Bool → Sender
lowered_of s nak = s with unanswered≔ (s.unanswered - 1) with nak≔ nak

-- an ended record has nothing unanswered and no NAK pending; the rest stays
abbrev pub ended_of : Sender → Sender
ended_of s = s with unanswered≔ 0 with nak≔ false with ended≔ true

-- a failure, by its number, ends the port
abbrev pub failed_of : Sender → ℕ → Left Sender
failed_of s n = ended_of s saying Said.failed n s.frames

-- "the next offset returns to the balance point (read) or base (write)"
abbrev pub restart_of : Sender → ℕ
restart_of s = pick s.transfer.write s.burst.base s.balance

-- the retry "clears the count" and "also clears a pending NAK"; the next frame has CDP one; the balance point is where it goes on
abbrev pub retried_of : Sender → Sender
retried_of s = s with next≔ (restart_of s) with balance≔ (restart_of s) with unanswered≔ 0 with nak≔ false with cdp≔ true with retries≔ (s.retries + 1)

-- "a retry beyond the limit is 28, 29 or 30"
unfoldable pub retry_of : Sender → ℕ → Left Sender
retry_of s cause = pick (ltb s.retries s.burst.limit) (retried_of s saying Said.word Word.retry) (failed_of s cause)

-- "a read's balance point becomes the next offset (a write's stays its base)"; "a read counts retries from the last move of the balance point"
abbrev pub moved_of : Sender → Sender
moved_of s = s with balance≔ (pick s.transfer.write s.balance s.next) with retries≔ (pick s.transfer.write s.retries 0)

-- "at the end the port reports delivered"; a read's delivery ends the port, a write burst's ends nothing
abbrev pub delivered_of : Sender → Sender
delivered_of s = moved_of s with ended≔ (not s.transfer.write)

unfoldable pub advance_of : Sender → Left Sender
advance_of s = pick (eqb s.next s.burst.end) (delivered_of s saying Said.delivered s.frames) (moved_of s saying Said.word Word.taken)

-- once the count is lowered: "at zero" the retry begins if a NAK is pending, else the port moves on
unfoldable pub settle_of : Sender → Left Sender
settle_of s = pick (eqb s.unanswered 0) (pick s.nak (retry_of s 28) (advance_of s)) (s saying Said.word Word.taken)

-- "28, 29 or 30, by the first bad event of the attempt": a NAK that is pending came before the event
abbrev pub cause_of : Sender → ℕ → ℕ
cause_of s event = pick s.nak 28 event

-- an ACK
abbrev pub ack_step_of : Sender → Left Sender
ack_step_of s = settle_of (lowered_of s s.nak)

-- a NAK
abbrev pub nak_step_of : Sender → Left Sender
nak_step_of s = settle_of (lowered_of s true)

-- a timeout (29), or a cut with frames unanswered (30)
abbrev pub retry_step_of : Sender → ℕ → Left Sender
retry_step_of s event = retry_of s (cause_of s event)
