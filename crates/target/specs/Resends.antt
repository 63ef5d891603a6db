-- The XFER_RDY's rules of ACK, NAK, timeout, cut, retry and tag, sentence by sentence, at any record of a write's target that 1 and 2 do not refuse. Each line says all that
-- the call leaves and answers; `again`, `next` and the tags together say what `issued_of` is. Which bytes a resent one has: link specs/Resent. Proved in proofs/Resends.antt.
use Rattle.std.specs.Prelude.{ℕ, ◌+◌, ◌-◌, ◌≤◌, ◌<◌, min, List, true, false, ◌⊎◌, ◌≡◌, leb, length}
use Rattle.status.specs.Pick.{pick, ◌with◌}
use Rattle.status.specs.Answer.{Word, Said, Left, ◌saying◌}
use Rattle.receiver_steps.specs.Fields.{expected≔, filled≔, waiting≔, ended≔}
use Rattle.target.specs.Fields.{receiver≔, state≔, tptt≔, retries≔, since≔, elapsed≔}
use Rattle.target.specs.Record.{UNANSWERED, AGAIN, READY, holds_of}
use Rattle.receiver_steps.specs.declared.types.Receiver.{Receiver}
use Rattle.target.specs.Transmit.{issued_of, frame_of, next_of}
use Rattle.target.specs.Confirmation.{ack_of, nak_of, timeout_of, cut_of}
use Rattle.target.specs.declared.types.Target.{Target}

-- neither 1 nor 2; an XFER_RDY is unanswered, or none is
pub record Open (x : Target) : Type 0 where
  pub holds : holds_of x ≡ true
  pub live : x.receiver.ended ≡ false

abbrev pub Unanswered : Target → Type 0
Unanswered x = x.state ≡ UNANSWERED

abbrev pub AtRest : Target → Type 0
AtRest x = x.state ≡ UNANSWERED → ⊥

-- y: the XFER_RDY of x is to be sent again, or the failure n
pub record Retry (x : Target) (n : ℕ) (y : Left Target) : Type 0 where
  -- "After NAK, timeout or cut it is sent again within the limit"
  pub within : x.retries < x.receiver.transfer.limit → y ≡ ((x with state≔ AGAIN with retries≔ (x.retries + 1)) saying Said.word Word.retry)
  -- "28, 29, 30: retry limit used up", which ends the port
  pub beyond : x.receiver.transfer.limit ≤ x.retries → y ≡ ((x with receiver≔ (x.receiver with ended≔ true) with state≔ AGAIN) saying Said.failed n 0)

-- it is to be sent again, or "the previous one is filled" and bytes remain
abbrev pub Due : Target → Type 0
Due x = (x.state ≡ AGAIN) ⊎ (AtRest x × (x.receiver.filled ≡ x.receiver.end) × (x.receiver.end < x.receiver.transfer.count))

-- a burst from base to end, of which nothing is stored
abbrev pub empty : Target → ℕ → ℕ → Receiver
empty x base end = record { transfer = x.receiver.transfer; base = base; end = end; expected = base; filled = base; waiting = false; ended = false }

pub record Resends : Type 0 where
  -- "At its ACK, expected offset and filled mark are the burst's base"; request K4: the sum "starts from zero at the ACK of an XFER_RDY"
  pub ack : (x : Target) → Open x → Unanswered x →
      ack_of x ≡
      ((x with receiver≔ (x.receiver with expected≔ x.receiver.base with filled≔ x.receiver.base with waiting≔ false) with state≔ READY with elapsed≔ 0) saying
      Said.word Word.acknowledged)
  -- "28, 29, 30: NAK Received, ACK/NAK Timeout, Connection Lost"
  pub nak : (x : Target) → Open x → Unanswered x → Retry x 28 (nak_of x)
  pub timeout : (x : Target) → Open x → Unanswered x → Retry x 29 (timeout_of x)
  pub cut : (x : Target) → Open x → Unanswered x → Retry x 30 (cut_of x)
  -- "4: ACK, NAK or timeout, none unanswered"; "A cut with none changes nothing"
  pub ack_at_rest : (x : Target) → Open x → AtRest x → ack_of x ≡ (x saying Said.refused 4)
  pub nak_at_rest : (x : Target) → Open x → AtRest x → nak_of x ≡ (x saying Said.refused 4)
  pub timeout_at_rest : (x : Target) → Open x → AtRest x → timeout_of x ≡ (x saying Said.refused 4)
  pub cut_at_rest : (x : Target) → Open x → AtRest x → cut_of x ≡ (x saying Said.word Word.unchanged)
  -- one that is due is handed out, or 3; "when none is due it says wait"
  pub hands_out : (x : Target) (out : List ℕ) → Open x → Due x →
      let n = length (frame_of x) in next_of x out ≡ pick (leb n (length out)) (issued_of x saying Said.frame n) (x saying Said.refused 3)
  pub waits : (x : Target) (out : List ℕ) → Open x → (Due x → ⊥) → next_of x out ≡ (x saying Said.word Word.wait)
  -- "a new TPTT, the rest the same": burst and retries stay
  pub again : (x : Target) → x.state ≡ AGAIN → issued_of x ≡ (x with state≔ UNANSWERED with tptt≔ (issued_of x).tptt with since≔ (x.since + 1))
  -- "one XFER_RDY per burst, for the lesser of the burst size and what remains"; each burst counts its retries from zero
  pub next : (x : Target) → (x.state ≡ AGAIN → ⊥) →
      let end = x.receiver.end in
      issued_of x ≡
      (x with receiver≔ (empty x end (end + min x.receiver.transfer.burst (x.receiver.transfer.count - end))) with
      state≔ UNANSWERED with retries≔ 0 with tptt≔ (issued_of x).tptt with since≔ (x.since + 1))
  -- "A TPTT is the lowest number from 0 that is not in use": the tags handed out since a store are the lowest numbers other than that of the store; `since` is how many, and
  -- without a store there is no other
  pub tag : (x : Target) → (x.stored ≡ false) ⊎ (x.since < x.under) → (issued_of x).tptt ≡ x.since
  pub tag_behind : (x : Target) → x.stored ≡ true → x.under ≤ x.since → (issued_of x).tptt ≡ x.since + 1
