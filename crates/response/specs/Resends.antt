-- The RESPONSE's rules, sentence by sentence, at any record of its own that 1 and 2 do not refuse: each line says all that the call leaves and answers, and of the frame
-- every field of its header. Proved in proofs/Resends.antt.
use Rattle.std.specs.Prelude.{ℕ, ◌+◌, ◌<◌, List, Bool, true, false, ◌⊎◌, ◌≡◌, leb, length}
use Rattle.status.specs.Pick.{pick, ◌with◌}
use Rattle.status.specs.Answer.{Word, Said, Left, ◌saying◌}
use Rattle.frame.specs.Format.{encode}
use Rattle.frame.specs.declared.types.Header.{Header}
use Rattle.response.specs.Fields.{unanswered≔, retries≔, ended≔}
use Rattle.response.specs.Record.{holds_of}
use Rattle.response.specs.Transmit.{frame_of, next_of}
use Rattle.response.specs.Confirmation.{ack_of, nak_of, timeout_of, cut_of}
use Rattle.response.specs.declared.types.Responder.{Responder}

-- neither 1 nor 2
pub record Open (x : Responder) : Type 0 where
  pub holds : holds_of x ≡ true
  pub live : x.ended ≡ false

-- "resent likewise, up to the limit, and once even with retries off"
abbrev pub Within : Responder → Type 0
Within x = (x.retries < x.transfer.limit) ⊎ (x.retries ≡ 0)

-- y: the RESPONSE of x is to be sent again, or the failure n, which ends the record
pub record Retry (x : Responder) (n : ℕ) (y : Left Responder) : Type 0 where
  pub within : Within x → y ≡ ((x with unanswered≔ false with retries≔ (x.retries + 1)) saying Said.word Word.retry)
  pub beyond : (Within x → ⊥) → y ≡ ((x with unanswered≔ false with ended≔ true) saying Said.failed n 0)

-- the header: type 07h, data offset zero; RETRANSMIT one where it is sent again; request K7: the transfer's value as TPTT; TLR CONTROL (request K8) and the other flags zero
abbrev pub header : Responder → Bool → Header
header x again =
    record {
      frametype = 0x07;
      dest = x.transfer.remote;
      source = x.transfer.local;
      flags = record { tlr = 0; retry = false; retransmit = again; cdp = false };
      tag = x.transfer.tag;
      tptt = x.transfer.value;
      offset = 0;
    }

pub record Resends : Type 0 where
  -- the frame, at first and sent again
  pub first : (x : Responder) (iu : List ℕ) → x.retries ≡ 0 → frame_of x iu ≡ encode (header x false) iu
  pub again : (x : Responder) (iu : List ℕ) → 0 < x.retries → frame_of x iu ≡ encode (header x true) iu
  -- it is due until it is handed out: then "wait"
  pub hands_out : (x : Responder) (iu out : List ℕ) → Open x → length iu ≡ x.len → x.unanswered ≡ false →
      let n = length (frame_of x iu) in next_of x iu out ≡ pick (leb n (length out)) ((x with unanswered≔ true) saying Said.frame n) (x saying Said.refused 3)
  pub waits : (x : Responder) (iu out : List ℕ) → Open x → length iu ≡ x.len → x.unanswered ≡ true → next_of x iu out ≡ (x saying Said.word Word.wait)
  -- "its ACK ends that record"
  pub ack : (x : Responder) → Open x → x.unanswered ≡ true → ack_of x ≡ ((x with unanswered≔ false with ended≔ true) saying Said.delivered 0)
  -- "28, 29, 30: NAK Received, ACK/NAK Timeout, Connection Lost"
  pub nak : (x : Responder) → Open x → x.unanswered ≡ true → Retry x 28 (nak_of x)
  pub timeout : (x : Responder) → Open x → x.unanswered ≡ true → Retry x 29 (timeout_of x)
  pub cut : (x : Responder) → Open x → x.unanswered ≡ true → Retry x 30 (cut_of x)
  -- "4: ACK, NAK or timeout, none unanswered"; "A cut with none changes nothing"
  pub ack_at_rest : (x : Responder) → Open x → x.unanswered ≡ false → ack_of x ≡ (x saying Said.refused 4)
  pub nak_at_rest : (x : Responder) → Open x → x.unanswered ≡ false → nak_of x ≡ (x saying Said.refused 4)
  pub timeout_at_rest : (x : Responder) → Open x → x.unanswered ≡ false → timeout_of x ≡ (x saying Said.refused 4)
  pub cut_at_rest : (x : Responder) → Open x → x.unanswered ≡ false → cut_of x ≡ (x saying Said.word Word.unchanged)
