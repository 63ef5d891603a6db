-- "Asked for a frame", once 1 and 2 are tested: "wait", 3, or the frame.
use Rattle.std.specs.Prelude.{ℕ, ◌+◌, ◌-◌, ◌^◌, min, List, [], ◌∷◌, Bool, false, ◌||◌, length, take, drop, leb, ltb, eqb}
use Rattle.status.specs.Pick.{pick, all, ◌with◌}
use Rattle.status.specs.Answer.{Word, Said, Left, ◌saying◌}
use Rattle.frame.specs.Format.{DATA, encode}
use Rattle.frame.specs.Write.{write_answer, answered}
use Rattle.frame.specs.declared.types.Header.{Header}
use Rattle.sender_steps.specs.Fields.{next≔, unanswered≔, cdp≔, frames≔}
use Rattle.sender_steps.specs.declared.types.Sender.{Sender}

-- "it says wait if a NAK is pending, the window is full or the next offset is the end"
unfoldable pub waits_of : Sender → Bool
waits_of s = s.nak || leb s.transfer.window s.unanswered || eqb s.next s.burst.end

-- "the lesser of the data size and what remains"; T10 paper 001 has the byte count less the Read Data Offset for the latter, which fits only a start of 0
abbrev pub lesser : Sender → ℕ
lesser s = min s.transfer.size (s.burst.end - s.next)

-- "Under SAS-2 the caller gives a value .., and every read DATA and RESPONSE of the command carries it" (request K7; under SAS-1.1 it is zero: transfer specs/Limits);
-- "write DATA carries the TPTT of its burst's XFER_RDY"; flags that are not named are zero, and so is TLR CONTROL (request K8: "the ports write 0")
unfoldable pub data_header : Sender → Header
data_header s =
    record {
      frametype = DATA;
      dest = s.transfer.remote;
      source = s.transfer.local;
      flags = record { tlr = 0; retry = false; retransmit = false; cdp = s.cdp };
      tag = s.transfer.tag;
      tptt = pick s.transfer.write s.burst.tptt s.transfer.value;
      offset = s.next;
    }

-- "starting at its next offset in the lent buffer", which holds the count alone: its byte i is "at start plus i in the receiver" (request K5)
abbrev pub part_of : Sender → List ℕ → List ℕ
part_of s d = take (lesser s) (drop (s.next - s.transfer.start) d)

unfoldable pub frame_of : Sender → List ℕ → List ℕ
frame_of s d = encode (data_header s) (part_of s d)

-- the record once the frame is handed out; "only the next frame has CDP one"
unfoldable pub sent_of : Sender → Sender
sent_of s = s with next≔ (s.next + lesser s) with unanswered≔ (s.unanswered + 1) with cdp≔ false with frames≔ (s.frames + 1)

-- a frame is due: what the writer answers for it
abbrev pub writes_of : Sender → List ℕ → List ℕ → Left Sender
writes_of s d out = answered s (sent_of s) (write_answer (data_header s) (part_of s d) out)

-- of number 1 what the step leans on: the next offset is in the burst and not below the start, the burst in the data buffer, and the frame count has room
abbrev pub fit_tests : Sender → ℕ → List Bool
fit_tests s n = leb s.transfer.start s.next ∷ leb s.next s.burst.end ∷ leb s.burst.end (s.transfer.start + n) ∷ ltb s.frames (2 ^ 60) ∷ []

unfoldable pub fits_of : Sender → ℕ → Bool
fits_of s n = all (fit_tests s n)

-- a frame asked for: where 1 and 2 do not apply it is `next_of` of crate sender
unfoldable pub frame_step_of : Sender → List ℕ → List ℕ → Left Sender
frame_step_of s d out =
    pick (fits_of s (length d))
    (pick (waits_of s) (s saying Said.word Word.wait) (writes_of s d out))
    (s saying Said.refused 1)
