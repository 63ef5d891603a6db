-- "At the target a RESPONSE .. has a record of its own": set_up, the frame, each confirmation. The law over all records is response specs/Resends
-- `Resends`. Proved in proofs/ResponseRecord.antt.
use Rattle.std.specs.Prelude.{ℕ, List, [], ◌∷◌, ◌++◌, Bool, true, false, ◌≡◌, replicate}
use Rattle.status.specs.Answer.{Word, Said, ◌saying◌}
use Rattle.status.specs.Result.{Result}
use Rattle.transfer.specs.declared.Transfer.{Transfer}
use Rattle.response.specs.Record.{start_of, set_up_of}
use Rattle.response.specs.CarriesValue.{Call, asking, ack, nak, timeout, cut, loss, called, lent_by}
use Rattle.response.specs.declared.types.Responder.{Responder}
use Rattle.link.specs.Ports.{Called, lending}
use Rattle.worked.specs.Setting.{target}
use Rattle.worked.specs.Pairing.{sas2}
use Rattle.worked.specs.Crossing.{calls, said, frames_of}

-- the target's transfer record: hashes ABCDEFh and 123456h, tag 0012h, a retry limit
abbrev pub device : ℕ → Transfer
device limit = target 10 3 limit

-- an IU of 25 bytes, and the record for it as set up
abbrev pub iu : List ℕ
iu = replicate 24 0x55 ++ (0x66 ∷ [])

abbrev pub start : ℕ → Responder
start limit = start_of (device limit) 25

-- the record: an answer is due, retries, ended
abbrev pub at : ℕ → Bool → ℕ → Bool → Responder
at limit unanswered retries ended = record { transfer = device limit; len = 25; unanswered = unanswered; retries = retries; ended = ended }

-- a call, with the output buffer as it is left; the RESPONSE asked for, with space for its 52 bytes and one more; with one byte less than that
abbrev pub calling : Call → Responder → Called Responder
calling c x = lending (called c x) (lent_by c x)

abbrev pub asked : Responder → Called Responder
asked = calling (asking iu (replicate 53 0xff))

abbrev pub short : Responder → Called Responder
short = calling (asking iu (replicate 51 0xff))

-- the answers: the RESPONSE is handed out, it is to be sent again, a failure
abbrev pub out : Said
out = Said.frame 52

abbrev pub again : Said
again = Said.word Word.retry

abbrev pub failed : ℕ → Said
failed number = Said.failed number 0

-- after the report: each call is 2
abbrev pub late : List (Responder → Called Responder)
late = asked ∷ short ∷ calling ack ∷ calling nak ∷ calling timeout ∷ calling cut ∷ calling loss ∷ []

abbrev pub two : List Said
two = replicate 7 (Said.refused 2)

-- "IU of 24 to 1,024 bytes from the caller, else 1"
pub record SetUp : Type 0 where
  pub bytes_23 : set_up_of (device 1) 23 ≡ Result.number 1
  pub bytes_24 : set_up_of (device 1) 24 ≡ Result.value (start_of (device 1) 24)
  pub bytes_1024 : set_up_of (device 1) 1_024 ≡ Result.value (start_of (device 1) 1_024)
  pub bytes_1025 : set_up_of (device 1) 1_025 ≡ Result.number 1

-- the whole frame: byte 10, which has RETRANSMIT in bit 1 and is zero otherwise, and the two bytes of the TPTT. 07h; hashed destination and source; three fill bytes; the
-- tag; data offset zero; the IU; "fill is written zero"
abbrev pub frame : ℕ → ℕ → ℕ → List ℕ
frame flags high low =
    0x07 ∷ 0x12 ∷ 0x34 ∷ 0x56 ∷ 0x00 ∷ 0xab ∷ 0xcd ∷ 0xef ∷
    0x00 ∷ 0x00 ∷ flags ∷ 0x03 ∷ 0x00 ∷ 0x00 ∷ 0x00 ∷ 0x00 ∷
    0x00 ∷ 0x12 ∷ high ∷ low ∷ 0x00 ∷ 0x00 ∷ 0x00 ∷ 0x00 ∷ (iu ++ replicate 3 0x00)

-- "It is resent likewise": RETRANSMIT one, the rest the same
pub record Frames : Type 0 where
  -- under SAS-1.1 "TPTT zero"
  pub resent : frames_of (start 2) (asked ∷ calling nak ∷ asked ∷ calling timeout ∷ asked ∷ []) ≡ frame 0x00 0x00 0x00 ∷ frame 0x02 0x00 0x00 ∷ frame 0x02 0x00 0x00 ∷ []
  pub after_a_cut : frames_of (start 1) (asked ∷ calling cut ∷ asked ∷ []) ≡ frame 0x00 0x00 0x00 ∷ frame 0x02 0x00 0x00 ∷ []
  -- under SAS-2 the value BEEFh, "resent ones too"
  pub value : frames_of (start_of (sas2 0xbeef (device 1)) 25) (asked ∷ calling nak ∷ asked ∷ []) ≡ frame 0x00 0xbe 0xef ∷ frame 0x02 0xbe 0xef ∷ []
  -- "Output bytes beyond the frame stay unchanged"
  pub beyond : (asked (start 1)).lent ≡ frame 0x00 0x00 0x00 ++ (0xff ∷ [])
  -- 3 "a frame is due, the output buffer is shorter", which leaves record and buffer
  pub three : short (start 1) ≡ lending (start 1 saying Said.refused 3) (replicate 51 0xff)
  -- unanswered: "wait", whatever the buffer
  pub waits : said (start 1) (asked ∷ asked ∷ short ∷ []) ≡ out ∷ replicate 2 (Said.word Word.wait)

-- "up to the limit, and once even with retries off"; beyond it 28, 29 and 30, by the event
pub record Limit : Type 0 where
  -- limit 0: once
  pub zero_nak : said (start 0) (asked ∷ calling timeout ∷ asked ∷ calling nak ∷ late) ≡ out ∷ again ∷ out ∷ failed 28 ∷ two
  pub zero_timeout : said (start 0) (asked ∷ calling cut ∷ asked ∷ calling timeout ∷ late) ≡ out ∷ again ∷ out ∷ failed 29 ∷ two
  pub zero_cut : said (start 0) (asked ∷ calling nak ∷ asked ∷ calling cut ∷ late) ≡ out ∷ again ∷ out ∷ failed 30 ∷ two
  pub zero_frames : frames_of (start 0) (asked ∷ calling nak ∷ asked ∷ calling nak ∷ asked ∷ []) ≡ frame 0x00 0x00 0x00 ∷ frame 0x02 0x00 0x00 ∷ []
  -- limit 1: once
  pub one_nak : said (start 1) (asked ∷ calling cut ∷ asked ∷ calling nak ∷ []) ≡ out ∷ again ∷ out ∷ failed 28 ∷ []
  pub one_timeout : said (start 1) (asked ∷ calling nak ∷ asked ∷ calling timeout ∷ []) ≡ out ∷ again ∷ out ∷ failed 29 ∷ []
  pub one_cut : said (start 1) (asked ∷ calling timeout ∷ asked ∷ calling cut ∷ []) ≡ out ∷ again ∷ out ∷ failed 30 ∷ []
  -- limit 2: twice
  pub two_nak : said (start 2) (asked ∷ calling timeout ∷ asked ∷ calling cut ∷ asked ∷ calling nak ∷ []) ≡ out ∷ again ∷ out ∷ again ∷ out ∷ failed 28 ∷ []
  pub two_timeout : said (start 2) (asked ∷ calling cut ∷ asked ∷ calling nak ∷ asked ∷ calling timeout ∷ []) ≡ out ∷ again ∷ out ∷ again ∷ out ∷ failed 29 ∷ []
  pub two_cut : said (start 2) (asked ∷ calling nak ∷ asked ∷ calling timeout ∷ asked ∷ calling cut ∷ []) ≡ out ∷ again ∷ out ∷ again ∷ out ∷ failed 30 ∷ []

-- no RESPONSE is unanswered: "A cut with none changes nothing"; 4 "ACK, NAK or timeout, none unanswered"
pub record Quiet (x : Responder) : Type 0 where
  pub cuts : calling cut x ≡ lending (x saying Said.word Word.unchanged) []
  pub four : said x (calling ack ∷ calling nak ∷ calling timeout ∷ []) ≡ replicate 3 (Said.refused 4)

pub record Ends : Type 0 where
  -- "its ACK ends that record": delivered, of the first one or the resent one; a RESPONSE counts no DATA frames; then 2
  pub acknowledged : said (start 1) (asked ∷ calling ack ∷ late) ≡ out ∷ Said.delivered 0 ∷ two
  pub resent : said (start 1) (asked ∷ calling nak ∷ asked ∷ calling ack ∷ late) ≡ out ∷ again ∷ out ∷ Said.delivered 0 ∷ two
  pub leaves : calls (start 1) (asked ∷ calling ack ∷ []) ≡ at 1 false 0 true
  -- before the first one; to be sent again
  pub first : Quiet (at 1 false 0 false)
  pub to_be_resent : Quiet (at 1 false 1 false)
  -- these are the records: as set up, after a NAK
  pub begins : start 1 ≡ at 1 false 0 false
  pub heard_nak : calls (start 1) (asked ∷ calling nak ∷ []) ≡ at 1 false 1 false
  -- a cut then is no retry: 28 comes at the second NAK
  pub counts : said (start 1) (calling cut ∷ asked ∷ calling nak ∷ calling cut ∷ asked ∷ calling nak ∷ []) ≡ Said.word Word.unchanged ∷ out ∷ again ∷ Said.word Word.unchanged ∷ out ∷ failed 28 ∷ []
  -- 31 "reported by the port layer": at first, unanswered, to be sent again; then 2
  pub loses : said (start 1) (calling loss ∷ late) ≡ failed 31 ∷ two
  pub loses_unanswered : said (start 1) (asked ∷ calling loss ∷ late) ≡ out ∷ failed 31 ∷ two
  pub loses_to_be_resent : said (start 1) (asked ∷ calling nak ∷ calling loss ∷ late) ≡ out ∷ again ∷ failed 31 ∷ two
