-- "After NAK, timeout or cut it is sent again within the limit, RETRANSMIT one, a new TPTT, the rest the same": the target's XFER_RDY. The law over all records is
-- target specs/Resends `Resends`. Proved in proofs/XferRdyRetries.antt.
use Rattle.std.specs.Prelude.{ℕ, List, [], ◌∷◌, ◌++◌, true, false, ◌≡◌, replicate}
use Rattle.status.specs.Answer.{Word, Said, ◌saying◌}
use Rattle.transfer.specs.declared.Transfer.{Transfer}
use Rattle.receiver_steps.specs.Record.{beginning}
use Rattle.target.specs.Record.{start_of}
use Rattle.target.specs.declared.types.Target.{Target}
use Rattle.link.specs.Ports.{Called, lending, Signal}
use Rattle.worked.specs.Setting.{between}
use Rattle.worked.specs.Write.{xfer_rdy, data_frame}
use Rattle.worked.specs.Crossing.{calls, said, frames_of, issues, signalled, stores}

-- a write of ten bytes in bursts of five with a retry limit, as in specs/Write: the target as set up
abbrev pub device : ℕ → Transfer
device limit = between 0xabcdef 0x123456 true 10 2 limit 5

abbrev pub start : ℕ → Target
start limit = start_of (device limit)

abbrev pub Call : Type 0
Call = Target → Called Target

abbrev pub ack : Call
ack = signalled Signal.ack

abbrev pub nak : Call
nak = signalled Signal.nak

abbrev pub timeout : Call
timeout = signalled Signal.timeout

abbrev pub cut : Call
cut = signalled Signal.cut

-- the answers: an XFER_RDY is handed out, it is to be sent again, a failure
abbrev pub out : Said
out = Said.frame 36

abbrev pub again : Said
again = Said.word Word.retry

abbrev pub failed : ℕ → Said
failed number = Said.failed number 0

-- after a failure: an XFER_RDY asked for and each confirmation is 2
abbrev pub late : List Call
late = issues ∷ ack ∷ nak ∷ timeout ∷ cut ∷ []

abbrev pub two : List Said
two = replicate 5 (Said.refused 2)

-- "28, 29, 30: retry limit used up", by the event
pub record Limit : Type 0 where
  -- limit 0: the first event fails; RETRY DATA FRAMES zero
  pub zero_nak : said (start 0) (issues ∷ nak ∷ late) ≡ out ∷ failed 28 ∷ two
  pub zero_timeout : said (start 0) (issues ∷ timeout ∷ late) ≡ out ∷ failed 29 ∷ two
  pub zero_cut : said (start 0) (issues ∷ cut ∷ late) ≡ out ∷ failed 30 ∷ two
  pub zero_frames : frames_of (start 0) (issues ∷ nak ∷ issues ∷ []) ≡ xfer_rdy 0 0 0 ∷ []
  -- limit 1: sent again once, whatever came first; the second event gives the number
  pub one_nak : said (start 1) (issues ∷ cut ∷ issues ∷ nak ∷ late) ≡ out ∷ again ∷ out ∷ failed 28 ∷ two
  pub one_timeout : said (start 1) (issues ∷ nak ∷ issues ∷ timeout ∷ late) ≡ out ∷ again ∷ out ∷ failed 29 ∷ two
  pub one_cut : said (start 1) (issues ∷ timeout ∷ issues ∷ cut ∷ late) ≡ out ∷ again ∷ out ∷ failed 30 ∷ two
  pub one_frames : frames_of (start 1) (issues ∷ nak ∷ issues ∷ nak ∷ issues ∷ []) ≡ xfer_rdy 4 0 0 ∷ xfer_rdy 6 1 0 ∷ []
  -- limit 2: sent again twice, after each event; the third event gives the number
  pub two_nak : said (start 2) (issues ∷ timeout ∷ issues ∷ cut ∷ issues ∷ nak ∷ []) ≡ out ∷ again ∷ out ∷ again ∷ out ∷ failed 28 ∷ []
  pub two_timeout : said (start 2) (issues ∷ cut ∷ issues ∷ nak ∷ issues ∷ timeout ∷ []) ≡ out ∷ again ∷ out ∷ again ∷ out ∷ failed 29 ∷ []
  pub two_cut : said (start 2) (issues ∷ nak ∷ issues ∷ timeout ∷ issues ∷ cut ∷ []) ≡ out ∷ again ∷ out ∷ again ∷ out ∷ failed 30 ∷ []
  -- the same frame after each: RETRY DATA FRAMES stays one, RETRANSMIT is one, the TPTT is new, offset 0 and length 5 stay
  pub after_naks : frames_of (start 2) (issues ∷ nak ∷ issues ∷ nak ∷ issues ∷ []) ≡ xfer_rdy 4 0 0 ∷ xfer_rdy 6 1 0 ∷ xfer_rdy 6 2 0 ∷ []
  pub after_timeouts : frames_of (start 2) (issues ∷ timeout ∷ issues ∷ timeout ∷ issues ∷ []) ≡ xfer_rdy 4 0 0 ∷ xfer_rdy 6 1 0 ∷ xfer_rdy 6 2 0 ∷ []
  pub after_cuts : frames_of (start 2) (issues ∷ cut ∷ issues ∷ cut ∷ issues ∷ []) ≡ xfer_rdy 4 0 0 ∷ xfer_rdy 6 1 0 ∷ xfer_rdy 6 2 0 ∷ []

-- the target's record where no DATA is stored yet: the burst's base and end, the XFER_RDY's state (0 none, 1 unanswered, 2 to be sent again, 3 had its ACK), its TPTT,
-- retries and the tags handed out
abbrev pub unstored : ℕ → ℕ → ℕ → ℕ → ℕ → ℕ → Target
unstored base end state tptt retries since =
    record { receiver = beginning (device 1) base end; state = state; tptt = tptt; retries = retries; stored = false; under = 0; since = since; elapsed = 0 }

-- no XFER_RDY is unanswered: "A cut with none changes nothing"; 4 "ACK, NAK or timeout, none unanswered"
pub record Quiet (y : Target) : Type 0 where
  pub cuts : cut y ≡ lending (y saying Said.word Word.unchanged) []
  pub four : said y (ack ∷ nak ∷ timeout ∷ []) ≡ replicate 3 (Said.refused 4)

pub record NoneUnanswered : Type 0 where
  -- before the first one; to be sent again; after its ACK
  pub first : Quiet (unstored 0 0 0 0 0 0)
  pub to_be_resent : Quiet (unstored 0 5 2 0 1 1)
  pub acknowledged : Quiet (unstored 0 5 3 0 0 1)
  -- these are the records: as set up, after a NAK, after the ACK
  pub begins : start 1 ≡ unstored 0 0 0 0 0 0
  pub heard_nak : calls (start 1) (issues ∷ nak ∷ []) ≡ unstored 0 5 2 0 1 1
  pub heard_ack : calls (start 1) (issues ∷ ack ∷ []) ≡ unstored 0 5 3 0 0 1
  -- a cut then is no retry: the one that is allowed is left, and the frame is that which was due
  pub counts : said (start 1) (cut ∷ issues ∷ nak ∷ cut ∷ issues ∷ nak ∷ []) ≡ Said.word Word.unchanged ∷ out ∷ again ∷ Said.word Word.unchanged ∷ out ∷ failed 28 ∷ []
  pub resent : frames_of (start 1) (cut ∷ issues ∷ nak ∷ cut ∷ issues ∷ []) ≡ xfer_rdy 4 0 0 ∷ xfer_rdy 6 1 0 ∷ []
  -- "when none is due it says wait": unanswered, and after the ACK while the burst is not filled
  pub waits : said (start 1) (issues ∷ issues ∷ ack ∷ issues ∷ []) ≡ out ∷ Said.word Word.wait ∷ Said.word Word.acknowledged ∷ Said.word Word.wait ∷ []

-- the two DATA frames of burst 1 under a TPTT, four bytes and one
abbrev pub burst1 : ℕ → List Call
burst1 tptt = stores (data_frame tptt 0 0 (10 ∷ 11 ∷ 12 ∷ 13 ∷ [])) ∷ stores (data_frame tptt 4 3 (14 ∷ 0 ∷ 0 ∷ 0 ∷ [])) ∷ []

-- the ACK ends the counting
pub record PerBurst : Type 0 where
  -- limit 1: a retry in burst 1, then the ACK and its data; burst 2 has its own retry; 28 at the second NAK there
  pub anew :
      said (start 1) (issues ∷ nak ∷ issues ∷ ack ∷ (burst1 1 ++ (issues ∷ nak ∷ issues ∷ nak ∷ []))) ≡
      out ∷ again ∷ out ∷ Said.word Word.acknowledged ∷ Said.stored ∷ Said.received ∷ out ∷ again ∷ out ∷ failed 28 ∷ []
  -- burst 2: offset 5, RETRANSMIT zero, then one; TPTT 0 left use when DATA was stored under 1, then 2
  pub frames :
      frames_of (start 1) (issues ∷ nak ∷ issues ∷ ack ∷ (burst1 1 ++ (issues ∷ nak ∷ issues ∷ nak ∷ issues ∷ []))) ≡
      xfer_rdy 4 0 0 ∷ xfer_rdy 6 1 0 ∷ xfer_rdy 4 0 5 ∷ xfer_rdy 6 2 5 ∷ []

-- "Until its ACK, write DATA that passes 5 to 8 is discarded"
pub record Early : Type 0 where
  -- the first XFER_RDY is unanswered: both frames are discarded, and no mark moves; after its ACK they are stored
  pub discards : said (start 1) (issues ∷ burst1 0) ≡ out ∷ replicate 2 (Said.word Word.discarded)
  pub keeps : calls (start 1) (issues ∷ burst1 0) ≡ unstored 0 5 1 0 0 1
  pub then_stores : said (start 1) (issues ∷ (burst1 0 ++ (ack ∷ burst1 0))) ≡ out ∷ (replicate 2 (Said.word Word.discarded) ++ (Said.word Word.acknowledged ∷ Said.stored ∷ Said.received ∷ []))
  -- sent again: under the new TPTT discarded until the ACK, under the old one 8, before and after it
  pub resent : said (start 1) (issues ∷ nak ∷ issues ∷ burst1 1) ≡ out ∷ again ∷ out ∷ replicate 2 (Said.word Word.discarded)
  pub old : said (start 1) (issues ∷ nak ∷ issues ∷ (burst1 0 ++ (ack ∷ burst1 0))) ≡ out ∷ again ∷ out ∷ (replicate 2 (Said.refused 8) ++ (Said.word Word.acknowledged ∷ replicate 2 (Said.refused 8)))
  -- before the first XFER_RDY no TPTT is current: 8
  pub none : said (start 1) (burst1 0) ≡ replicate 2 (Said.refused 8)
