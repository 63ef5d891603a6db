-- XFER_RDYs offered to the initiator at every offset: which it takes, and 25, 26, 27. The write of specs/Write: ten bytes in bursts of five. Proved in proofs/Offers.antt.
use Rattle.std.specs.Prelude.{ℕ, zero, suc, List, [], ◌∷◌, ◌++◌, ◌≡◌, replicate}
use Rattle.status.specs.Answer.{Word, Taking, Said, ◌saying◌}
use Rattle.initiator.specs.WriteRecord.{start_of}
use Rattle.initiator.specs.WriteTake.{write_arrival_of}
use Rattle.initiator.specs.declared.types.Writer.{Writer}
use Rattle.link.specs.Ports.{Signal}
use Rattle.worked.specs.Write.{host, xfer_rdy_for, xfer_rdy, sent_first}
use Rattle.worked.specs.Crossing.{calls, said, frames_of, asks, hears, takes, opened, resent_both, waits, crossed, started, first_frame}

-- the answers to an XFER_RDY with byte 10 and a length, at k offsets from one on
abbrev pub from : ℕ → ℕ → ℕ → ℕ → Writer → List Said
from zero offset flags len w = []
from (suc k) offset flags len w = (write_arrival_of w (xfer_rdy_for flags 1 offset len)).says ∷ from k (suc offset) flags len w

-- at 0 to 10, with RETRANSMIT zero for one byte; with RETRANSMIT one for five
abbrev pub first : Writer → List Said
first w = from 11 0 4 1 w

abbrev pub resent : Writer → List Said
resent w = from 11 0 6 5 w

abbrev pub failed : ℕ → ℕ → ℕ → List Said
failed k number frames = replicate k (Said.failed number frames)

abbrev pub next : List Said
next = Said.xfer_rdy Taking.next ∷ []

abbrev pub repeats : List Said
repeats = Said.xfer_rdy Taking.repeats ∷ []

pub record Offers : Type 0 where
  -- before any burst: "0 at first", with RETRANSMIT one too, since there is none to repeat
  pub none : first (start_of host) ≡ next ++ failed 10 26 0
  pub none_resent : resent (start_of host) ≡ next ++ failed 10 26 0
  -- burst 1, from 0 to 5, is delivered: its end, and with RETRANSMIT one its base
  pub delivered : first sent_first ≡ failed 5 26 2 ++ next ++ failed 5 26 2
  pub delivered_resent : resent sent_first ≡ repeats ++ failed 4 26 2 ++ next ++ failed 5 26 2
  -- its second frame was not handed out: 27 at its end
  pub too_early : first opened ≡ failed 5 26 1 ++ failed 1 27 1 ++ failed 5 26 1
  pub too_early_resent : resent opened ≡ repeats ++ failed 4 26 1 ++ failed 1 27 1 ++ failed 5 26 1
  -- burst 2 waits: "The previous burst is the last one taken, started or not", and no frame of it was handed out
  pub waiting : first (crossed 2 1) ≡ failed 10 26 4 ++ failed 1 27 4
  pub waiting_resent : resent (crossed 2 1) ≡ failed 5 26 4 ++ repeats ++ failed 4 26 4 ++ failed 1 27 4
  -- 25 at the previous end: no byte, six where five remain; at first: eleven of ten
  pub no_byte : (write_arrival_of sent_first (xfer_rdy_for 4 1 5 0)).says ≡ Said.failed 25 2
  pub one_more : (write_arrival_of sent_first (xfer_rdy_for 4 1 5 6)).says ≡ Said.failed 25 2
  pub all_that_remain : (write_arrival_of sent_first (xfer_rdy_for 4 1 5 5)).says ≡ Said.xfer_rdy Taking.next
  pub all : (write_arrival_of (start_of host) (xfer_rdy_for 4 1 0 10)).says ≡ Said.xfer_rdy Taking.next
  pub more_than_all : (write_arrival_of (start_of host) (xfer_rdy_for 4 1 0 11)).says ≡ Said.failed 25 0

-- both frames of burst 1 were handed out, then a timeout: its next frame would be at 0 with CDP one
abbrev pub retrying : Writer
retrying = calls opened (asks ∷ hears Signal.timeout ∷ [])

-- "The new burst starts, retries zero, no NAK pending"
pub record Starts : Type 0 where
  -- after a timeout nothing is unanswered: it starts at once, and "the old burst then counts as delivered", after two frames; its first frame has CDP zero
  pub at_once : write_arrival_of retrying (xfer_rdy 4 1 5) ≡ (started 1 saying Said.xfer_rdy (Taking.delivers 2))
  pub carries : frames_of retrying (takes (xfer_rdy 4 1 5) ∷ asks ∷ []) ≡ first_frame ∷ []
  -- a NAK of burst 1 is pending when it is taken: it starts with the last answer, or at the timeout or cut
  pub nak_ack : calls resent_both (hears Signal.nak ∷ takes (xfer_rdy 4 1 5) ∷ hears Signal.ack ∷ []) ≡ started 1
  pub nak_timeout : calls resent_both (hears Signal.nak ∷ takes (xfer_rdy 4 1 5) ∷ hears Signal.timeout ∷ []) ≡ started 1
  pub nak_cut : calls resent_both (hears Signal.nak ∷ takes (xfer_rdy 4 1 5) ∷ hears Signal.cut ∷ []) ≡ started 1
  -- "till then wait": also where burst 1 is repeated and has a frame left to hand out
  pub till_then : said (waits 0 1 opened) (asks ∷ []) ≡ Said.word Word.wait ∷ []
  -- "RETRY DATA FRAMES zero makes its limit 0", also where it had to wait: the first timeout fails; with RETRY DATA FRAMES one it is a retry
  pub limit_zero :
      said resent_both (takes (xfer_rdy 0 1 5) ∷ hears Signal.ack ∷ hears Signal.ack ∷ asks ∷ hears Signal.timeout ∷ []) ≡
      Said.xfer_rdy (Taking.delivers 4) ∷ Said.word Word.taken ∷ Said.word Word.taken ∷ Said.frame 28 ∷ Said.failed 29 1 ∷ []
  pub limit_kept :
      said resent_both (takes (xfer_rdy 4 1 5) ∷ hears Signal.ack ∷ hears Signal.ack ∷ asks ∷ hears Signal.timeout ∷ []) ≡
      Said.xfer_rdy (Taking.delivers 4) ∷ Said.word Word.taken ∷ Said.word Word.taken ∷ Said.frame 28 ∷ Said.word Word.retry ∷ []
