-- Request K3 worked out: a resent XFER_RDY of another length than the burst it repeats. Proved in proofs/Repeat.antt.
use Rattle.std.specs.Prelude.{ℕ, List, [], ◌∷◌, ◌≡◌}
use Rattle.status.specs.Answer.{Word, Taking, Said, ◌saying◌}
use Rattle.initiator.specs.WriteRecord.{start_of}
use Rattle.initiator.specs.WriteTake.{ended_of, write_arrival_of}
use Rattle.initiator.specs.declared.types.Writer.{Writer}
use Rattle.worked.specs.Write.{host, xfer_rdy_for, xfer_rdy, data_frame, writer, sent_first}
use Rattle.worked.specs.Crossing.{said, frames_of, asks, takes, opened, resent_both, crossed}

-- a burst from 0 to an end is taken under a TPTT and starts: no frame of it is handed out
abbrev pub begun : ℕ → ℕ → Writer
begun tptt end = writer tptt 0 end 0 0 0 0 0

-- an XFER_RDY sent again: RETRY DATA FRAMES and RETRANSMIT one
abbrev pub resent : ℕ → ℕ → ℕ → List ℕ
resent = xfer_rdy_for 6

pub record Repeating : Type 0 where
  -- The shortest run in which the initiator before K3 sent another length: an XFER_RDY for five bytes at 0; the same again for three; a frame asked for.
  -- It took the second and handed out three bytes. Now the second is 25 and the record has ended: no frame goes out
  pub run : said (start_of host) (takes (xfer_rdy 4 0 0) ∷ takes (resent 1 0 3) ∷ asks ∷ []) ≡ Said.xfer_rdy Taking.next ∷ Said.failed 25 0 ∷ Said.refused 2 ∷ []
  pub sends_nothing : frames_of (start_of host) (takes (xfer_rdy 4 0 0) ∷ takes (resent 1 0 3) ∷ asks ∷ []) ≡ []
  -- what it leaves: burst 1 as it was taken, ended
  pub takes_first : (write_arrival_of (start_of host) (xfer_rdy 4 0 0)).left ≡ begun 0 5
  pub shorter : write_arrival_of (begun 0 5) (resent 1 0 3) ≡ (ended_of (begun 0 5) saying Said.failed 25 0)
  -- none, one byte less, one more, all ten
  pub none : (write_arrival_of (begun 0 5) (resent 1 0 0)).says ≡ Said.failed 25 0
  pub one_less : (write_arrival_of (begun 0 5) (resent 1 0 4)).says ≡ Said.failed 25 0
  pub one_more : (write_arrival_of (begun 0 5) (resent 1 0 6)).says ≡ Said.failed 25 0
  pub all : (write_arrival_of (begun 0 5) (resent 1 0 10)).says ≡ Said.failed 25 0
  -- the burst's own length: taken as before, with its new tag, which the first frame carries
  pub right : write_arrival_of (begun 0 5) (resent 1 0 5) ≡ (begun 1 5 saying Said.xfer_rdy Taking.repeats)
  pub carries : frames_of (begun 1 5) (asks ∷ []) ≡ data_frame 1 0 0 (10 ∷ 11 ∷ 12 ∷ 13 ∷ []) ∷ []
  -- the count is that of the burst in service: one frame of burst 1; four of it while burst 2 waits, which is the one repeated and is not replaced
  pub counts : write_arrival_of opened (resent 1 0 3) ≡ (ended_of opened saying Said.failed 25 1)
  pub waiting : write_arrival_of (crossed 2 1) (resent 2 5 4) ≡ (ended_of (crossed 2 1) saying Said.failed 25 4)
  -- where burst 2 waits with three bytes, the length of burst 1, in service, does not count, its own does
  pub not_in_service : said resent_both (takes (xfer_rdy_for 4 1 5 3) ∷ takes (resent 2 5 5) ∷ []) ≡ Said.xfer_rdy (Taking.delivers 4) ∷ Said.failed 25 4 ∷ []
  pub waiting_right : said resent_both (takes (xfer_rdy_for 4 1 5 3) ∷ takes (resent 2 5 3) ∷ asks ∷ []) ≡ Said.xfer_rdy (Taking.delivers 4) ∷ Said.xfer_rdy Taking.repeats ∷ Said.word Word.wait ∷ []
  -- after burst 1's delivery it is still the one repeated
  pub delivered : (write_arrival_of sent_first (resent 1 0 4)).says ≡ Said.failed 25 2
  pub delivered_right : (write_arrival_of sent_first (resent 1 0 5)).says ≡ Said.xfer_rdy Taking.repeats
  -- before any burst there is none to repeat: the first XFER_RDY was lost, and any length that fits begins burst 1
  pub first_lost : write_arrival_of (start_of host) (resent 1 0 3) ≡ (begun 1 3 saying Said.xfer_rdy Taking.next)
  pub first_carries : frames_of (begun 1 3) (asks ∷ []) ≡ data_frame 1 0 1 (10 ∷ 11 ∷ 12 ∷ 0 ∷ []) ∷ []
  -- nor is there at the previous end: burst 2's first was lost
  pub second_lost : write_arrival_of sent_first (resent 2 5 3) ≡ (writer 2 5 8 5 5 0 0 0 saying Said.xfer_rdy Taking.next)
  -- 27 and 26 come before 25: both lengths also pass the count
  pub not_expected : (write_arrival_of (begun 0 5) (resent 1 5 6)).says ≡ Said.failed 27 0
  pub elsewhere : (write_arrival_of (begun 0 5) (resent 1 1 10)).says ≡ Said.failed 26 0
