-- "A cut with none changes nothing", and nothing is reported twice: at both ends that send DATA, at the port by itself. A read's cuts at rest over the link are in
-- specs/Faults. That a report is given once is `once` of link specs/Delivers, for every list of events. Proved in proofs/AtRest.antt.
use Rattle.std.specs.Prelude.{ℕ, [], ◌∷◌, Bool, true, false, ◌≡◌, replicate}
use Rattle.status.specs.Answer.{Word, Said, ◌saying◌}
use Rattle.transfer.specs.declared.Transfer.{Transfer}
use Rattle.sender_steps.specs.declared.types.Sender.{Sender}
use Rattle.initiator.specs.declared.types.Writer.{Writer}
use Rattle.link.specs.Ports.{Called, lending, Signal, Ports}
use Rattle.link.specs.Reading.{read_ports}
use Rattle.link.specs.Writing.{write_ports}
use Rattle.worked.specs.Setting.{between, target}
use Rattle.worked.specs.Run.{pointers}
use Rattle.worked.specs.Faults.{eight}
use Rattle.worked.specs.Crossing.{calls, said, frames_of}
use Rattle.worked.specs.Both.{a_read, a_write, asking, hearing}

-- Eight bytes, so two frames: at 0 and at 4. Window 2, retry limit 1. The record with nothing unanswered: next offset, balance point, CDP, retries, frames
abbrev pub resting : Transfer → ℕ → ℕ → Bool → ℕ → ℕ → Sender
resting t next balance cdp retries frames =
    record { transfer = t; burst = record { base = 0; end = 8; tptt = 0; limit = 1 }; next = next; balance = balance; unanswered = 0; nak = false; cdp = cdp; retries = retries; frames = frames; ended = false }

abbrev pub reads : ℕ → ℕ → Bool → ℕ → ℕ → Sender
reads = resting (target 8 2 1)

-- a write's balance point stays its base; the furthest offset instead
abbrev pub writes : ℕ → ℕ → Bool → ℕ → ℕ → Writer
writes next reached cdp retries frames =
    record { sender = resting (between 0x123456 0xabcdef true 8 2 1 8) next 0 cdp retries frames; reached = reached; pending = false; taken = record { base = 0; end = 0; tptt = 0; limit = 0 } }

-- the calls that this table makes at a port of either kind
module _ (P : Ports) where
  abbrev pub Call : Type 0
  Call = P.Sending → Called P.Sending

  abbrev pub asked : Call
  asked = asking P eight

  abbrev pub ack : Call
  ack = hearing P Signal.ack

  abbrev pub nak : Call
  nak = hearing P Signal.nak

  abbrev pub timeout : Call
  timeout = hearing P Signal.timeout

  abbrev pub cut : Call
  cut = hearing P Signal.cut

  -- a cut changes nothing and reports nothing; ACK, NAK and timeout are 4
  pub record Quiet (s : P.Sending) : Type 0 where
    pub cuts : cut s ≡ lending (s saying Said.word Word.unchanged) []
    pub four : said s (ack ∷ nak ∷ timeout ∷ []) ≡ replicate 3 (Said.refused 4)

  -- before the first frame; between frames: the first had its ACK; after a timeout, before the first frame of the retry
  pub record Rests (first second retry : P.Sending) : Type 0 where
    pub acknowledged : calls first (asked ∷ ack ∷ []) ≡ second
    pub timed_out : calls first (asked ∷ timeout ∷ []) ≡ retry
    pub at_first : Quiet first
    pub at_second : Quiet second
    pub at_retry : Quiet retry
    -- the frame after a cut is the one that was due: at 0, at 4 with CDP zero, at 0 with CDP one
    pub carries_first : pointers (frames_of first (cut ∷ asked ∷ [])) ≡ (0, 0) ∷ []
    pub carries_second : pointers (frames_of second (cut ∷ asked ∷ [])) ≡ (4, 0) ∷ []
    pub carries_retry : pointers (frames_of retry (cut ∷ asked ∷ [])) ≡ (0, 1) ∷ []
    -- a cut at rest is no retry: the one that is allowed comes after the first, 29 after the second
    pub counts :
        said first (cut ∷ asked ∷ timeout ∷ cut ∷ asked ∷ timeout ∷ []) ≡
        Said.word Word.unchanged ∷ Said.frame 28 ∷ Said.word Word.retry ∷ Said.word Word.unchanged ∷ Said.frame 28 ∷ Said.failed 29 2 ∷ []

  -- the record has reported: a frame asked for and each confirmation is 2
  abbrev pub Ended : P.Sending → Type 0
  Ended s = said s (asked ∷ ack ∷ nak ∷ timeout ∷ cut ∷ []) ≡ replicate 5 (Said.refused 2)

  -- a retry began, and no more is allowed: after 28, 29 and 30; also where a NAK was pending and a frame unanswered
  pub record Failed (retry : P.Sending) : Type 0 where
    pub by_nak : Ended (calls retry (asked ∷ nak ∷ []))
    pub by_timeout : Ended (calls retry (asked ∷ timeout ∷ []))
    pub by_cut : Ended (calls retry (asked ∷ cut ∷ []))
    pub by_both : Ended (calls retry (asked ∷ asked ∷ nak ∷ timeout ∷ []))

  -- both frames had their ACK
  abbrev pub both_confirmed : P.Sending → P.Sending
  both_confirmed s = calls s (asked ∷ asked ∷ ack ∷ ack ∷ [])

pub record AtRest : Type 0 where
  -- as set up; the burst's XFER_RDY is taken
  pub read_begins : (a_read 8 2 1 eight).sending ≡ reads 0 0 false 0 0
  pub write_begins : (a_write 8 2 1 eight).sending ≡ writes 0 0 false 0 0
  -- the ACK moves a read's balance point
  pub read : Rests read_ports (reads 0 0 false 0 0) (reads 4 4 false 0 1) (reads 0 0 true 1 1)
  pub write : Rests write_ports (writes 0 0 false 0 0) (writes 4 4 false 0 1) (writes 0 4 true 1 1)
  pub read_failed : Failed read_ports (reads 0 0 true 1 1)
  pub write_failed : Failed write_ports (writes 0 4 true 1 1)
  -- 2 "a read's delivery (sender) .. was reported": a cut too
  pub read_delivered : Ended read_ports (both_confirmed read_ports (reads 0 0 false 0 0))
  -- "a write burst's delivery ends nothing": a cut changes nothing and reports nothing, ACK, NAK and timeout are 4, a frame asked for is "wait"
  pub write_ends_nothing : both_confirmed write_ports (writes 0 0 false 0 0) ≡ writes 8 8 false 0 2
  pub write_delivered : Quiet write_ports (writes 8 8 false 0 2)
  pub write_waits : said (writes 8 8 false 0 2) (cut write_ports ∷ asked write_ports ∷ []) ≡ Said.word Word.unchanged ∷ Said.word Word.wait ∷ []
  -- retries off: a cut with nothing unanswered is no failure
  pub read_off :
      said (a_read 8 2 0 eight).sending (cut read_ports ∷ asked read_ports ∷ ack read_ports ∷ cut read_ports ∷ []) ≡
      Said.word Word.unchanged ∷ Said.frame 28 ∷ Said.word Word.taken ∷ Said.word Word.unchanged ∷ []
  pub write_off :
      said (a_write 8 2 0 eight).sending (cut write_ports ∷ asked write_ports ∷ ack write_ports ∷ cut write_ports ∷ []) ≡
      Said.word Word.unchanged ∷ Said.frame 28 ∷ Said.word Word.taken ∷ Said.word Word.unchanged ∷ []
