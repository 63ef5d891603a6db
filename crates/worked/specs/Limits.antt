-- "A retry beyond the limit is 28, 29 or 30, by the first bad event of the attempt": the limit used up by each cause, at both ends that send DATA, over the link; and
-- retries off at the ports. The laws over all records are sender specs/FirstBadEvent `FirstBadEvent` and specs/Retries `Retries`; that a report is given once is `once`
-- of link specs/Delivers. Proved in proofs/Limits.antt.
use Rattle.std.specs.Prelude.{ℕ, List, [], ◌∷◌, ◌++◌, true, ◌≡◌, replicate}
use Rattle.status.specs.Answer.{Word, Said}
use Rattle.initiator.specs.WriteRecord.{start_of}
use Rattle.initiator.specs.WriteTake.{write_arrival_of}
use Rattle.initiator.specs.declared.types.Writer.{Writer}
use Rattle.link.specs.Ports.{Called, Signal, Ports}
use Rattle.link.specs.World.{World, Report, Event, ask, arrives, damaged, frame_lost, confirmed, timeout, cut}
use Rattle.link.specs.Reading.{read_ports}
use Rattle.link.specs.Writing.{write_ports}
use Rattle.worked.specs.Setting.{between, space}
use Rattle.worked.specs.Write.{xfer_rdy_for}
use Rattle.worked.specs.Faults.{eight}
use Rattle.worked.specs.Crossing.{calls, said}
use Rattle.worked.specs.Both.{a_read, a_write, Events, Both, asking, hearing}

-- ── one cause each, retry limit 2 ──
-- Four bytes, so one frame: at 0. Window 1. Two retries are allowed; the third bad event fails.
abbrev pub four : List ℕ
four = 20 ∷ 21 ∷ 22 ∷ 23 ∷ []

unfoldable pub four_read : World read_ports
four_read = a_read 4 1 2 four

unfoldable pub four_write : World write_ports
four_write = a_write 4 1 2 four

-- three times the frame arrives damaged and its NAK comes
unfoldable pub naks : Events
naks P =
    ask space ∷ damaged ∷ confirmed ∷
    ask space ∷ damaged ∷ confirmed ∷
    ask space ∷ damaged ∷ confirmed ∷ []

-- three times the frame is lost, and a timeout, not early
unfoldable pub timeouts : Events
timeouts P =
    ask space ∷ frame_lost ∷ timeout ∷
    ask space ∷ frame_lost ∷ timeout ∷
    ask space ∷ frame_lost ∷ timeout ∷ []

-- three times a cut with the frame on the way
unfoldable pub cuts : Events
cuts P = ask space ∷ cut ∷ ask space ∷ cut ∷ ask space ∷ cut ∷ []

-- two timeouts, then a cut
unfoldable pub cut_last : Events
cut_last P =
    ask space ∷ frame_lost ∷ timeout ∷
    ask space ∷ frame_lost ∷ timeout ∷
    ask space ∷ cut ∷ []

-- each fails with 3 frames, the two resent ones with CDP one, and 3 faults, more than the limit; nothing is received. `FirstBadEvent` gives the number, `Retries` the place
abbrev pub ThreeOf : Events → ℕ → Type 1
ThreeOf es number = Both 4 2 four_read four_write es (Report.failed number 3) (replicate 4 0xff) 3 3 ((0, 0) ∷ (0, 1) ∷ (0, 1) ∷ [])

pub record UsedUp : Type 1 where
  -- "28, 29, 30: NAK Received, ACK/NAK Timeout, Connection Lost: retry limit used up"
  pub by_naks : ThreeOf naks 28
  pub by_timeouts : ThreeOf timeouts 29
  pub by_cuts : ThreeOf cuts 30
  -- the attempt's own event decides, not those of earlier attempts
  pub by_a_cut_at_last : ThreeOf cut_last 30

-- ── two bad events in one attempt, retry limit 1 ──
-- Eight bytes, so two frames: at 0 and at 4. Window 2.
unfoldable pub eight_read : World read_ports
eight_read = a_read 8 2 1 eight

unfoldable pub eight_write : World write_ports
eight_write = a_write 8 2 1 eight

-- the first attempt: frames 1 and 2 are lost (faults 1 and 2), a timeout: the one retry; then frames 3 and 4: at 0 with CDP one, and 4
abbrev pub retried : {P : Ports} → List (Event P)
retried = ask space ∷ ask space ∷ frame_lost ∷ frame_lost ∷ timeout ∷ ask space ∷ ask space ∷ []

-- fault 3: the frame at 0 arrives damaged; its NAK comes and is pending: "wait". Fault 4: the frame at 4 is lost; a timeout
unfoldable pub nak_then_timeout : Events
nak_then_timeout P = retried ++ (damaged ∷ confirmed ∷ ask space ∷ frame_lost ∷ timeout ∷ [])

-- the same NAK; fault 4: a cut with the frame at 4 on the way
unfoldable pub nak_then_cut : Events
nak_then_cut P = retried ++ (damaged ∷ confirmed ∷ cut ∷ [])

-- the same NAK; the frame at 4 arrives and is discarded; its ACK is the last answer
unfoldable pub nak_then_ack : Events
nak_then_ack P = retried ++ (damaged ∷ arrives ∷ confirmed ∷ confirmed ∷ [])

-- the frame at 0 is stored; fault 3: the one at 4 arrives damaged. After the ACK the NAK is the last answer
unfoldable pub ack_then_nak : Events
ack_then_nak P = retried ++ (arrives ∷ damaged ∷ confirmed ∷ confirmed ∷ [])

-- 28 with 4 frames: the NAK was the first bad event of the second attempt
abbrev pub Nak : Events → List ℕ → ℕ → Type 1
Nak es received faults = Both 8 1 eight_read eight_write es (Report.failed 28 4) received faults 4 ((0, 0) ∷ (4, 0) ∷ (0, 1) ∷ (4, 0) ∷ [])

pub record NakFirst : Type 1 where
  -- not 29, not 30
  pub then_a_timeout : Nak nak_then_timeout (replicate 8 0xff) 4
  pub then_a_cut : Nak nak_then_cut (replicate 8 0xff) 4
  -- "at zero the retry begins", which is beyond the limit
  pub then_an_ack : Nak nak_then_ack (replicate 8 0xff) 3
  pub after_an_ack : Nak ack_then_nak (30 ∷ 31 ∷ 32 ∷ 33 ∷ replicate 4 0xff) 3

-- ── the answers at the port ──
-- confirmations of either kind, one after the other
abbrev pub heard : (P : Ports) → List Signal → List (P.Sending → Called P.Sending)
heard P [] = []
heard P (g ∷ gs) = hearing P g ∷ heard P gs

-- two frames of eight bytes are handed out; what the port then answers to confirmations
abbrev pub answers : (P : Ports) → P.Sending → List Signal → List Said
answers P s gs = said (calls s (asking P eight ∷ asking P eight ∷ [])) (heard P gs)

-- the record s allows no retry; with two frames unanswered it has handed out so many
pub record AtTheLimit (P : Ports) (s : P.Sending) (frames : ℕ) : Type 0 where
  pub timeout : answers P s (Signal.timeout ∷ []) ≡ Said.failed 29 frames ∷ []
  pub cut : answers P s (Signal.cut ∷ []) ≡ Said.failed 30 frames ∷ []
  -- a NAK that is pending reports nothing; the event that begins the retry does, and it says 28
  pub nak : answers P s (Signal.nak ∷ Signal.ack ∷ []) ≡ Said.word Word.taken ∷ Said.failed 28 frames ∷ []
  pub nak_last : answers P s (Signal.ack ∷ Signal.nak ∷ []) ≡ Said.word Word.taken ∷ Said.failed 28 frames ∷ []
  pub nak_timeout : answers P s (Signal.nak ∷ Signal.timeout ∷ []) ≡ Said.word Word.taken ∷ Said.failed 28 frames ∷ []
  pub nak_cut : answers P s (Signal.nak ∷ Signal.cut ∷ []) ≡ Said.word Word.taken ∷ Said.failed 28 frames ∷ []

-- the initiator of a write of eight bytes with a retry limit, once it has taken an XFER_RDY whose byte 10 is given
abbrev pub taking : ℕ → ℕ → Writer
taking limit flags = (write_arrival_of (start_of (between 0x123456 0xabcdef true 8 2 limit 8)) (xfer_rdy_for flags 0 0 8)).left

-- after one retry
abbrev pub retried_once : (P : Ports) → P.Sending → P.Sending
retried_once P s = calls s (asking P eight ∷ asking P eight ∷ hearing P Signal.timeout ∷ [])

pub record Answers : Type 0 where
  -- limit 1, one retry made: the second attempt's two frames are the third and fourth
  pub read_one : AtTheLimit read_ports (retried_once read_ports (a_read 8 2 1 eight).sending) 4
  pub write_one : AtTheLimit write_ports (retried_once write_ports (taking 1 4)) 4
  -- "0 means retries off"
  pub read_off : AtTheLimit read_ports (a_read 8 2 0 eight).sending 2
  pub write_off : AtTheLimit write_ports (taking 0 0) 2
  -- the XFER_RDY does not switch them on
  pub write_off_at_host : AtTheLimit write_ports (taking 0 4) 2
  -- "RETRY DATA FRAMES zero makes its limit 0"
  pub write_off_at_target : AtTheLimit write_ports (taking 2 0) 2
