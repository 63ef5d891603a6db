-- A write command worked out: its two bursts over the link, and the second again after a resent XFER_RDY. Proved in proofs/Write.antt.
use Rattle.std.specs.Prelude.{ℕ, List, [], ◌∷◌, ◌++◌, true, false, ◌≡◌, replicate}
use Rattle.status.specs.Answer.{Taking, Said, ◌saying◌}
use Rattle.status.specs.Result.{Result}
use Rattle.transfer.specs.declared.Transfer.{Transfer}
use Rattle.frame.specs.Format.{field}
use Rattle.receiver_steps.specs.declared.types.Receiver.{Receiver}
use Rattle.receiver.specs.DataFrame.{arrival_of}
use Rattle.initiator.specs.WriteRecord as initiator
use Rattle.initiator.specs.WriteSend as send
use Rattle.initiator.specs.WriteTake.{write_arrival_of}
use Rattle.initiator.specs.declared.types.Writer.{Writer}
use Rattle.target.specs.Record as target
use Rattle.target.specs.Transmit.{next_of}
use Rattle.target.specs.Confirmation.{ack_of, timeout_of, loss_of}
use Rattle.target.specs.Arrival as taking
use Rattle.target.specs.declared.types.Target.{Target}
use Rattle.link.specs.Ports.{Signal}
use Rattle.link.specs.World.{World, Report, Event, ask, arrives, damaged, frame_lost, confirmed, timeout, cut, other, asking, signals, at_sender, at_receiver, at_receiver_in, run}
use Rattle.link.specs.Delivers.{fresh}
use Rattle.link.specs.Claim.{xfer_rdy_sent}
use Rattle.link.specs.Writing.{write_ports}
use Rattle.link.specs.Calls.{TargetCall}
use Rattle.worked.specs.Setting.{between, ten, space, to_initiator, foreign, response, busy}
use Rattle.worked.specs.Run.{Worked, burst}

-- a write of ten bytes in bursts of five, four per frame, so two frames each; window 2, retry limit 3: the initiator's transfer record and the target's
abbrev pub writing : ℕ → ℕ → Transfer
writing here there = between here there true 10 2 3 5

abbrev pub host : Transfer
host = writing 0x123456 0xabcdef

abbrev pub device : Transfer
device = writing 0xabcdef 0x123456

-- an output buffer with space for an XFER_RDY
abbrev pub ready : List ℕ
ready = replicate 36 0xff

-- the target's XFER_RDY: byte 10, the TPTT, the requested offset and the write data length
abbrev pub xfer_rdy_for : ℕ → ℕ → ℕ → ℕ → List ℕ
xfer_rdy_for flags tptt offset len =
    to_initiator 0x05 flags 0 0x12 tptt
    (0x00 ∷ 0x00 ∷ 0x00 ∷ offset ∷ 0x00 ∷ 0x00 ∷ 0x00 ∷ len ∷ 0x00 ∷ 0x00 ∷ 0x00 ∷ 0x00 ∷ [])

-- for five bytes, a whole burst
abbrev pub xfer_rdy : ℕ → ℕ → ℕ → List ℕ
xfer_rdy flags tptt offset = xfer_rdy_for flags tptt offset 5

-- the initiator's DATA frame: the TPTT, the data offset, the number of fill bytes and the four bytes at the end
abbrev pub data_frame : ℕ → ℕ → ℕ → List ℕ → List ℕ
data_frame tptt offset fill part =
    0x01 ∷ 0xab ∷ 0xcd ∷ 0xef ∷ 0x00 ∷ 0x12 ∷ 0x34 ∷ 0x56 ∷
    0x00 ∷ 0x00 ∷ 0x00 ∷ fill ∷ 0x00 ∷ 0x00 ∷ 0x00 ∷ 0x00 ∷
    0x00 ∷ 0x12 ∷ 0x00 ∷ tptt ∷ 0x00 ∷ 0x00 ∷ 0x00 ∷ offset ∷ part

-- a DATA frame for burst 2 under another tag than its own
abbrev pub stale : ℕ → List ℕ
stale tptt = data_frame tptt 5 0 (0x77 ∷ 0x77 ∷ 0x77 ∷ 0x77 ∷ [])

-- where a burst starts: the target y hands out its XFER_RDY, the initiator x takes those bytes, the target gets the ACK; the sent and the received data
abbrev pub agreed : Writer → Target → List ℕ → List ℕ → World write_ports
agreed x y sent received = fresh write_ports (write_arrival_of x (xfer_rdy_sent y ready 36)).left (ack_of (next_of y ready).left).left sent received

-- Burst 1, from set_up: frames at 0 and 4, no fault.
unfoldable pub first_start : World write_ports
first_start = agreed (initiator.start_of host) (target.start_of device) ten (replicate 10 0xff)

unfoldable pub first_events : List (Event write_ports)
first_events = ask space ∷ ask space ∷ arrives ∷ arrives ∷ confirmed ∷ confirmed ∷ []

abbrev pub half : List ℕ
half = 10 ∷ 11 ∷ 12 ∷ 13 ∷ 14 ∷ 0xff ∷ 0xff ∷ 0xff ∷ 0xff ∷ 0xff ∷ []

abbrev pub FirstDelivered : Type 1
FirstDelivered = Worked (burst 0 5 3) first_start first_events (Report.delivered 2) half 0 2 ((0, 0) ∷ (4, 0) ∷ [])

-- the initiator's record with no burst pending: its burst's TPTT, base and end; next and furthest offset; unanswered, retries and frames
abbrev pub writer : ℕ → ℕ → ℕ → ℕ → ℕ → ℕ → ℕ → ℕ → Writer
writer tptt base end next reached unanswered retries frames =
    record {
      sender =
          record {
            transfer = host;
            burst = record { base = base; end = end; tptt = tptt; limit = 3 };
            next = next;
            balance = base;
            unanswered = unanswered;
            nak = false;
            cdp = false;
            retries = retries;
            frames = frames;
            ended = false;
          };
      reached = reached;
      pending = false;
      taken = record { base = 0; end = 0; tptt = 0; limit = 0 };
    }

-- the target's receiving port: a burst whose expected offset and filled mark are the same
abbrev pub filled : ℕ → ℕ → ℕ → Receiver
filled base end mark = record { transfer = device; base = base; end = end; expected = mark; filled = mark; waiting = false; ended = false }

-- the records as burst 1 leaves them; the XFER_RDY had its ACK
abbrev pub sent_first : Writer
sent_first = writer 0 0 5 5 5 0 0 2

abbrev pub filled_first : Target
filled_first = record { receiver = filled 0 5 5; state = 3; tptt = 0; retries = 0; stored = true; under = 0; since = 0; elapsed = 0 }

-- Burst 2, from there: frames at 5 and 9.
unfoldable pub second_start : World write_ports
second_start = agreed sent_first filled_first ten half

unfoldable pub second_transfer : List (Event write_ports)
second_transfer =
    -- an ACK for the XFER_RDY with none unanswered: 4
    other (at_receiver (TargetCall.signals Signal.ack)) ∷
    -- the target is asked for an XFER_RDY while burst 2 is not filled: "wait"
    other (at_receiver_in TargetCall.asking ready) ∷
    -- DATA at the initiator: 6; so few bytes: 5
    other (at_sender foreign) ∷ other (at_sender (0x05 ∷ [])) ∷
    -- frames 1 and 2: at 5 and 9; then the window is full and the end is reached: "wait"
    ask space ∷ ask space ∷ ask space ∷
    -- fault 1: the frame at 5 is lost
    frame_lost ∷
    -- the frame at 9 is discarded, the target waits for CDP; its ACK comes
    arrives ∷ confirmed ∷
    -- a frame under the tag of burst 1, and one that is not for the target: 8 and 7
    other (at_receiver (TargetCall.bytes (stale 0))) ∷ other (at_receiver (TargetCall.bytes foreign)) ∷
    -- a timeout, not early: the first retry
    timeout ∷
    -- frames 3 and 4: at 5 with CDP one, and 9; the first is stored
    ask space ∷ ask space ∷ arrives ∷
    -- fault 2: the frame at 9 arrives damaged; ACK and NAK come, which begins the second retry, again from 5
    damaged ∷ confirmed ∷ confirmed ∷
    -- frames 5 and 6: at 5 with CDP one, and 9; the first is stored again
    ask space ∷ ask space ∷ arrives ∷
    -- fault 3: a cut with two unanswered; the third retry; the ACK and the frame at 9 are cleared
    cut ∷
    -- frames 7 and 8: at 5 with CDP one, and 9; both are stored, which fills the burst
    ask space ∷ ask space ∷ arrives ∷
    -- a data buffer of nine bytes: 1
    other (asking (replicate 9 0) space) ∷
    arrives ∷
    -- the two ACKs: delivered
    confirmed ∷ confirmed ∷
    -- a write burst's delivery ends nothing: an ACK is 4, a frame asked for "wait"
    other (signals Signal.ack) ∷ ask space ∷ []

unfoldable pub second_late : List (Event write_ports)
second_late =
    -- the RESPONSE at the initiator ends the command: a frame asked for is 2
    other (at_sender response) ∷ ask space ∷
    -- the nexus loss at the target is 31; then a frame is 2
    other (at_receiver (TargetCall.signals Signal.loss)) ∷ other (at_receiver (TargetCall.bytes (stale 0))) ∷ []

abbrev pub second_events : List (Event write_ports)
second_events = second_transfer ++ second_late

-- delivered with 8 frames, all bytes there, those of burst 1 as they were; 3 faults, no more than the limit; 8 is 2 times 4
abbrev pub SecondDelivered : Type 1
SecondDelivered =
    Worked (burst 5 10 3) second_start second_events (Report.delivered 8) ten 3 8
    ((5, 0) ∷ (9, 0) ∷ (5, 1) ∷ (9, 0) ∷ (5, 1) ∷ (9, 0) ∷ (5, 1) ∷ (9, 0) ∷ [])

-- of each frame its TPTT
abbrev pub tags_of : List (List ℕ) → List ℕ
tags_of [] = []
tags_of (f ∷ fs) = field f 18 2 ∷ tags_of fs

-- the command: its set_up at both ends, its XFER_RDYs, its bursts
pub record Command : Type 1 where
  pub sets_up_host : initiator.set_up_write_of host ≡ Result.value (initiator.start_of host)
  pub sets_up_device : target.set_up_write_of device ≡ Result.value (target.start_of device)
  -- RETRY DATA FRAMES one; TPTT 0 at offset 0, then TPTT 1 at offset 5
  pub asks_first : xfer_rdy_sent (target.start_of device) ready 36 ≡ xfer_rdy 4 0 0
  pub asks_second : xfer_rdy_sent filled_first ready 36 ≡ xfer_rdy 4 1 5
  pub first : FirstDelivered
  pub leaves_writer : (run first_start first_events).sending ≡ sent_first
  pub leaves_target : (run first_start first_events).receiving ≡ filled_first
  pub second : SecondDelivered
  -- the numbers of the calls refused among its events, here where burst 2 starts: 4, 6, 5, 8, 7, 1; a buffer longer than the byte count is 1 at the target, and at the
  -- receiving port that it holds
  pub four : (ack_of second_start.receiving).says ≡ Said.refused 4
  pub six : (write_arrival_of second_start.sending foreign).says ≡ Said.refused 6
  pub five : (write_arrival_of second_start.sending (0x05 ∷ [])).says ≡ Said.refused 5
  pub eight : (taking.write_arrival_of second_start.receiving (stale 0) 10).says ≡ Said.refused 8
  pub seven : (taking.write_arrival_of second_start.receiving foreign 10).says ≡ Said.refused 7
  pub one : (send.next_of second_start.sending (replicate 9 0) space).says ≡ Said.refused 1
  pub longer : (taking.write_arrival_of second_start.receiving foreign 11).says ≡ Said.refused 1
  pub longer_core : (arrival_of (filled 5 10 5) 5 false 4 11).says ≡ Said.refused 1
  -- the late calls: the RESPONSE's IU of 24 bytes stands at 24, after 8 frames; 31
  pub ends : (write_arrival_of (run second_start second_transfer).sending response).says ≡ Said.response 24 24 busy 8
  pub loses : (loss_of (run second_start second_transfer).receiving).says ≡ Said.failed 31 0
  -- both records have ended with them
  pub ended_host : (run second_start second_events).sending.sender.ended ≡ true
  pub ended_device : (run second_start second_events).receiving.receiver.ended ≡ true
  -- each frame carries the TPTT of its burst's XFER_RDY
  pub first_tags : tags_of (run first_start first_events).handed ≡ 0 ∷ 0 ∷ []
  pub second_tags : tags_of (run second_start second_events).handed ≡ replicate 8 1

-- Burst 2 where its XFER_RDY, with TPTT 1, was handed out and never reached the initiator: after the timeout it is to be sent again, the first retry.
abbrev pub unheard : Target
unheard = record { receiver = filled 5 10 5; state = 2; tptt = 1; retries = 1; stored = true; under = 0; since = 1; elapsed = 0 }

unfoldable pub resent_start : World write_ports
resent_start = agreed sent_first unheard ten half

unfoldable pub resent_transfer : List (Event write_ports)
resent_transfer =
    -- a frame under the first XFER_RDY's tag: 8
    other (at_receiver (TargetCall.bytes (stale 1))) ∷
    -- frames 1 and 2: at 5 and 9; the first is stored and its ACK comes
    ask space ∷ ask space ∷ arrives ∷ confirmed ∷
    -- fault 1: the frame at 9 is lost
    frame_lost ∷
    -- a timeout, not early: the first retry, from 5
    timeout ∷
    -- frames 3 and 4: at 5 with CDP one, and 9; both are stored; the two ACKs: delivered
    ask space ∷ ask space ∷ arrives ∷ arrives ∷ confirmed ∷ confirmed ∷ []

-- then a nexus loss at the initiator: 31, which changes nothing of the first report
abbrev pub resent_events : List (Event write_ports)
resent_events = resent_transfer ++ (other (signals Signal.loss) ∷ [])

-- delivered with 4 frames, all bytes there; 1 fault; 4 is 2 times 2
abbrev pub ResentDelivered : Type 1
ResentDelivered = Worked (burst 5 10 3) resent_start resent_events (Report.delivered 4) ten 1 4 ((5, 0) ∷ (9, 0) ∷ (5, 1) ∷ (9, 0) ∷ [])

pub record Resent : Type 1 where
  -- the first XFER_RDY is handed out and times out
  pub times_out : (timeout_of (next_of filled_first ready).left).left ≡ unheard
  -- RETRY DATA FRAMES and RETRANSMIT one; TPTT 2, since 0 and 1 are in use; "the rest the same"
  pub asks_again : xfer_rdy_sent unheard ready 36 ≡ xfer_rdy 6 2 5
  -- to the initiator it is the first one for burst 2, which starts with its TPTT
  pub takes : write_arrival_of sent_first (xfer_rdy 6 2 5) ≡ (writer 2 5 10 5 5 0 0 0 saying Said.xfer_rdy Taking.next)
  pub delivered : ResentDelivered
  pub tags : tags_of (run resent_start resent_events).handed ≡ replicate 4 2
  pub loses : (send.loss_of (run resent_start resent_transfer).sending).says ≡ Said.failed 31 4
