-- Two worked runs of the delivery claim, of a read: the claim's premises can be met, and each of its parts says something. Proved in proofs/Read.antt.
use Rattle.std.specs.Prelude.{ℕ, List, [], ◌∷◌, ◌++◌, true, ◌≡◌, replicate}
use Rattle.status.specs.Answer.{Said}
use Rattle.transfer.specs.declared.Transfer.{Transfer}
use Rattle.sender_steps.specs.Record.{beginning}
use Rattle.sender.specs.Record.{whole}
use Rattle.receiver_steps.specs.Record as receiver
use Rattle.link.specs.Ports.{Signal}
use Rattle.link.specs.World.{World, Report, Event, ask, arrives, damaged, frame_lost, confirmed, confirmation_lost, timeout, cut, other, asking, signals, at_receiver, at_receiver_in, run}
use Rattle.link.specs.Delivers.{fresh}
use Rattle.link.specs.Reading.{read_ports}
use Rattle.link.specs.Calls.{ReaderCall, reader_call}
use Rattle.worked.specs.Setting.{target, host, ten, space, foreign, response, busy}
use Rattle.worked.specs.Run.{Worked, burst}

-- a read at its start: byte count, window and retry limit, the sent and the received data
abbrev pub begin : ℕ → ℕ → ℕ → List ℕ → List ℕ → World read_ports
begin count window limit sent received =
    let t : Transfer = target count window limit in
    fresh read_ports (beginning t (whole t)) (receiver.beginning (host count window limit) 0 count) sent received

-- Ten bytes, so three frames: at 0, at 4 and at 8. Window 3, retry limit 5.
unfoldable pub ten_start : World read_ports
ten_start = begin 10 3 5 ten (replicate 10 0xff)

unfoldable pub ten_transfer : List (Event read_ports)
ten_transfer =
    -- a cut told with none unanswered changes nothing
    other (signals Signal.cut) ∷
    -- an ACK with none unanswered: 4
    other (signals Signal.ack) ∷
    -- an output buffer one byte short: 3
    ask (replicate 27 0xff) ∷
    -- frames 1, 2 and 3: at 0, 4 and 8
    ask space ∷ ask space ∷ ask space ∷
    -- no frame is due: "wait"
    ask space ∷
    -- fault 1: the frame at 0 is lost
    frame_lost ∷
    -- the frame at 4 is discarded, the receiving port waits for CDP; its ACK comes
    arrives ∷ confirmed ∷
    -- a frame with another tag: 8; the same at a buffer of nine bytes: 1
    other (at_receiver (ReaderCall.bytes foreign)) ∷
    other (at_receiver_in (ReaderCall.bytes foreign) (replicate 9 0xff)) ∷
    -- a timeout, not early: the first retry; the frame at 8 is cleared
    timeout ∷
    -- frames 4 and 5: at 0 with CDP one, and 4
    ask space ∷ ask space ∷
    -- fault 2: the frame at 0 arrives damaged; its NAK comes and is pending: "wait"
    damaged ∷ confirmed ∷ ask space ∷
    -- the frame at 4 is discarded; with its ACK the second retry begins
    arrives ∷ confirmed ∷
    -- frame 6: at 0 with CDP one; it is stored, and its ACK moves the balance point to 4
    ask space ∷ arrives ∷ confirmed ∷
    -- frame 7: at 4; it is stored
    ask space ∷ arrives ∷
    -- fault 3: its ACK is lost
    confirmation_lost ∷
    -- fault 4: a cut with one unanswered; the first retry from 4
    cut ∷
    -- frames 8 and 9: at 4 with CDP one, and 8; the first is stored again
    ask space ∷ ask space ∷ arrives ∷
    -- fault 5: an early timeout; the second retry from 4; the ACK and the frame at 8 are cleared
    timeout ∷
    -- frames 10 and 11: at 4 with CDP one, and 8; both are stored, which fills the burst
    ask space ∷ ask space ∷ arrives ∷
    -- a data buffer of nine bytes: 1
    other (asking (replicate 9 0) space) ∷
    arrives ∷
    -- the two ACKs: delivered
    confirmed ∷ confirmed ∷ []

unfoldable pub ten_late : List (Event read_ports)
ten_late =
    -- after the delivery a nexus loss at the sending port is 2, and no frame is there to arrive
    other (signals Signal.loss) ∷ arrives ∷
    -- the RESPONSE at the receiving port ends the command; then the nexus loss there is 2
    other (at_receiver (ReaderCall.bytes response)) ∷ other (at_receiver ReaderCall.loss) ∷ []

abbrev pub ten_events : List (Event read_ports)
ten_events = ten_transfer ++ ten_late

-- delivered with 11 frames, all ten bytes there; 5 faults, no more than the limit; 11 is at most 3 times 6
abbrev pub TenDelivered : Type 1
TenDelivered =
    Worked (burst 0 10 5) ten_start ten_events (Report.delivered 11) ten 5 11
    ((0, 0) ∷ (4, 0) ∷ (8, 0) ∷ (0, 1) ∷ (4, 0) ∷ (0, 1) ∷ (4, 0) ∷ (4, 1) ∷ (8, 0) ∷ (4, 1) ∷ (8, 0) ∷ [])

-- Six bytes, so two frames: at 0 and at 4. Window 2, retry limit 1.
unfoldable pub six_start : World read_ports
six_start = begin 6 2 1 (20 ∷ 21 ∷ 22 ∷ 23 ∷ 24 ∷ 25 ∷ []) (replicate 6 0xff)

unfoldable pub six_transfer : List (Event read_ports)
six_transfer =
    -- frames 1 and 2: at 0 and 4
    ask space ∷ ask space ∷
    -- fault 1: the frame at 0 is lost; the frame at 4 is discarded and its ACK comes
    frame_lost ∷ arrives ∷ confirmed ∷
    -- a timeout, not early: the one retry
    timeout ∷
    -- frame 3: at 0 with CDP one; it is stored
    ask space ∷ arrives ∷
    -- fault 2: its ACK is lost
    confirmation_lost ∷
    -- a timeout, not early: a retry beyond the limit
    timeout ∷ []

unfoldable pub six_late : List (Event read_ports)
six_late =
    -- after the end a frame asked for is 2, and so is an ACK
    ask space ∷ other (signals Signal.ack) ∷
    -- its report was given: the nexus loss at the receiving port is 31; then the RESPONSE there is 2
    other (at_receiver ReaderCall.loss) ∷ other (at_receiver (ReaderCall.bytes response)) ∷ []

abbrev pub six_events : List (Event read_ports)
six_events = six_transfer ++ six_late

-- the frame at 0 alone was stored
abbrev pub six_left : List ℕ
six_left = 20 ∷ 21 ∷ 22 ∷ 23 ∷ 0xff ∷ 0xff ∷ []

-- failed with 29 and 3 frames, four bytes there and the others as they were; 2 faults, more than the limit; 3 is at most 2 times 3
abbrev pub SixFailed : Type 1
SixFailed = Worked (burst 0 6 1) six_start six_events (Report.failed 29 3) six_left 2 3 ((0, 0) ∷ (4, 0) ∷ (0, 1) ∷ [])

-- what the receiving port answers to the first of its late calls, which ends it
pub record Late : Type 0 where
  -- the IU stands at 24 and has 24 bytes; a receiving port hands out no frame
  pub ends : (reader_call (ReaderCall.bytes response) (run ten_start ten_transfer).receiving ten).says ≡ Said.response 24 24 busy 0
  pub loses : (reader_call ReaderCall.loss (run six_start six_transfer).receiving six_left).says ≡ Said.failed 31 0
  pub ended_ten : (run ten_start ten_events).receiving.ended ≡ true
  pub ended_six : (run six_start six_events).receiving.ended ≡ true
