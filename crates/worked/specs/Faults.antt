-- Three short reads in which no fault may be counted that is none. Proved in proofs/Faults.antt.
use Rattle.std.specs.Prelude.{ℕ, List, [], ◌∷◌, replicate}
use Rattle.link.specs.Ports.{Signal}
use Rattle.link.specs.World.{World, Report, Event, ask, arrives, damaged, confirmed, confirmation_lost, timeout, cut, other, asking, signals, at_sender}
use Rattle.link.specs.Reading.{read_ports}
use Rattle.link.specs.Calls.{SenderCall}
use Rattle.worked.specs.Setting.{space, foreign, response}
use Rattle.worked.specs.Run.{Worked, burst}
use Rattle.worked.specs.Read.{begin}

-- Each time eight bytes, so two frames: at 0 and at 4. Window 2, retry limit 1.
abbrev pub eight : List ℕ
eight = 30 ∷ 31 ∷ 32 ∷ 33 ∷ 34 ∷ 35 ∷ 36 ∷ 37 ∷ []

unfoldable pub eight_start : World read_ports
eight_start = begin 8 2 1 eight (replicate 8 0xff)

-- A NAK is lost.
unfoldable pub nak_lost_events : List (Event read_ports)
nak_lost_events =
    -- frames 1 and 2: at 0 and 4
    ask space ∷ ask space ∷
    -- fault 1: the frame at 0 arrives damaged; its NAK is lost: the same frame, counted once
    damaged ∷ confirmation_lost ∷
    -- the frame at 4 is discarded and its ACK comes
    arrives ∷ confirmed ∷
    -- a timeout, not early, since a confirmation was lost: no fault; the one retry
    timeout ∷
    -- frames 3 and 4: at 0 with CDP one, and 4; both are stored
    ask space ∷ ask space ∷ arrives ∷ arrives ∷
    -- the two ACKs: delivered
    confirmed ∷ confirmed ∷ []

-- delivered with 4 frames; 1 fault, which is the limit; 4 is 2 times 2
abbrev pub NakLost : Type 1
NakLost = Worked (burst 0 8 1) eight_start nak_lost_events (Report.delivered 4) eight 1 4 ((0, 0) ∷ (4, 0) ∷ (0, 1) ∷ (4, 0) ∷ [])

-- Cuts and timeouts with nothing unanswered.
unfoldable pub at_rest_events : List (Event read_ports)
at_rest_events =
    -- a cut changes nothing, a timeout is 4: no fault
    cut ∷ timeout ∷
    -- frame 1: at 0; it is stored, and its ACK moves the balance point to 4
    ask space ∷ arrives ∷ confirmed ∷
    -- the same again: no fault, and no retry
    cut ∷ timeout ∷
    -- frame 2: at 4 with CDP zero; it is stored, and its ACK comes: delivered
    ask space ∷ arrives ∷ confirmed ∷ []

-- delivered with 2 frames; no fault; 2 is 2 times 1
abbrev pub AtRest : Type 1
AtRest = Worked (burst 0 8 1) eight_start at_rest_events (Report.delivered 2) eight 0 2 ((0, 0) ∷ (4, 0) ∷ [])

-- Calls after the delivery.
unfoldable pub ended_events : List (Event read_ports)
ended_events =
    -- frames 1 and 2: at 0 and 4; both are stored; the two ACKs: delivered
    ask space ∷ ask space ∷ arrives ∷ arrives ∷ confirmed ∷ confirmed ∷
    -- the port has ended: a nexus loss and a RESPONSE are 2
    other (signals Signal.loss) ∷ other (at_sender (SenderCall.bytes response)) ∷
    -- and so are each confirmation, DATA, and a frame asked for; with no data buffer that is 1
    other (signals Signal.ack) ∷ other (signals Signal.nak) ∷ other (signals Signal.timeout) ∷ other (signals Signal.cut) ∷
    other (at_sender (SenderCall.bytes foreign)) ∷ other (asking eight space) ∷ other (asking [] space) ∷
    -- a cut and a timeout of the link: no fault
    cut ∷ timeout ∷ []

-- delivered with 2 frames, as it was reported first; no fault
abbrev pub Ended : Type 1
Ended = Worked (burst 0 8 1) eight_start ended_events (Report.delivered 2) eight 0 2 ((0, 0) ∷ (4, 0) ∷ [])
