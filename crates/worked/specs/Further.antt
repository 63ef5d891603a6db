-- Request K5, a read that starts further in: a worked run of the delivery claim, and the numbers 1, 20 and 21 at the edges of its start. Proved in proofs/Further.antt.
use Rattle.std.specs.Prelude.{ℕ, List, [], ◌∷◌, ◌++◌, Bool, true, false, ◌≡◌, replicate}
use Rattle.status.specs.Answer.{Said}
use Rattle.transfer.specs.Limits.{past, limits_hold}
use Rattle.transfer.specs.declared.Transfer.{Transfer}
use Rattle.sender_steps.specs.Record.{beginning}
use Rattle.sender_steps.specs.Transmit.{part_of}
use Rattle.sender.specs.Record.{whole}
use Rattle.receiver_steps.specs.Record as receiver
use Rattle.receiver_steps.specs.declared.types.Receiver.{Receiver}
use Rattle.receiver.specs.DataFrame.{arrival_of}
use Rattle.link.specs.World.{World, Report, Event, ask, arrives, frame_lost, confirmed, timeout, other, asking, at_receiver_in}
use Rattle.link.specs.Delivers.{fresh}
use Rattle.link.specs.Reading.{read_ports}
use Rattle.link.specs.Calls.{ReaderCall}
use Rattle.worked.specs.Setting.{between, target, host, ten, space}
use Rattle.worked.specs.Run.{Worked}

-- the transfer t with another start
abbrev pub starting : ℕ → Transfer → Transfer
starting start t =
    record { write = t.write; count = t.count; size = t.size; window = t.window; limit = t.limit; burst = t.burst; local = t.local; remote = t.remote; tag = t.tag; sas2 = t.sas2; value = t.value; irt = t.irt; start = start }

-- Ten bytes from place 6 on: three frames, at 6, 10 and 14. Window 3, retry limit 1. The host's buffer has 20 bytes, with other bytes before and behind the read.
abbrev pub there : Transfer
there = starting 6 (target 10 3 1)

abbrev pub here : Transfer
here = starting 6 (host 10 3 1)

abbrev pub reading : Receiver
reading = receiver.beginning here 6 (past here)

abbrev pub around : List ℕ → List ℕ
around d = replicate 6 0xee ++ d ++ replicate 4 0xdd

unfoldable pub further_start : World read_ports
further_start = fresh read_ports (beginning there (whole there)) reading ten (around (replicate 10 0xff))

unfoldable pub further_events : List (Event read_ports)
further_events =
    -- the sending port is lent start plus count: 1, since its buffer holds the count alone
    other (asking (replicate 16 0) space) ∷
    -- frame 1: at 6; it is stored, and its ACK moves the balance point to 10
    ask space ∷ arrives ∷ confirmed ∷
    -- frames 2 and 3: at 10 and 14; fault 1: the frame at 10 is lost, the one at 14 is discarded and its ACK comes
    ask space ∷ ask space ∷ frame_lost ∷ arrives ∷ confirmed ∷
    -- a timeout, not early: the one retry, from the balance point
    timeout ∷
    -- the receiving port is lent one byte less than start plus count: 1
    other (at_receiver_in (ReaderCall.core_data 10 true (0x77 ∷ [])) (replicate 15 0xff)) ∷
    -- frames 4 and 5: at 10 with CDP one, and 14; both are stored; the two ACKs: delivered
    ask space ∷ ask space ∷ arrives ∷ arrives ∷ confirmed ∷ confirmed ∷ []

-- delivered with 5 frames; byte i of the sender is at 6 plus i, and the bytes before and behind are as they were; 1 fault; 5 is at most 3 times 2
abbrev pub FurtherDelivered : Type 1
FurtherDelivered =
    Worked (record { start = 6; base = 6; end = 16; size = 4; limit = 1 }) further_start further_events (Report.delivered 5) (around ten) 1 5
    ((6, 0) ∷ (10, 0) ∷ (14, 0) ∷ (10, 1) ∷ (14, 0) ∷ [])

pub record Edges : Type 0 where
  -- 1: start plus count at 16,777,216, from an odd start, and above it by one; a sum that 32 bits would take for 4; a write that starts at 1
  pub most : limits_hold (starting 16_777_209 (host 7 2 1)) ≡ true
  pub beyond : limits_hold (starting 16_777_209 (host 8 2 1)) ≡ false
  pub wraps : limits_hold (starting 4_294_967_292 (host 8 2 1)) ≡ false
  pub written : limits_hold (starting 1 (between 0x123456 0xabcdef true 8 2 1 8)) ≡ false
  -- 20: DATA below the start, or from start plus count on, whatever CDP; 21: past it; at the start it is stored. The frames have 1, 1, 11 and 4 data bytes, the buffer 20
  pub below : (cdp : Bool) → (arrival_of reading 5 cdp 1 20).says ≡ Said.failed 20 0
  pub behind : (cdp : Bool) → (arrival_of reading 16 cdp 1 20).says ≡ Said.failed 20 0
  pub long : (arrival_of reading 6 false 11 20).says ≡ Said.failed 21 0
  pub first : (arrival_of reading 6 false 4 20).says ≡ Said.stored
  -- 1: a buffer one byte short of start plus count; one of just that length is taken; both at a record that only a caller can make, whose burst is a part of the read
  pub short : (arrival_of (receiver.beginning here 7 11) 7 false 4 15).says ≡ Said.refused 1
  pub exact : (arrival_of (receiver.beginning here 7 11) 7 false 4 16).says ≡ Said.received
  -- the data of such a record's first frame, from 8 on: they begin at the next offset minus the start, not minus the base
  pub inner : part_of (beginning there (record { base = 8; end = 16; tptt = 0; limit = 1 })) ten ≡ 12 ∷ 13 ∷ 14 ∷ 15 ∷ []
