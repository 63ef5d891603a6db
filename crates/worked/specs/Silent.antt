-- Request K4 worked out: an initiator that goes silent, discarded frames that do not save the transfer, a stored repeat that does, and sums in
-- made-up records. Proved in proofs/Silent.antt.
use Rattle.std.specs.Prelude.{ℕ, List, [], ◌∷◌, Bool, true, false, ◌≡◌, replicate}
use Rattle.status.specs.Answer.{Word, Said, ◌saying◌}
use Rattle.status.specs.Result.{Result}
use Rattle.transfer.specs.declared.Transfer.{Transfer}
use Rattle.initiator.specs.WriteRecord as initiator
use Rattle.target.specs.Record as target
use Rattle.target.specs.declared.types.Target.{Target}
use Rattle.link.specs.Ports.{lending, Signal}
use Rattle.link.specs.World.{World, Report, Event, ask, arrives, frame_lost, confirmed, timeout, other, at_receiver}
use Rattle.link.specs.Writing.{write_ports}
use Rattle.link.specs.Calls.{TargetCall, target_call}
use Rattle.link.specs.ResponseTimeout.{after}
use Rattle.worked.specs.Setting.{between, space}
use Rattle.worked.specs.Write.{ready, data_frame, agreed}
use Rattle.worked.specs.Run.{Worked, burst}

-- a write of twelve bytes in one burst of three frames; window 3, retry limit 3; the target's Initiator Response Timeout is 100 milliseconds
abbrev pub host : Transfer
host = between 0x123456 0xabcdef true 12 3 3 12

abbrev pub device : Transfer
device =
    record { write = true; count = 12; size = 4; window = 3; limit = 3; burst = 12; local = 0xabcdef; remote = 0x123456; tag = 0x0012; sas2 = false; value = 0; irt = 100; start = 0 }

abbrev pub twelve : List ℕ
twelve = 10 ∷ 11 ∷ 12 ∷ 13 ∷ 14 ∷ 15 ∷ 16 ∷ 17 ∷ 18 ∷ 19 ∷ 20 ∷ 21 ∷ []

-- a data buffer of twelve bytes, which a call on the target is lent
abbrev pub empty : List ℕ
empty = replicate 12 0xff

abbrev pub Calls : Type 0
Calls = List (TargetCall × List ℕ)

-- so many milliseconds are reported; the DATA frame at an offset arrives, CDP zero
abbrev pub time : ℕ → TargetCall × List ℕ
time ms = (TargetCall.time ms, [])

abbrev pub frame_at : ℕ → TargetCall × List ℕ
frame_at offset = (TargetCall.bytes (data_frame 0 offset 0 (0x20 ∷ 0x21 ∷ 0x22 ∷ 0x23 ∷ [])), empty)

-- the target's answer to each call
abbrev pub answers_of : Target → Calls → List Said
answers_of y [] = []
answers_of y (c ∷ cs) = let x = target_call c.0 y c.1 in x.says ∷ answers_of x.left cs

-- ── silent after the second frame ──
abbrev pub silent_calls : Calls
silent_calls =
    -- before the XFER_RDY, and until its ACK, time does not count
    time 65535 ∷ (TargetCall.asking, ready) ∷ time 65535 ∷ (TargetCall.signals Signal.ack, []) ∷
    -- 60; the frame at 0 is stored: 0; 60; the frame at 4 is stored: 0
    time 60 ∷ frame_at 0 ∷ time 60 ∷ frame_at 4 ∷
    -- 60, 99, still 99; with one millisecond more the sum reaches 100
    time 60 ∷ time 39 ∷ time 0 ∷ time 1 ∷
    -- the record has ended: the third frame comes too late
    frame_at 8 ∷ time 1 ∷ []

abbrev pub silent_answers : List Said
silent_answers =
    Said.word Word.unchanged ∷ Said.frame 36 ∷ Said.word Word.unchanged ∷ Said.word Word.acknowledged ∷
    Said.word Word.taken ∷ Said.stored ∷ Said.word Word.taken ∷ Said.stored ∷
    Said.word Word.taken ∷ Said.word Word.taken ∷ Said.word Word.taken ∷ Said.failed 33 0 ∷
    Said.refused 2 ∷ Said.refused 2 ∷ []

pub record Silent : Type 0 where
  pub sets_up : target.set_up_write_of device ≡ Result.value (target.start_of device)
  pub answers : answers_of (target.start_of device) silent_calls ≡ silent_answers
  -- two frames are stored; the failing report leaves the sum
  pub filled : (after (target.start_of device) silent_calls).receiver.filled ≡ 8
  pub ended : (after (target.start_of device) silent_calls).receiver.ended ≡ true
  pub elapsed : (after (target.start_of device) silent_calls).elapsed ≡ 99

-- ── discarded frames keep arriving ──
-- the frame at 4 is lost: the one at 8 is discarded, twice, and so is the one at 4 without CDP; the sum goes on to 100
abbrev pub discarded_calls : Calls
discarded_calls =
    (TargetCall.asking, ready) ∷ (TargetCall.signals Signal.ack, []) ∷
    frame_at 0 ∷ time 40 ∷ frame_at 8 ∷ time 40 ∷ frame_at 8 ∷ frame_at 4 ∷ time 20 ∷ []

abbrev pub discarded_answers : List Said
discarded_answers =
    Said.frame 36 ∷ Said.word Word.acknowledged ∷
    Said.stored ∷ Said.word Word.taken ∷ Said.word Word.discarded ∷ Said.word Word.taken ∷ Said.word Word.discarded ∷ Said.word Word.discarded ∷ Said.failed 33 0 ∷ []

abbrev pub Discarded : Type 0
Discarded = answers_of (target.start_of device) discarded_calls ≡ discarded_answers

-- ── a stored repeat ──
-- the same fault over the link, with a retry
unfoldable pub repeat_start : World write_ports
repeat_start = agreed (initiator.start_of host) (target.start_of device) twelve empty

unfoldable pub repeat_events : List (Event write_ports)
repeat_events =
    -- frames 1 to 3: at 0, 4 and 8; the first is stored
    ask space ∷ ask space ∷ ask space ∷ arrives ∷ other (at_receiver (TargetCall.time 60)) ∷
    -- fault 1: the frame at 4 is lost; the one at 8 is discarded; the sum is 99
    frame_lost ∷ arrives ∷ other (at_receiver (TargetCall.time 39)) ∷
    -- a timeout, not early: the retry, from 0; frames 4 to 6
    timeout ∷ ask space ∷ ask space ∷ ask space ∷
    -- the frame at 0, with CDP one, is stored again: the sum starts from zero
    arrives ∷ other (at_receiver (TargetCall.time 99)) ∷
    -- the frame at 4 is stored, then the one at 8, which fills the burst: time counts no more
    arrives ∷ other (at_receiver (TargetCall.time 99)) ∷ arrives ∷ other (at_receiver (TargetCall.time 65535)) ∷
    confirmed ∷ confirmed ∷ confirmed ∷ []

-- delivered with 6 frames, all bytes there; 1 fault
abbrev pub StoredRepeat : Type 1
StoredRepeat =
    Worked (burst 0 12 3) repeat_start repeat_events (Report.delivered 6) twelve 1 6 ((0, 0) ∷ (4, 0) ∷ (8, 0) ∷ (0, 1) ∷ (4, 0) ∷ (8, 0) ∷ [])

-- ── the sum in a record that a caller made ──
-- of the one burst: the XFER_RDY's state (1 unanswered, 3 had its ACK), the filled mark, the sum, ended
abbrev pub summed : ℕ → ℕ → ℕ → Bool → Target
summed state filled elapsed ended =
    record {
      receiver = record { transfer = device; base = 0; end = 12; expected = filled; filled = filled; waiting = false; ended = ended };
      state = state;
      tptt = 0;
      retries = 0;
      stored = false;
      under = 0;
      since = 1;
      elapsed = elapsed;
    }

-- every call: a report of time, a frame, an XFER_RDY asked for, each confirmation, a nexus loss
abbrev pub every : Calls
every =
    time 0 ∷ frame_at 0 ∷ (TargetCall.asking, ready) ∷
    (TargetCall.signals Signal.ack, []) ∷ (TargetCall.signals Signal.nak, []) ∷ (TargetCall.signals Signal.timeout, []) ∷ (TargetCall.signals Signal.cut, []) ∷ (TargetCall.signals Signal.loss, []) ∷ []

pub record Summed : Type 0 where
  -- 1 "another count past its limit": a sum of 101; in and outside the span, and before 2 where the record has ended
  pub past : answers_of (summed 3 0 101 false) every ≡ replicate 8 (Said.refused 1)
  pub past_unanswered : answers_of (summed 1 0 101 false) every ≡ replicate 8 (Said.refused 1)
  pub past_ended : answers_of (summed 3 0 101 true) every ≡ replicate 8 (Said.refused 1)
  -- a sum of 100 is not past it: 2 in an ended record
  pub ended : answers_of (summed 3 0 100 true) every ≡ replicate 8 (Said.refused 2)
  -- "If it reaches the value": at 100 a report of 0 milliseconds fails; at 99 it does not
  pub reached : answers_of (summed 3 0 100 false) (time 0 ∷ []) ≡ Said.failed 33 0 ∷ []
  pub not_reached : answers_of (summed 3 0 99 false) (time 0 ∷ time 0 ∷ time 1 ∷ []) ≡ Said.word Word.taken ∷ Said.word Word.taken ∷ Said.failed 33 0 ∷ []
  -- "on a report of time only": a frame is stored, and the sum starts from zero
  pub stored : answers_of (summed 3 0 100 false) (frame_at 0 ∷ time 99 ∷ []) ≡ Said.stored ∷ Said.word Word.taken ∷ []
  -- "Time reported outside that span changes nothing": until the ACK, and once filled
  pub unanswered : target_call (TargetCall.time 0) (summed 1 0 100 false) [] ≡ lending (summed 1 0 100 false saying Said.word Word.unchanged) []
  pub filled : target_call (TargetCall.time 0) (summed 3 12 100 false) [] ≡ lending (summed 3 12 100 false saying Said.word Word.unchanged) []
  -- "The sum starts from zero at the ACK of an XFER_RDY": from 60
  pub acknowledged : target_call (TargetCall.signals Signal.ack) (summed 1 0 60 false) [] ≡ lending (summed 3 0 0 false saying Said.word Word.acknowledged) []
  pub counts_anew :
      answers_of (summed 1 0 60 false) ((TargetCall.signals Signal.ack, []) ∷ time 99 ∷ time 1 ∷ []) ≡
      Said.word Word.acknowledged ∷ Said.word Word.taken ∷ Said.failed 33 0 ∷ []
