-- The receiving port frame by frame: "an expected offset, a filled mark .. and may be waiting for CDP". A line has the marks, one frame, then marks and answer. The law
-- over all records is receiver specs/Marks `Marks`. Proved in proofs/Waiting.antt.
use Rattle.std.specs.Prelude.{ℕ, ◌++◌, Bool, true, false, ◌≡◌, replicate}
use Rattle.status.specs.Pick.{◌with◌}
use Rattle.status.specs.Answer.{Word, Said, Left, ◌saying◌}
use Rattle.receiver_steps.specs.DataFrame.{storing}
use Rattle.receiver_steps.specs.Fields.{ended≔}
use Rattle.receiver_steps.specs.declared.types.Receiver.{Receiver}
use Rattle.receiver.specs.DataFrame.{arrival_of}
use Rattle.initiator.specs.Read.{read_arrival_of}
use Rattle.worked.specs.Setting.{host, foreign}
use Rattle.worked.specs.Write.{filled}

-- a read of twelve bytes with a retry limit: expected offset, filled mark, waiting for CDP
abbrev pub marks : ℕ → ℕ → ℕ → Bool → Receiver
marks limit expected mark waiting = record { transfer = host 12 3 limit; base = 0; end = 12; expected = expected; filled = mark; waiting = waiting; ended = false }

-- retries on, not waiting and waiting; retries off
abbrev pub at : ℕ → ℕ → Receiver
at expected mark = marks 1 expected mark false

abbrev pub waiting : ℕ → ℕ → Receiver
waiting expected mark = marks 1 expected mark true

abbrev pub off : ℕ → Receiver
off mark = marks 0 mark mark false

-- a frame with CDP zero, and one with CDP one: its offset and its data bytes
abbrev pub zero : Receiver → ℕ → ℕ → Left Receiver
zero r offset n = arrival_of r offset false n 12

abbrev pub one : Receiver → ℕ → ℕ → Left Receiver
one r offset n = arrival_of r offset true n 12

abbrev pub discards : Receiver → Left Receiver
discards r = r saying Said.word Word.discarded

abbrev pub fails : Receiver → ℕ → Left Receiver
fails r number = (r with ended≔ true) saying Said.failed number 0

-- retries on
pub record Waiting : Type 0 where
  -- "Expected becomes its end, filled the greater of the two": the first frame, the second, one of three bytes, the last byte: `received` there and only there
  pub first : zero (at 0 0) 0 4 ≡ (at 4 4 saying Said.stored)
  pub second : zero (at 4 4) 4 4 ≡ (at 8 8 saying Said.stored)
  pub short : zero (at 8 8) 8 3 ≡ (at 11 11 saying Said.stored)
  pub last : zero (at 11 11) 11 1 ≡ (at 12 12 saying Said.received)
  pub all_at_once : zero (at 0 0) 0 12 ≡ (at 12 12 saying Said.received)
  -- "CDP zero: a frame at another than the expected offset is discarded and waiting starts": above it, below it, and at the filled mark where that is another
  pub above : zero (at 4 4) 8 4 ≡ discards (waiting 4 4)
  pub below : zero (at 4 4) 0 4 ≡ discards (waiting 4 4)
  pub not_expected_at_filled : zero (at 4 8) 8 4 ≡ discards (waiting 4 8)
  -- "While waiting, DATA with CDP zero is discarded", even at the expected offset
  pub still_waits : zero (waiting 4 4) 8 4 ≡ discards (waiting 4 4)
  pub waits_at_expected : zero (waiting 4 4) 4 4 ≡ discards (waiting 4 4)
  pub waits_for_the_last : zero (waiting 8 8) 8 4 ≡ discards (waiting 8 8)
  -- CDP one at the filled mark: "waiting stops"
  pub at_filled : one (waiting 4 4) 4 4 ≡ (at 8 8 saying Said.stored)
  pub at_filled_last : one (waiting 8 8) 8 4 ≡ (at 12 12 saying Said.received)
  -- below it: expected goes back, filled stays; waiting or not
  pub goes_back : one (waiting 8 8) 0 4 ≡ (at 4 8 saying Said.stored)
  pub goes_back_at_once : one (at 8 8) 0 4 ≡ (at 4 8 saying Said.stored)
  -- then CDP zero at the expected offset, below and up to the filled mark; CDP one at the filled mark, from the middle of a frame, and over the filled mark to the end
  pub follows : zero (at 4 8) 4 4 ≡ (at 8 8 saying Said.stored)
  pub jumps : one (at 4 8) 8 4 ≡ (at 12 12 saying Said.received)
  pub from_the_middle : one (at 4 8) 2 4 ≡ (at 6 8 saying Said.stored)
  pub up_to_the_end : one (at 4 8) 4 8 ≡ (at 12 12 saying Said.received)
  -- 20 "CDP one, above the filled mark", by one byte, waiting or not; between the marks it is stored
  pub above_filled : one (at 4 4) 5 4 ≡ fails (at 4 4) 20
  pub above_filled_waiting : one (waiting 4 4) 8 4 ≡ fails (waiting 4 4) 20
  pub above_filled_back : one (at 4 8) 9 1 ≡ fails (at 4 8) 20
  pub above_expected : one (at 4 8) 5 1 ≡ (at 6 8 saying Said.stored)
  -- the data "goes to its place in the lent buffer"; of a discarded frame nothing does
  pub places : storing (one (waiting 8 8) 4 4).says 4 (replicate 4 0x5a) (replicate 12 0xff) ≡ replicate 4 0xff ++ replicate 4 0x5a ++ replicate 4 0xff
  pub leaves : storing (zero (waiting 8 8) 8 4).says 8 (replicate 4 0x5a) (replicate 12 0xff) ≡ replicate 12 0xff

-- "20, 21 and 22 are tested before the discards below"
pub record Failing : Type 0 where
  -- 20 "not below end", whatever CDP, waiting or not, with so many bytes or none: before 21 and 22
  pub at_end : zero (at 4 4) 12 4 ≡ fails (at 4 4) 20
  pub at_end_one : one (at 4 4) 12 4 ≡ fails (at 4 4) 20
  pub at_end_waiting : zero (waiting 4 4) 12 4 ≡ fails (waiting 4 4) 20
  pub at_end_no_data : zero (at 4 4) 12 0 ≡ fails (at 4 4) 20
  -- 20 "below base": the write burst from 5 to 10 of specs/Write, filled to 9
  pub below_base : arrival_of (filled 5 10 9) 4 false 4 10 ≡ fails (filled 5 10 9) 20
  pub below_base_one : arrival_of (filled 5 10 9) 4 true 4 10 ≡ fails (filled 5 10 9) 20
  pub at_base : (arrival_of (filled 5 10 9) 5 true 4 10).says ≡ Said.stored
  pub behind : arrival_of (filled 5 10 9) 10 false 4 10 ≡ fails (filled 5 10 9) 20
  -- 21 "offset plus data passes the burst's end", by one byte: at the expected offset, at one that is discarded otherwise, while waiting, with CDP one
  pub long : zero (at 4 4) 4 9 ≡ fails (at 4 4) 21
  pub long_above : zero (at 4 4) 8 5 ≡ fails (at 4 4) 21
  pub long_waiting : zero (waiting 4 4) 4 9 ≡ fails (waiting 4 4) 21
  pub long_one : one (at 4 4) 0 13 ≡ fails (at 4 4) 21
  -- 20 before 21: CDP one above the filled mark
  pub long_above_filled : one (at 4 4) 8 5 ≡ fails (at 4 4) 20
  -- 22 "no data bytes", likewise; 20 before 22
  pub none : zero (at 4 4) 4 0 ≡ fails (at 4 4) 22
  pub none_above : zero (at 4 4) 8 0 ≡ fails (at 4 4) 22
  pub none_waiting : zero (waiting 4 4) 4 0 ≡ fails (waiting 4 4) 22
  pub none_one : one (at 4 4) 4 0 ≡ fails (at 4 4) 22
  pub none_above_filled : one (at 4 4) 8 0 ≡ fails (at 4 4) 20

-- "retries off, not the expected one": 20 for each other offset, and nothing is discarded before the burst is filled
pub record Off : Type 0 where
  pub expected : zero (off 4) 4 4 ≡ (off 8 saying Said.stored)
  pub last : zero (off 8) 8 4 ≡ (off 12 saying Said.received)
  pub expected_one : one (off 4) 4 4 ≡ (off 8 saying Said.stored)
  pub below : zero (off 4) 0 4 ≡ fails (off 4) 20
  pub above : zero (off 4) 8 4 ≡ fails (off 4) 20
  pub below_one : one (off 4) 0 4 ≡ fails (off 4) 20
  pub above_one : one (off 4) 8 4 ≡ fails (off 4) 20
  -- 20 before 21 and 22
  pub above_long : zero (off 4) 8 5 ≡ fails (off 4) 20
  pub above_none : zero (off 4) 8 0 ≡ fails (off 4) 20
  pub long : zero (off 4) 4 9 ≡ fails (off 4) 21
  pub none : zero (off 4) 4 0 ≡ fails (off 4) 22

-- "Once filled, it has reported received and discards DATA that passes 5 to 8"
pub record Filled : Type 0 where
  -- at each offset and length, whatever CDP, retries on or off
  pub again : zero (at 12 12) 0 4 ≡ discards (at 12 12)
  pub again_one : one (at 12 12) 0 4 ≡ discards (at 12 12)
  pub behind : zero (at 12 12) 12 4 ≡ discards (at 12 12)
  pub long : one (at 12 12) 8 5 ≡ discards (at 12 12)
  pub none : zero (at 12 12) 8 0 ≡ discards (at 12 12)
  pub again_off : zero (off 12) 0 4 ≡ discards (off 12)
  -- the filled mark decides, not the expected offset, in a record that only a caller can make
  pub back : zero (at 4 12) 4 4 ≡ discards (at 4 12)
  -- another tag stays 8
  pub other_tag : read_arrival_of (at 12 12) foreign 12 ≡ (at 12 12 saying Said.refused 8)
