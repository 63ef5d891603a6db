-- Ladders worked out: the paper's own, a write with a damaged frame, a write with an ACK lost, a read with NAKs lost, and a read that fails. Proved in proofs/Ladders.antt, by computing each.
use Rattle.std.specs.Prelude.{ℕ, List, [], ◌∷◌, ◌≡◌, replicate}
use Rattle.status.specs.Result.{Result}
use Rattle.ladder_text.specs.Text.{bytes}
use Rattle.ladder_text.specs.Rows.{ladder_text}
use Rattle.ladder_text.specs.WorkedTexts.{example, example_rows, row}
use Rattle.ladder_text.specs.declared.types.Direction.TheVariants.{Read, Write}
use Rattle.ladder_text.specs.declared.types.Fate.TheVariants.{Ok, Noack, Bad, Nonak, Lost}
use Rattle.ladder_text.specs.declared.types.Receipt.TheVariants.{Stored, Discarded, Nothing}
use Rattle.ladder_text.specs.declared.types.Outcome.TheVariants.{Delivered, Failed}
use Rattle.ladder_text.specs.declared.types.Run.{Run}
use Rattle.ladder_text.specs.declared.types.Row.{Row}
use Rattle.ladder_text.specs.declared.types.Verdict.{Verdict}
use Rattle.ladder_run.specs.Setup.{set_up_of}
use Rattle.ladder_run.specs.Line.{verdict_of}
use Rattle.ladder_run.specs.Whole.{whole_of}
use Rattle.ladder_run.specs.declared.types.Ladder.{Ladder}

-- the ladder of line one r: fates, sent data and received data at first; its rows, its verdict and the received data at its end
pub record Runs (r : Run) (fs d b : List ℕ) (rows : List Row) (verdict : Verdict) (received : List ℕ) : Type 0 where
  pub start : Ladder
  pub ready : set_up_of r ≡ Result.value start
  pub shows : (whole_of fs d start b).rows ≡ rows
  pub ends : verdict_of fs (whole_of fs d start b).last ≡ verdict
  pub fills : (whole_of fs d start b).received ≡ received

-- "Byte i is the remainder of i by 256"
abbrev pub ten : List ℕ
ten = 0 ∷ 1 ∷ 2 ∷ 3 ∷ 4 ∷ 5 ∷ 6 ∷ 7 ∷ 8 ∷ 9 ∷ []

-- "Input `read 10 4 3 1`, then `lost`": fate number 4
abbrev pub example_verdict : Verdict
example_verdict = record { outcome = Delivered; number = 0; frames = 6; faults = 1; filled = 10 }

abbrev pub ExampleRuns : Type 0
ExampleRuns = Runs example (4 ∷ []) ten (replicate 10 0) example_rows example_verdict ten

-- what it prints
abbrev pub ExamplePrints : Type 0
ExamplePrints = (x : ExampleRuns) → let w = whole_of (4 ∷ []) ten x.start (replicate 10 0) in ladder_text w.rows (verdict_of (4 ∷ []) w.last) ≡ bytes "1\t0\t4\t0\tlost\tnone\n2\t4\t4\t0\tok\tdiscarded\n3\t8\t2\t0\tok\tdiscarded\n4\t0\t4\t1\tok\tstored\n5\t4\t4\t0\tok\tstored\n6\t8\t2\t0\tok\tstored\ndelivered\t0\t6\t1\t10\n"

-- `write 10 4 2 1`, then `ok`, `bad`: at the NAK the next offset returns to the base, and only the next frame has CDP one
abbrev pub write_run : Run
write_run = record { direction = Write; count = 10; size = 4; window = 2; limit = 1 }

abbrev pub write_rows : List Row
write_rows =
    row 1 0 4 0 Ok Stored ∷
    row 2 4 4 0 Bad Nothing ∷
    row 3 0 4 1 Ok Stored ∷
    row 4 4 4 0 Ok Stored ∷
    row 5 8 2 0 Ok Stored ∷ []

abbrev pub WriteRuns : Type 0
WriteRuns = Runs write_run (0 ∷ 2 ∷ []) ten (replicate 10 0) write_rows (record { outcome = Delivered; number = 0; frames = 5; faults = 1; filled = 10 }) ten

-- `write 10 4 3 1`, then `ok`, `ok`, `noack`: the last frame arrived, so all is filled, and what the timeout brings again is discarded
abbrev pub noack_run : Run
noack_run = record { direction = Write; count = 10; size = 4; window = 3; limit = 1 }

abbrev pub noack_rows : List Row
noack_rows =
    row 1 0 4 0 Ok Stored ∷
    row 2 4 4 0 Ok Stored ∷
    row 3 8 2 0 Noack Stored ∷
    row 4 0 4 1 Ok Discarded ∷
    row 5 4 4 0 Ok Discarded ∷
    row 6 8 2 0 Ok Discarded ∷ []

abbrev pub NoackRuns : Type 0
NoackRuns = Runs noack_run (0 ∷ 0 ∷ 1 ∷ []) ten (replicate 10 0) noack_rows (record { outcome = Delivered; number = 0; frames = 6; faults = 1; filled = 10 }) ten

-- `read 10 4 3 1`, then `nonak`, `ok`, `ok`, `nonak`: no damaged frame arrives, the others are discarded, and no NAK comes: 29 and not 28
abbrev pub nonak_run : Run
nonak_run = record { direction = Read; count = 10; size = 4; window = 3; limit = 1 }

abbrev pub nonak_rows : List Row
nonak_rows =
    row 1 0 4 0 Nonak Nothing ∷
    row 2 4 4 0 Ok Discarded ∷
    row 3 8 2 0 Ok Discarded ∷
    row 4 0 4 1 Nonak Nothing ∷
    row 5 4 4 0 Ok Discarded ∷
    row 6 8 2 0 Ok Discarded ∷ []

abbrev pub NonakRuns : Type 0
NonakRuns = Runs nonak_run (3 ∷ 0 ∷ 0 ∷ 3 ∷ []) ten (replicate 10 0) nonak_rows (record { outcome = Failed; number = 29; frames = 6; faults = 2; filled = 0 }) (replicate 10 0)

-- `read 10 4 1 0`, then `ok`, `lost`: with retries off the first timeout fails, 29
abbrev pub failing_run : Run
failing_run = record { direction = Read; count = 10; size = 4; window = 1; limit = 0 }

abbrev pub failing_rows : List Row
failing_rows =
    row 1 0 4 0 Ok Stored ∷
    row 2 4 4 0 Lost Nothing ∷ []

abbrev pub FailingRuns : Type 0
FailingRuns = Runs failing_run (0 ∷ 4 ∷ []) ten (replicate 10 0) failing_rows (record { outcome = Failed; number = 29; frames = 2; faults = 1; filled = 4 }) (0 ∷ 1 ∷ 2 ∷ 3 ∷ replicate 6 0)
