-- The next line of a ladder: the row of a frame, of this round or of the next one, or the verdict.
use Rattle.std.specs.Prelude.{ℕ, List, Option, Some, None}
use Rattle.ladder_text.specs.declared.types.Outcome.{Outcome}
use Rattle.ladder_text.specs.declared.types.Outcome.TheVariants as outcome
use Rattle.ladder_text.specs.declared.types.Row.{Row}
use Rattle.ladder_text.specs.declared.types.Verdict.{Verdict}
use Rattle.ladder_run.specs.Ends.{filled_of}
use Rattle.ladder_run.specs.Fates.{faults_of}
use Rattle.ladder_run.specs.Row.{NextLine, next_line_by, Sent, out_of}
use Rattle.ladder_run.specs.Round.{closed_of}
use Rattle.ladder_run.specs.declared.types.Report.{Report}
use Rattle.ladder_run.specs.declared.types.Report.TheVariants.{Delivered, Failed}
use Rattle.ladder_run.specs.declared.types.Ladder.{Ladder}
use Rattle.ladder_run.specs.declared.types.Line.{Line}
use Rattle.ladder_run.specs.declared.types.Line.TheVariants as line
use Rattle.ladder_run.specs.declared.types.Next.{Next}

-- "the sender's verdict, `delivered` or `failed`"; a ladder of a run file ends with a report (crate ladder_claim, `Ends`)
abbrev pub outcome_of : Option Report → Outcome
outcome_of (Some (Delivered n)) = outcome.Delivered
outcome_of (Some (Failed f n)) = outcome.Failed
outcome_of None = outcome.Failed

-- "number (0 when delivered)"; 28 or 29 of a run file that fails
abbrev pub number_of : Option Report → ℕ
number_of (Some (Delivered n)) = 0
number_of (Some (Failed f n)) = f
number_of None = 0

-- "frames, faults (sent frames whose fate is not `ok`), the receiver's filled mark"
abbrev pub verdict_of : List ℕ → Ladder → Verdict
verdict_of fs l =
    record { outcome = outcome_of l.report; number = number_of l.report; frames = l.frames; faults = faults_of fs l.frames; filled = filled_of l.receiving }

-- a new round has begun: its first frame, or none is due and the ladder is over
abbrev pub lastly : List ℕ → Ladder → Option Row → Next Line
lastly fs l (Some r) = record { ladder = l; line = line.Row r }
lastly fs l None = record { ladder = l; line = line.Verdict (verdict_of fs l) }

abbrev pub begins : List ℕ → Sent → NextLine Line
begins fs x = next_line_by (lastly fs x.ladder x.line) x.received

-- "Frames go out until wait, then answers come in order, then a timeout if any is missing"
abbrev pub firstly : List ℕ → List ℕ → Ladder → Option Row → List ℕ → NextLine Line
firstly fs d l (Some r) b = record { ladder = l; line = line.Row r; received = b }
firstly fs d l None b = begins fs (out_of (closed_of fs l) fs d b)

-- fates, sent data, received data
unfoldable pub line_of : Ladder → List ℕ → List ℕ → List ℕ → NextLine Line
line_of l fs d b = let x = out_of l fs d b in firstly fs d x.ladder x.line x.received
