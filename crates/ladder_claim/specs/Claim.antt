-- What holds of every ladder of a run file: it ends with a report after so many rows; with retries on it is one of the delivery claim's lists, and what the claim says of
-- every list is said of it.
use Rattle.std.specs.Prelude.{ℕ, ◌+◌, ◌-◌, ◌*◌, ◌≤◌, List, map, false, true, ◌≡◌, length, Option, Some, None}
use Rattle.status.specs.Result.{Result}
use Rattle.frame.specs.Read.{decode}
use Rattle.link.specs.Ports.{Ports}
use Rattle.link.specs.World.{World, Event, run, Allowed}
use Rattle.link.specs.World as link
use Rattle.link.specs.Delivers.{BurstParameters, faultless}
use Rattle.link.specs.Claim.{Editions, Starts}
use Rattle.ladder_text.specs.Rows.{within_limits}
use Rattle.ladder_text.specs.declared.types.Fate.{Fate}
use Rattle.ladder_text.specs.declared.types.Run.{Run}
use Rattle.ladder_text.specs.declared.types.Row.{Row}
use Rattle.ladder_run.specs.Ends.{filled_of}
use Rattle.ladder_run.specs.Fates.{faults_of}
use Rattle.ladder_run.specs.Row.{FATES-MOST, shown_of, silent}
use Rattle.ladder_run.specs.Setup.{set_up_of}
use Rattle.ladder_run.specs.Whole.{Whole, whole_of}
use Rattle.ladder_run.specs.declared.types.Report.{Report}
use Rattle.ladder_run.specs.declared.types.Report.TheVariants.{Delivered, Failed}
use Rattle.ladder_run.specs.declared.types.Shown.{Shown}
use Rattle.ladder_run.specs.declared.types.Ladder.{Ladder}
use Rattle.ladder_claim.specs.Rows.{RowsFrom}
use Rattle.ladder_claim.specs.Rounds.{each, round_of, Waits}

-- line one as the burst that is delivered
abbrev pub burst_of : Run → BurstParameters
burst_of r = record { start = 0; base = 0; end = r.count; size = r.size; limit = r.limit }

-- the ladder of line one r, at its start; fates, sent data, received data
pub record Started (r : Run) (l : Ladder) (fs d b : List ℕ) : Type 0 where
  pub within : within_limits r ≡ true
  pub ready : set_up_of r ≡ Result.value l
  pub few : length fs ≤ FATES-MOST
  pub sent : length d ≡ r.count
  pub room : length b ≡ r.count

-- a run within the limits is set up
abbrev pub SetsUp : Type 0
SetsUp = (r : Run) → within_limits r ≡ true → (l : Ladder) × (set_up_of r ≡ Result.value l)

-- the frames that a report counts
abbrev pub frames_in : Option Report → ℕ
frames_in None = 0
frames_in (Some (Delivered n)) = n
frames_in (Some (Failed f n)) = n

-- a ladder that failed did so with 28 or 29: it has no cut
abbrev pub Numbered : Option Report → Type 0
Numbered None = ⊥
Numbered (Some (Delivered n)) = Unit {0}
Numbered (Some (Failed f n)) = (28 ≤ f) × (f ≤ 29)

-- the sending port has reported, and its count is that of the rows
pub record Ended (r : Run) (fs : List ℕ) (x : Whole) : Type 0 where
  pub reported : silent x.last.report ≡ false
  pub number : Numbered x.last.report
  pub frames : x.last.frames ≡ length x.rows
  pub counted : frames_in x.last.report ≡ length x.rows
  -- row by row: frame, fate, and whether the frame arrived
  pub rows : RowsFrom fs 0 x.rows
  -- fates listed, the rest of one window, a faultless transfer
  pub most : length x.rows ≤ length fs + (r.window - 1) + faultless (burst_of r)

abbrev pub Ends : Type 0
Ends = (r : Run) (l : Ladder) (fs d b : List ℕ) → Started r l fs d b → Ended r fs (whole_of fs d l b)

-- the report, as the link has it
abbrev pub on_link : Option Report → link.Report
on_link None = link.Report.none
on_link (Some (Delivered n)) = link.Report.delivered n
on_link (Some (Failed f n)) = link.Report.failed f n

-- what a row shows of its frame
abbrev pub shown_in : Row → Shown
shown_in r = record { offset = r.offset; bytes = r.bytes; cdp = r.cdp }

-- the ladder x is what the link's events led to: its rows are the frames handed out, in order
pub record Matches {P : Ports} (fs : List ℕ) (w : World P) (x : Whole) : Type 0 where
  pub report : w.report ≡ on_link x.last.report
  pub received : w.received ≡ x.received
  pub rows : map (λ f. shown_of (decode f)) w.handed ≡ map shown_in x.rows
  -- a timeout after a loss is not early, so it adds none
  pub faults : w.tally.faults ≡ faults_of fs x.last.frames

-- "a ladder is one of its lists": from a start of the claim, with the ladder's sent and received data
pub record Listed (r : Run) (fs d b : List ℕ) (x : Whole) : Type 1 where
  pub P : Ports
  pub editions : Editions
  pub start : World P
  pub starts : Starts P editions (burst_of r) start
  pub sent : start.sent ≡ d
  pub room : start.received ≡ b
  -- the rows' fates, round by round, and the events of the rounds
  pub rounds : List (List Fate)
  pub fates : each (λ xs. xs) rounds ≡ map (λ row. row.fate) x.rows
  pub events : List (Event P)
  pub in_order : events ≡ each round_of rounds
  pub waits : Waits start rounds
  pub allowed : Allowed start events
  pub matches : Matches fs (run start events) x

abbrev pub Lists : Type 1
Lists = (r : Run) (l : Ladder) (fs d b : List ℕ) → Started r l fs d b → 1 ≤ r.limit → Listed r fs d b (whole_of fs d l b)

abbrev pub IsDelivered : Whole → Type 0
IsDelivered x = (n : ℕ) × (x.last.report ≡ Some (Delivered n))

-- what the delivery claim says of a ladder
pub record Claimed (r : Run) (fs d : List ℕ) (x : Whole) : Type 0 where
  -- delivered, then the filled mark is the count and the received data are those sent
  pub filled : IsDelivered x → filled_of x.last.receiving ≡ r.count
  pub stored : IsDelivered x → x.received ≡ d
  -- frames at most those of a faultless transfer times one more than the faults
  pub bounded : length x.rows ≤ faultless (burst_of r) * (1 + faults_of fs x.last.frames)
  -- no more faults than the limit, then delivered
  pub succeeds : faults_of fs x.last.frames ≤ r.limit → IsDelivered x

abbrev pub LadderClaim : Type 0
LadderClaim = (r : Run) (l : Ladder) (fs d b : List ℕ) → Started r l fs d b → 1 ≤ r.limit → Claimed r fs d (whole_of fs d l b)
