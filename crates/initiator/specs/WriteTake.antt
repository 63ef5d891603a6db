-- Arrivals of any bytes at the initiator of a write command: XFER_RDY and RESPONSE.
use Rattle.std.specs.Prelude.{ℕ, ◌+◌, List, Bool, true, ◌&&◌, ◌||◌, take, drop, eqb, ltb}
use Rattle.status.specs.Pick.{pick, ◌with◌}
use Rattle.status.specs.Entry.{entry_of}
use Rattle.status.specs.Number.{failure_number}
use Rattle.status.specs.Answer.{Taking, Said, Left, ◌saying◌, unless}
use Rattle.status.specs.Result.{Result}
use Rattle.status.specs.Stepped.{stepped}
use Rattle.status.specs.declared.stepped.Stepped.{Stepped}
use Rattle.status.specs.declared.words.Failure.TheVariants.{XferRdyIncorrectWriteDataLength, XferRdyRequestedOffsetError, XferRdyNotExpected}
use Rattle.status.specs.declared.answer.Opened.{Opened}
use Rattle.frame.specs.XferRdy.{xfer_rdy_of}
use Rattle.frame.specs.Response.{response_iu_of}
use Rattle.frame.specs.declared.types.Header.{Header}
use Rattle.frame.specs.declared.types.XferRdy.{XferRdy}
use Rattle.arrival.specs.Accept.{let_in, accept_of}
use Rattle.arrival.specs.declared.Role.TheVariants.{WriteInitiator}
use Rattle.arrival.specs.declared.Class.{Class}
use Rattle.arrival.specs.declared.Arrived.{Arrived}
use Rattle.sender_steps.specs.Confirmation as confirmation
use Rattle.sender_steps.specs.declared.types.Burst.{Burst}
use Rattle.initiator.specs.Fields.{sender≔, pending≔, taken≔}
use Rattle.initiator.specs.WriteRecord.{holds_of, begins_of}
use Rattle.initiator.specs.declared.types.XferRdyDisposition.{XferRdyDisposition}
use Rattle.initiator.specs.declared.types.XferRdyDisposition.TheVariants.{Next, Repeat}
use Rattle.initiator.specs.declared.types.Writer.{Writer}
use Rattle.status.specs.declared.words.Failure.{Failure}
use Rattle.std.specs.Prelude as code
use Rattle.std.specs.Prelude.{Ok, Err}

-- what becomes of it, or the failure
abbrev pub Disposition : Type 0
Disposition = code.Result XferRdyDisposition Failure

-- an ended record has nothing unanswered and no NAK pending; its other fields stay
abbrev pub ended_of : Writer → Writer
ended_of w = w with sender≔ (confirmation.ended_of w.sender)

abbrev pub failed_of : Writer → ℕ → Left Writer
failed_of w n = ended_of w saying Said.failed n w.sender.frames

-- a step of the code, or the failure in its place
abbrev pub or_failed : Writer → code.Result (Stepped Writer) Failure → Left Writer
or_failed w (Ok x) = stepped x
or_failed w (Err why) = failed_of w (failure_number why)

-- "The previous burst is the last one taken, started or not"
abbrev pub previous : Writer → Burst
previous w = pick w.pending w.taken w.sender.burst

-- "every frame of that burst was handed out at least once": the furthest offset is its end; of one that has not started none was (it is not empty: 25)
abbrev pub all_handed : Writer → Bool
all_handed w = pick w.pending (eqb w.taken.base w.taken.end) (eqb w.reached w.sender.burst.end)

-- "25: 0, or offset plus length passes the count"
unfoldable pub fits_of : {A : Type 0} → Writer → XferRdy → code.Result A Failure → code.Result A Failure
fits_of w x v = pick (eqb x.len 0 || ltb w.sender.transfer.count (x.offset + x.len)) (Err XferRdyIncorrectWriteDataLength) v

-- 25 also where a repeat has another length: "its length must be that of the burst it repeats" (request K3)
unfoldable pub repeat_of : Writer → XferRdy → Disposition
repeat_of w x = pick (eqb ((previous w).base + x.len) (previous w).end) (fits_of w x (Ok Repeat)) (Err XferRdyIncorrectWriteDataLength)

-- "with RETRANSMIT one it also takes the previous base, at any time" (before any burst there is none to repeat);
-- "takes an offset equal to the previous burst's end .. if every frame of that burst was handed out at least once, else 27"; "other offsets are 26"; then 25
unfoldable pub disposition_of : Writer → XferRdy → Bool → Disposition
disposition_of w x retransmit =
    pick (retransmit && eqb x.offset (previous w).base && ltb (previous w).base (previous w).end) (repeat_of w x)
    (pick (eqb x.offset (previous w).end) (pick (all_handed w) (fits_of w x (Ok Next)) (Err XferRdyNotExpected))
    (Err XferRdyRequestedOffsetError))

-- "RETRY DATA FRAMES zero makes its limit 0"
abbrev pub limit_of : Writer → Bool → ℕ
limit_of w retry = pick retry w.sender.transfer.limit 0

abbrev pub asked_of : Writer → Header → XferRdy → Burst
asked_of w h x = record { base = x.offset; end = x.offset + x.len; tptt = h.tptt; limit = limit_of w h.flags.retry }

-- the delivery of the burst in service was reported, or there was none: with nothing unanswered its next offset is the end
abbrev pub reported_of : Writer → Bool
reported_of w = eqb w.sender.unanswered 0 && eqb w.sender.next w.sender.burst.end

-- "the old burst then counts as delivered": told with its count where that was not reported before
unfoldable pub next_taken : Writer → Said
next_taken w = Said.xfer_rdy (pick (reported_of w) Taking.next (Taking.delivers w.sender.frames))

-- "the new burst starts .. once nothing is unanswered"
unfoldable pub burst_taken : Writer → Burst → Said → Left Writer
burst_taken w b said = pick (eqb w.sender.unanswered 0) (begins_of w.sender.transfer b) (w with pending≔ true with taken≔ b) saying said

abbrev pub judged_by : Disposition → Writer → Header → XferRdy → Left Writer
judged_by (Err why) w h x = failed_of w (failure_number why)
judged_by (Ok Next) w h x = burst_taken w (asked_of w h x) (next_taken w)
judged_by (Ok Repeat) w h x = burst_taken w (asked_of w h x) (Said.xfer_rdy Taking.repeats)

-- "XFER_RDY 23, 24, 27, 26, 25"
abbrev pub sized_by : Result XferRdy → Writer → Header → Left Writer
sized_by (Result.number n) w h = failed_of w n
sized_by (Result.value x) w h = judged_by (disposition_of w x h.flags.retransmit) w h x

unfoldable pub xfer_rdy_taken : Writer → Header → List ℕ → Left Writer
xfer_rdy_taken w h iu = sized_by (xfer_rdy_of iu) w h

-- 32, 34, else "a RESPONSE ends the command", and what its IU says comes back (request K9)
abbrev pub opened_by : Result Opened → Writer → ℕ → ℕ → Left Writer
opened_by (Result.number n) w start len = failed_of w n
opened_by (Result.value o) w start len = ended_of w saying Said.response start len o w.sender.frames

unfoldable pub response_of : Writer → ℕ → ℕ → List ℕ → Left Writer
response_of w start len iu = opened_by (response_iu_of iu) w start len

-- a frame f that has passed 5 to 8, by what it is taken for
abbrev pub taken_of : Class → Writer → Arrived → List ℕ → Left Writer
taken_of Class.XferRdy w a f = xfer_rdy_taken w a.header (take a.len (drop a.start f))
taken_of Class.Response w a f = response_of w a.start a.len (take a.len (drop a.start f))
taken_of Class.Data w a f = w saying Said.refused 6

abbrev pub arrived_by : Result Arrived → Writer → List ℕ → Left Writer
arrived_by (Result.number n) w f = w saying Said.refused n
arrived_by (Result.value a) w f = taken_of a.class w a f

-- 1, 2, 5, 6, 7, 8, else the frame
unfoldable pub arrived_frame : Writer → List ℕ → Result Arrived
arrived_frame w f = let_in (entry_of (holds_of w) w.sender.ended) (accept_of WriteInitiator w.sender.transfer f)

unfoldable pub write_arrival_of : Writer → List ℕ → Left Writer
write_arrival_of w f = unless (entry_of (holds_of w) w.sender.ended) w (arrived_by (accept_of WriteInitiator w.sender.transfer f) w f)
