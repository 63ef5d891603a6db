-- What a call answers, in the paper's terms: "a definition that gives this paper's number and values for each of its cases".
use Rattle.std.specs.Prelude.{ℕ, Bool, true, false, Ok, Err}
use Rattle.std.proofs.Math.Option.{Option, none, some}
use Rattle.status.specs.Number.{refusal_number, failure_number}
use Rattle.status.specs.Report.{Report, failing}
use Rattle.status.specs.Entry.{Entry}
use Rattle.status.specs.declared.answer.Opened.{Opened}
use Rattle.status.specs.declared.answer.Answer.{Answer}
use Rattle.status.specs.declared.answer.Answer.TheVariants.{Refused, Failed, Wait, Frame, Taken, Retry, Unchanged, Delivered, Acknowledged, Discarded, Stored, Received, NextBurst, NextBurstDelivers, Repeated, Response}

-- what happened, where the paper has neither number nor value for it
pub data Word : Type 0 where
  -- no frame is due
  wait : Word
  -- the event was taken, with nothing to tell; a retry begins; a cut with nothing unanswered, or a report of time outside its span
  taken retry unchanged : Word
  -- the XFER_RDY had its ACK
  acknowledged : Word
  discarded : Word

-- which burst an XFER_RDY that was taken is for
pub data Taking : Type 0 where
  -- the next one; there was none before, or its delivery was reported
  next : Taking
  -- the next one; with it the one before counts as delivered, after so many frames
  delivers : ℕ → Taking
  -- it repeats the burst taken last
  repeats : Taking

pub data Said : Type 0 where
  -- refused with that number, 1 to 8
  refused : ℕ → Said
  -- failed with that number, 20 to 34; the DATA frames that the port handed out, 0 at one that hands out none
  failed : ℕ → ℕ → Said
  -- a frame of that many bytes was handed out
  frame : ℕ → Said
  -- delivered, with the DATA frames handed out, 0 of a RESPONSE
  delivered : ℕ → Said
  -- DATA is stored; and the burst is filled with it
  stored received : Said
  -- an XFER_RDY was taken
  xfer_rdy : Taking → Said
  -- the command has ended; where the RESPONSE's IU stands in the frame, its start and length; what it says (request K9); the frames of the burst in service
  response : ℕ → ℕ → Opened → ℕ → Said
  word : Word → Said

-- each answer's number and values
abbrev pub says : Answer → Said
says (Refused why) = refused (refusal_number why)
says (Failed why n) = failed (failure_number why) n
says Wait = word wait
says (Frame n) = frame n
says Taken = word taken
says Retry = word retry
says Unchanged = word unchanged
says (Delivered n) = delivered n
says Acknowledged = word acknowledged
says Discarded = word discarded
says Stored = stored
says Received = received
says NextBurst = xfer_rdy next
says (NextBurstDelivers n) = xfer_rdy (delivers n)
says Repeated = xfer_rdy repeats
says (Response iu o n) = response iu.start iu.len o n

-- a RESPONSE that was opened: where its IU stands in the frame, what it says
pub record Opening : Type 0 where
  pub start : ℕ
  pub len : ℕ
  pub opened : Opened

-- what ports, link and ladder ask of an answer
pub record View : Type 0 where
  -- the paper's number, 0 where it has none
  pub number : ℕ
  -- the call was refused
  pub refuses : Bool
  -- the length of the frame that was handed out
  pub frame : Option ℕ
  pub report : Report
  -- the count of frames that it tells
  pub count : Option ℕ
  -- DATA is stored; DATA is discarded
  pub stores : Bool
  pub discards : Bool
  -- an XFER_RDY was taken
  pub takes : Bool
  pub response : Option Opening

abbrev pub count_in : Taking → Option ℕ
count_in next = none
count_in (delivers n) = some n
count_in repeats = none

abbrev pub discarding : Word → Bool
discarding discarded = true
discarding wait = false
discarding taken = false
discarding retry = false
discarding unchanged = false
discarding acknowledged = false

abbrev pub view : Said → View
view (refused n) = record { number = n; refuses = true; frame = none; report = Report.none; count = none; stores = false; discards = false; takes = false; response = none }
view (failed n k) = record { number = n; refuses = false; frame = none; report = Report.failed n k; count = some k; stores = false; discards = false; takes = false; response = none }
view (frame n) = record { number = 0; refuses = false; frame = some n; report = Report.none; count = none; stores = false; discards = false; takes = false; response = none }
view (delivered n) = record { number = 0; refuses = false; frame = none; report = Report.delivered n; count = some n; stores = false; discards = false; takes = false; response = none }
view stored = record { number = 0; refuses = false; frame = none; report = Report.none; count = none; stores = true; discards = false; takes = false; response = none }
view received = record { number = 0; refuses = false; frame = none; report = Report.none; count = none; stores = true; discards = false; takes = false; response = none }
view (xfer_rdy t) = record { number = 0; refuses = false; frame = none; report = Report.none; count = count_in t; stores = false; discards = false; takes = true; response = none }
view (response start len o n) = record { number = 0; refuses = false; frame = none; report = Report.none; count = some n; stores = false; discards = false; takes = false; response = some (record { start = start; len = len; opened = o }) }
view (word w) = record { number = 0; refuses = false; frame = none; report = Report.none; count = none; stores = false; discards = discarding w; takes = false; response = none }

abbrev pub number : Said → ℕ
number a = (view a).number

abbrev pub stores : Said → Bool
stores a = (view a).stores

abbrev pub refuses : Said → Bool
refuses a = (view a).refuses

abbrev pub fails : Said → Bool
fails a = failing (view a).report

-- what a call leaves of the record that it met, and what it answers
pub record Left (X : Type 0) : Type 0 where
  pub left : X
  pub says : Said

infix 1 ◌saying◌
abbrev pub ◌saying◌ : {X : Type 0} → X → Said → Left X
x saying a = record { left = x; says = a }

-- 1 to 8 "are refusals": the record stays as it was
abbrev pub unless : {X : Type 0} → Entry → X → Left X → Left X
unless (Ok u) x y = y
unless (Err why) x y = x saying refused (refusal_number why)
