-- What a receiving port says of an arriving frame has a number of two digits at most: a receiver's word is at most nine bytes long.
use Prim.Native.Nat.{ℕ, ◌+◌, ◌≤◌, max}
use mathlib.Core.List.{List}
use mathlib.Core.Bool.{Bool, true, false, cond, not, ◌||◌}
use native.Mathlib.Omega.{arith}
use lib.Dec.{ltb, eqb}
use lib.ListN.{length, get_or}
use Rattle.status.specs.Entry.{entry_of}
use Rattle.status.specs.Number.{refusal_number}
use Rattle.status.specs.Answer.{Said, view, Left, number, stores, unless}
use Rattle.status.specs.Result.{Result}
use Rattle.status.specs.declared.answer.Opened.{Opened}
use Rattle.status.specs.declared.words.Refusal.{Refusal}
use Rattle.status.specs.declared.words.Refusal.TheVariants.{BadRequest, TransferEnded, FrameSpaceShort, AnswerWithoutFrame, MalformedFrame, UnexpectedFrameType, WrongAddress, UnknownTag}
use Rattle.status.specs.Entry.{Entry}
use Rattle.std.specs.Prelude.{Ok, Err}
use Rattle.status.proofs.Leaves.{picked}
use Rattle.transfer.specs.declared.Transfer.{Transfer}
use Rattle.frame.specs.Format.{is_type}
use Rattle.frame.specs.Read.{decode, parsed, well_formed}
use Rattle.frame.specs.XferRdy.{xfer_rdy_of}
use Rattle.frame.specs.Response.{kind_in, needing, by_kind, response_iu_of}
use Rattle.frame.specs.declared.types.Parsed.{Parsed}
use Rattle.frame.specs.declared.types.XferRdy.{XferRdy}
use Rattle.std.specs.Prelude.{Option, Some, None}
use Rattle.arrival.specs.Accept.{screen_of, screened, class_of, accept_of}
use Rattle.arrival.specs.declared.Role.{Role}
use Rattle.arrival.specs.declared.Role.TheVariants.{ReadInitiator, WriteTarget}
use Rattle.arrival.specs.declared.Class.{Class}
use Rattle.arrival.specs.declared.Arrived.{Arrived}
use Rattle.receiver.specs.DataFrame as data_frame
use Rattle.receiver_steps.specs.Record as data-frame-step
use Rattle.receiver_steps.specs.declared.types.Receiver.{Receiver}
use Rattle.receiver.proofs.Views as views
use Rattle.initiator.specs.Read as reading
use Rattle.target.specs.Record.{READY}
use Rattle.target.specs.Arrival as writing
use Rattle.target.specs.declared.types.Target.{Target}
use Rattle.ladder_text.specs.Words.{receipt_word}
use Rattle.ladder_text.specs.declared.types.Receipt.{Receipt}
use Rattle.ladder_text.specs.declared.types.Receipt.TheVariants.{Stored, Discarded, Number}
use Rattle.ladder_text.specs.Laws.{ReceiptFits}
use Rattle.ladder_text.proofs.Lengths.{digits_most}
use Rattle.ladder_run.specs.Ends.{arrive_of}
use Rattle.ladder_run.specs.Row.{receipt_of}
use Rattle.ladder_run.specs.declared.types.Receiving.{Receiving}
use Rattle.ladder_run.specs.declared.types.Receiving.TheVariants as receiving

-- the numbers of "Trade words" end with 32
abbrev Numbered : Said → Type 0
Numbered x = number x ≤ 34

refusal_most : (why : Refusal) → refusal_number why ≤ 34
refusal_most BadRequest = omega arith
refusal_most TransferEnded = omega arith
refusal_most FrameSpaceShort = omega arith
refusal_most AnswerWithoutFrame = omega arith
refusal_most MalformedFrame = omega arith
refusal_most UnexpectedFrameType = omega arith
refusal_most WrongAddress = omega arith
refusal_most UnknownTag = omega arith

entered : {X : Type 0} (e : Entry) (x : X) (y : Left X) → Numbered y.says → Numbered (unless e x y).says
entered (Ok tt) x y h = h
entered (Err why) x y h = refusal_most why

-- an outcome's number, if it is one
abbrev Within : {X : Type 0} → Result X → Type 0
Within (Result.number n) = n ≤ 34
Within (Result.value x) = Unit {0}

decoded : (f : List ℕ) → Within (decode f)
unfolding decode
decoded f = picked Within (well_formed f) _ _ (picked Within (is_type (get_or f 0 0)) (Result.value (parsed f)) (Result.number 6) tt (omega arith)) (omega arith)

screens : (t : Transfer) (k : Option Class) (p : Parsed) → Within (screen_of t k p)
unfolding screen_of
screens t None p = omega arith
screens t (Some k) p =
    picked Within (not (eqb p.header.dest t.local) || not (eqb p.header.source t.remote)) _ _ (omega arith)
    (picked Within (not (eqb p.header.tag t.tag)) (Result.number 8) (Result.value (record { class = k; header = p.header; start = p.start; len = p.len })) (omega arith) tt)

accepts : (role : Role) (t : Transfer) (f : List ℕ) → Within (accept_of role t f)
unfolding accept_of
accepts role t f = go (decode f) (decoded f)
  where
    go : (x : Result Parsed) → Within x → Within (screened x role t)
    go (Result.number n) h = h
    go (Result.value p) h = screens t (class_of role p.header.frametype) p

-- DATA
data_numbered : (r : Receiver) (offset : ℕ) (cdp : Bool) (n m : ℕ) → Numbered (data_frame.arrival_of r offset cdp n m).says
unfolding data_frame.arrival_of
data_numbered r offset cdp n m = entered (entry_of (data-frame-step.lent_of r m) r.ended) r _ (go (views.judges r offset cdp n))
  where
    go : {x : Left Receiver} → views.Arrived r offset cdp n x → Numbered x.says
    go (views.Arrived.full p) = omega arith
    go (views.Arrived.misplaced o p) = omega arith
    go (views.Arrived.long o p) = omega arith
    go (views.Arrived.empty o p) = omega arith
    go (views.Arrived.skipped i s) = omega arith
    go (views.Arrived.stored i s) = picked Numbered (eqb (max r.filled (offset + n)) r.end) Said.received Said.stored (omega arith) (omega arith)

-- ── at the initiator of a read ──
xfer_rdy_numbered : (r : Receiver) (iu : List ℕ) → Numbered (reading.not_expected_of r iu).says
unfolding reading.not_expected_of xfer_rdy_of
xfer_rdy_numbered r iu = go (xfer_rdy_of iu) (picked Within (ltb (length iu) 12) _ _ (omega arith) (picked Within (ltb 12 (length iu)) (Result.number 24) _ (omega arith) tt))
  where
    go : (x : Result XferRdy) → Within x → Numbered (reading.rejected_by x r).says
    go (Result.number n) h = h
    go (Result.value x) h = omega arith

response_within : (iu : List ℕ) → Within (response_iu_of iu)
unfolding response_iu_of by_kind
response_within iu =
    let needed : (t : Bool) (n : ℕ) → Within (needing t iu n) = λ t n. picked Within t _ _ tt (omega arith) in
    picked Within (ltb (length iu) 24) _ _ (omega arith)
    (picked Within (eqb (kind_in iu) 0) _ _ (needed _ _)
    (picked Within (eqb (kind_in iu) 1) _ _ (needed _ _)
    (picked Within (eqb (kind_in iu) 2) _ _ (needed _ _) (omega arith))))

response_numbered : (r : Receiver) (start len : ℕ) (iu : List ℕ) → Numbered (reading.response_of r start len iu).says
unfolding reading.response_of
response_numbered r start len iu = go (response_iu_of iu) (response_within iu)
  where
    go : (x : Result Opened) → Within x → Numbered (reading.opened_by x r start len).says
    go (Result.number n) h = h
    go (Result.value o) h = omega arith

read_numbered : (r : Receiver) (f : List ℕ) (m : ℕ) → Numbered (reading.read_arrival_of r f m).says
unfolding reading.read_arrival_of
read_numbered r f m = entered (entry_of (reading.read_lent_of r m) r.ended) r _ (go (accept_of ReadInitiator r.transfer f) (accepts ReadInitiator r.transfer f))
  where
    by_class : (k : Class) (a : Arrived) → Numbered (reading.taken_of k r a f m).says
    by_class Class.Data a = data_numbered r a.header.offset a.header.flags.cdp a.len m
    by_class Class.XferRdy a = xfer_rdy_numbered r _
    by_class Class.Response a = response_numbered r a.start a.len _

    go : (x : Result Arrived) → Within x → Numbered (reading.arrived_by x r f m).says
    go (Result.number n) h = h
    go (Result.value a) h = by_class a.class a

-- ── at the target of a write ──
write_numbered : (y : Target) (f : List ℕ) (m : ℕ) → Numbered (writing.write_arrival_of y f m).says
unfolding writing.write_arrival_of writing.taken_of
write_numbered y f m = entered (entry_of (writing.lent_of y m) y.receiver.ended) y _ (go (accept_of WriteTarget y.receiver.transfer f) (accepts WriteTarget y.receiver.transfer f))
  where
    go : (x : Result Arrived) → Within x → Numbered (writing.arrived_by x y m).says
    go (Result.number n) h = h
    go (Result.value a) h =
        picked (λ (x : Left Target). Numbered x.says) (writing.is_current y a.header) _ _
        (picked (λ (x : Left Target). Numbered x.says) (eqb y.state READY) _ _
        (data_numbered y.receiver a.header.offset a.header.flags.cdp a.len m) (omega arith)) (omega arith)

pub arrival_numbered : (r : Receiving) (f b : List ℕ) → number (arrive_of r f b).says ≤ 34
arrival_numbered (receiving.Read r) f b = read_numbered r f (length b)
arrival_numbered (receiving.Write y) f b = write_numbered y f (length b)

-- ── its word ──
abbrev Brief : Receipt → Type 0
Brief x = (length (receipt_word x) ≤ 9) × ReceiptFits x

number_brief : (n : ℕ) → n ≤ 34 → Brief (Number n)
number_brief n h = (omega (arith, digits_most 1 n (omega arith)), omega arith)

pub receipt_brief : (x : Said) → number x ≤ 34 → (length (receipt_word (receipt_of x)) ≤ 9) × ReceiptFits (receipt_of x)
receipt_brief x h = go (stores x) (view x).discards
  where
    go : (s d : Bool) → Brief (cond s Stored (cond d Discarded (Number (number x))))
    go true d = (omega arith, tt)
    go false true = (omega arith, tt)
    go false false = number_brief (number x) h
