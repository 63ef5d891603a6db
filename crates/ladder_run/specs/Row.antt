-- "Frames go out until wait": one frame asked for, and its fate.
use Rattle.std.specs.Prelude.{ℕ, ◌+◌, List, Bool, true, false, cond, ◌&&◌, not, take, replicate, leb, ltb, Option, Some, None, is_some}
use Rattle.status.specs.Pick.{pick, if_any}
use Rattle.status.specs.Answer.{Said, view, number, stores}
use Rattle.status.specs.Result.{Result}
use Rattle.frame.specs.Read.{decode}
use Rattle.frame.specs.declared.types.Parsed.{Parsed}
use Rattle.link.specs.Ports.{Called}
use Rattle.ladder_text.specs.declared.types.Fate.{Fate}
use Rattle.ladder_text.specs.declared.types.Row.{Row}
use Rattle.ladder_text.specs.declared.types.Receipt.{Receipt}
use Rattle.ladder_text.specs.declared.types.Receipt.TheVariants.{Stored, Discarded, Nothing, Number}
use Rattle.ladder_run.specs.Ends.{ask_of, arrive_of, past_of}
use Rattle.ladder_run.specs.Fates.{fate_of, whole}
use Rattle.ladder_run.specs.declared.types.Sending.{Sending}
use Rattle.ladder_run.specs.declared.types.Receiving.{Receiving}
use Rattle.ladder_run.specs.declared.types.Report.{Report}
use Rattle.ladder_run.specs.declared.types.Ladder.{Ladder}
use Rattle.ladder_run.specs.declared.types.Shown.{Shown}
use Rattle.ladder_run.specs.declared.types.Met.{Met}
use Rattle.ladder_run.specs.declared.types.Next.{Next}

-- "a zeroed area of 1,048 bytes for the frame"
abbrev pub area : List ℕ
area = replicate 1_048 0

-- the length of the frame that was handed out, if one was
abbrev pub handed : Said → Option ℕ
handed a = if_any (view a).frame Some None

-- "receiver (`stored`, `discarded`, `none` where nothing arrived, or the number it gave)"; 0 stands for what no DATA frame is answered
abbrev pub receipt_of : Said → Receipt
receipt_of a = cond (stores a) Stored (cond (view a).discards Discarded (Number (number a)))

abbrev pub bit : Bool → ℕ
bit true = 1
bit false = 0

-- "offset, bytes, CDP", as the frame itself has them
abbrev pub shown_of : Result Parsed → Shown
shown_of (Result.value p) = record { offset = p.header.offset; bytes = p.len; cdp = bit p.header.flags.cdp }
shown_of (Result.number n) = record { offset = 0; bytes = 0; cdp = 0 }

-- a frame met its fate: the receiving port, its word, its data buffer
pub record Meeting : Type 0 where
  pub receiving : Receiving
  pub receipt : Receipt
  pub received : List ℕ

abbrev pub arrives : Called Receiving → Meeting
arrives x = record { receiving = x.left; receipt = receipt_of x.says; received = x.lent }

abbrev pub met_of : Receiving → Fate → List ℕ → List ℕ → Meeting
met_of r x f b = pick (whole x) (arrives (arrive_of r f b)) (record { receiving = r; receipt = Nothing; received = b })

abbrev pub met_by : Met → List ℕ → Meeting
met_by m b = record { receiving = m.receiving; receipt = m.receipt; received = b }

-- nothing is reported
abbrev pub silent : Option Report → Bool
silent r = not (is_some r)

-- no run file has more fates: it has at most 65,536 bytes, three or more for each, and line one
abbrev pub FATES-MOST : ℕ
FATES-MOST = 21_844

-- no ladder of a run file has more rows (crate ladder_claim, `Ends`): its fates, the rest of one window, a faultless transfer of 65,536 bytes
abbrev pub ROWS-MOST : ℕ
ROWS-MOST = 38_291

-- "takes counts to 65,536"
abbrev pub COUNT-MOST : ℕ
COUNT-MOST = 65_536

-- a frame may be asked for; the last test, as the one before it, bounds the text for any record, and is true of every ladder that is set up
abbrev pub open_of : Ladder → Bool
open_of l = silent l.report && ltb l.frames ROWS-MOST && leb (past_of l.sending) COUNT-MOST

-- what is left of the ladder, what it tells, and the received data
pub record NextLine (L : Type 0) : Type 0 where
  pub ladder : Ladder
  pub line : L
  pub received : List ℕ

abbrev pub next_line_by : {L : Type 0} → Next L → List ℕ → NextLine L
next_line_by x b = record { ladder = x.ladder; line = x.line; received = b }

-- what a frame asked for leaves, with the row of the frame that was handed out, if one was
abbrev pub Sent : Type 0
Sent = NextLine (Option Row)

abbrev pub nothing_of : Ladder → Sending → Next (Option Row)
nothing_of l s = record { ladder = record { sending = s; receiving = l.receiving; frames = l.frames; before = l.before; report = l.report }; line = None }

-- "Fields: frame (from 1), offset, bytes, CDP, fate, receiver"
abbrev pub row_of : ℕ → Shown → Fate → Receipt → Row
row_of n x fate receipt = record { frame = n; offset = x.offset; bytes = x.bytes; cdp = x.cdp; fate = fate; receipt = receipt }

-- frame f was handed out by a port that is left as s
abbrev pub sent_of : Ladder → Sending → List ℕ → List ℕ → List ℕ → Sent
sent_of l s f fs b =
    let fate = fate_of fs l.frames in
    let m = met_of l.receiving fate f b in
    record {
      ladder = record { sending = s; receiving = m.receiving; frames = l.frames + 1; before = l.before; report = l.report };
      line = Some (row_of (l.frames + 1) (shown_of (decode f)) fate m.receipt);
      received = m.received;
    }

-- the area's first n bytes went out, or nothing did
abbrev pub due_of : Ladder → Called Sending → List ℕ → List ℕ → Option ℕ → Sent
due_of l x fs b (Some n) = sent_of l x.left (take n x.lent) fs b
due_of l x fs b None = next_line_by (nothing_of l x.left) b

abbrev pub asked_by : Ladder → Called Sending → List ℕ → List ℕ → Sent
asked_by l x fs b = due_of l x fs b (handed x.says)

-- fates, sent data, received data
unfoldable pub out_of : Ladder → List ℕ → List ℕ → List ℕ → Sent
out_of l fs d b = pick (open_of l) (asked_by l (ask_of l.sending d area) fs b) (next_line_by (nothing_of l l.sending) b)
