-- How large the numbers of a row are, and how long its line (specs/Small).
use Prim.Native.Nat.{ℕ, ◌+◌, ◌≤◌, ◌<◌}
use mathlib.Core.List.{List}
use mathlib.Core.Bool.{Bool, true, false, ◌&&◌}
use mathlib.Core.Path.{◌≡◌, refl, ap, subst, ◌∙◌}
use native.Mathlib.Omega.{arith}
use lib.Dec.{leb, ltb}
use lib.ListN.{length, length-append, take}
use borrow.Author.Tests.{leb-true, ltb-true}
use Rattle.status.specs.Pick.{pick}
use Rattle.status.specs.Answer.{Said}
use Rattle.status.proofs.Choose.{and_true}
use Rattle.frame.specs.Read.{header_in, decode}
use Rattle.frame.specs.Write.{handing}
use Rattle.link.specs.Ports.{Called}
use Rattle.frame.proofs.Hands.{over_front}
use Rattle.ladder_text.specs.Words.{receipt_word}
use Rattle.ladder_text.specs.Laws.{ReceiptFits}
use Rattle.ladder_text.proofs.Lengths.{digits_most, fate_most, outcome_most}
use Rattle.ladder_text.specs.declared.types.Fate.{Fate}
use Rattle.ladder_text.specs.declared.types.Fate.TheVariants.{Ok, Noack, Bad, Nonak, Lost}
use Rattle.ladder_text.specs.declared.types.Receipt.{Receipt}
use Rattle.ladder_run.specs.Ends.{ask_of, arrive_of, past_of}
use Rattle.ladder_run.specs.Fates.{fate_of}
use Rattle.ladder_run.specs.Row.{area, handed, shown_of, met_of, silent, ROWS-MOST, COUNT-MOST, Sent, open_of, next_line_by, nothing_of, row_of, sent_of, due_of, asked_by, out_of}
use Rattle.ladder_run.specs.Round.{closed_of}
use Rattle.ladder_run.specs.Line.{lastly, begins, firstly, line_of}
use Rattle.ladder_run.specs.Small.{SmallRow, SmallOuts, SmallLines, SmallVerdicts}
use Rattle.ladder_run.specs.declared.types.Sending.{Sending}
use Rattle.ladder_run.specs.declared.types.Receiving.{Receiving}
use Rattle.ladder_run.specs.declared.types.Ladder.{Ladder}
use Rattle.ladder_text.specs.declared.types.Row.{Row}
use Rattle.std.specs.Prelude.{Option, Some, None}
use Rattle.ladder_run.specs.declared.types.Line.{Line}
use Rattle.ladder_run.specs.declared.types.Line.TheVariants as line
use Rattle.ladder_run.specs.declared.types.Shown.{Shown}
use Rattle.ladder_run.proofs.SmallReceipt.{arrival_numbered, receipt_brief}
use Rattle.ladder_run.proofs.SmallFrame.{Hands, due_frame, ask_hands, ask_lends, SmallShown, shown_small}

-- a row of small parts
small_row : (n : ℕ) (x : Shown) (fate : Fate) (receipt : Receipt) → n ≤ ROWS-MOST → SmallShown x → (length (receipt_word receipt) ≤ 9) × ReceiptFits receipt → SmallRow (row_of n x fate receipt)
small_row n x fate receipt a s q =
    record {
      frame = a;
      offset = s.offset;
      bytes = s.bytes;
      cdp = s.cdp;
      fits = record { frame = omega arith; offset = omega (arith, s.offset); bytes = omega (arith, s.bytes); cdp = omega (arith, s.cdp); receipt = q.1 };
      text =
          simp length-append
          (omega (arith, digits_most 4 n (omega arith), digits_most 4 x.offset (omega (arith, s.offset)), digits_most 3 x.bytes (omega (arith, s.bytes)), digits_most 0 x.cdp (omega (arith, s.cdp)), fate_most fate, q.0));
    }

met_brief : (r : Receiving) (x : Fate) (f b : List ℕ) → (length (receipt_word (met_of r x f b).receipt) ≤ 9) × ReceiptFits (met_of r x f b).receipt
unfolding pick
met_brief r Ok f b = receipt_brief (arrive_of r f b).says (arrival_numbered r f b)
met_brief r Noack f b = receipt_brief (arrive_of r f b).says (arrival_numbered r f b)
met_brief r Bad f b = (omega arith, tt)
met_brief r Nonak f b = (omega arith, tt)
met_brief r Lost f b = (omega arith, tt)

-- the row, where it is one
abbrev SmallDue : Option Row → Type 0
SmallDue (Some r) = SmallRow r
SmallDue None = Unit {0}

abbrev SmallLine : Line → Type 0
SmallLine (line.Row r) = SmallRow r
SmallLine (line.Verdict v) = Unit {0}

module _ (l : Ladder) (fs d b : List ℕ) where
  -- frame f was handed out
  sent_small : (s : Sending) (f : List ℕ) → l.frames < ROWS-MOST → (header_in f).offset < COUNT-MOST → SmallDue (sent_of l s f fs b).line
  sent_small s f n h =
      small_row (l.frames + 1) (shown_of (decode f)) (fate_of fs l.frames) _ (omega arith) (shown_small f h) (met_brief l.receiving (fate_of fs l.frames) f b)

  asked_small : (x : Called Sending) (f : List ℕ) (p : ℕ) → l.frames < ROWS-MOST → p ≤ COUNT-MOST → Hands p 1_048 f x.says → x.lent ≡ handing x.says f area → SmallDue (asked_by l x fs b).line
  asked_small x f p n small h e = go x.says h e
    where
      go : (a : Said) → Hands p 1_048 f a → x.lent ≡ handing a f area → SmallDue (due_of l x fs b (handed a)).line
      go a (Hands.nothing z) e = rw z tt
      go _ (Hands.frame q m) e =
          let front : take (length f) x.lent ≡ f = ap (take (length f)) e ∙ over_front f area in
          sent_small x.left _ n (rw front (omega arith))

  out_small : SmallDue (out_of l fs d b).line
  unfolding out_of pick
  out_small = go (open_of l) refl
    where
      go : (t : Bool) → open_of l ≡ t → SmallDue (pick t (asked_by l (ask_of l.sending d area) fs b) (next_line_by (nothing_of l l.sending) b)).line
      go true e =
          let o = and_true (silent l.report && ltb l.frames ROWS-MOST) (leb (past_of l.sending) COUNT-MOST) e in
          asked_small (ask_of l.sending d area) (due_frame l.sending d) (past_of l.sending) (ltb-true _ _ (and_true (silent l.report) _ o.0).1) (leb-true _ _ o.1) (ask_hands l.sending d area) (ask_lends l.sending d area)
      go false e = tt

pub small_outs : SmallOuts
small_outs l fs d b r e = subst SmallDue e (out_small l fs d b)

-- ── a line ──
begins_small : (fs : List ℕ) (x : Sent) → SmallDue x.line → SmallLine (begins fs x).line
begins_small fs x h = go x.line h
  where
    go : (y : Option Row) → SmallDue y → SmallLine (lastly fs x.ladder y).line
    go (Some r) h = h
    go None h = tt

line_small : (l : Ladder) (fs d b : List ℕ) → SmallLine (line_of l fs d b).line
unfolding line_of
line_small l fs d b = let x = out_of l fs d b in go x.ladder x.line x.received (out_small l fs d b)
  where
    go : (m : Ladder) (y : Option Row) (c : List ℕ) → SmallDue y → SmallLine (firstly fs d m y c).line
    go m (Some r) c h = h
    go m None c h = begins_small fs (out_of (closed_of fs m) fs d c) (out_small (closed_of fs m) fs d c)

pub small_lines : SmallLines
small_lines l fs d b r e = subst SmallLine e (line_small l fs d b)

-- ── the verdict ──
pub small_verdicts : SmallVerdicts
small_verdicts v n f a g =
    simp length-append
    (omega (arith, outcome_most v.outcome, digits_most 2 v.number (omega arith), digits_most 4 v.frames (omega arith), digits_most 4 v.faults (omega arith), digits_most 4 v.filled (omega arith)))
