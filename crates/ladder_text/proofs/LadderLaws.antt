-- The two laws of a ladder's rows, of its verdict, and of `refused`.
use Rattle.std.specs.Prelude.{Option, None, Some, bytes_eq}
use Rattle.std.proofs.lemmas.Slice.Eq.{bytes_eq-Decides}
use Prim.Native.Nat.{ℕ, ◌≤◌}
use mathlib.Core.List.{List, [], ◌∷◌}
use mathlib.Core.Bool.{Bool, true, false}
use mathlib.Core.Path.{◌≡◌, refl, sym, ap, subst, ◌∙◌}
use native.Mathlib.Omega.{arith}
use lib.ListN.{length, get_or}
use lib.Dec.{eqb}
use Rattle.ladder_text.specs.Pick.{pick}
use Rattle.ladder_text.specs.Text.{LF, TAB, fields, joined, free, all_free}
use Rattle.ladder_text.specs.Decimal.{decimal}
use Rattle.ladder_text.specs.Words.{MOST, fate_word, fate_of, receipt_word, receipt_of, outcome_word, outcome_of, refused_word}
use Rattle.ladder_text.specs.Rows.{field_at, number_at, quad_at, row_text, row_from, row_of, verdict_text, verdict_from, verdict_of, ladder_lines, refused_text, refused_of}
use Rattle.ladder_text.specs.declared.types.Quad.{Quad}
use Rattle.ladder_text.specs.Laws.{RowFits, Rows, VerdictFits, Verdicts, Refusals, LaddersReadBack}
use Rattle.ladder_text.specs.declared.types.Fate.{Fate}
use Rattle.ladder_text.specs.declared.types.Receipt.{Receipt}
use Rattle.ladder_text.specs.declared.types.Outcome.{Outcome}
use Rattle.ladder_text.specs.declared.types.Row.{Row}
use Rattle.ladder_text.specs.declared.types.Verdict.{Verdict}
use Rattle.ladder_text.proofs.Choose.{this_number, and_both}
use Rattle.ladder_text.proofs.Named.{free_decimal}
use Rattle.ladder_text.proofs.Numbers.{numbers}
use Rattle.ladder_text.proofs.Spelling.{fates, receipts, outcomes, free_fate, free_receipt, free_outcome}
use Rattle.ladder_text.proofs.Joined.{fields_read_back, free_joined, lines_read_back}
use Rattle.ladder_text.proofs.Fielded.{line_is, Side, QuadFits, quad_back, quad_again}

no_tab : (n : ℕ) → free TAB (decimal n) ≡ true
no_tab n = free_decimal TAB n (omega arith)

-- rows
module _ (r : Row) where
  abbrev row_fields : List (List ℕ)
  row_fields = decimal r.frame ∷ decimal r.offset ∷ decimal r.bytes ∷ decimal r.cdp ∷ fate_word r.fate ∷ receipt_word r.receipt ∷ []

  cut_row : fields (row_text r) ≡ row_fields
  cut_row =
      fields_read_back _ _
      (and_both _ _ (no_tab r.frame) (and_both _ _ (no_tab r.offset) (and_both _ _ (no_tab r.bytes) (and_both _ _ (no_tab r.cdp) (and_both _ _ (free_fate r.fate).0 (and_both _ _ (free_receipt r.receipt).0 refl))))))

  row_back : RowFits r → row_of (row_text r) ≡ Some r
  unfolding row_of
  row_back f =
      let at : (i : ℕ) → field_at (row_text r) i ≡ get_or row_fields i [] = λ i. ap (λ (fs : List (List ℕ)). get_or fs i []) cut_row in
      let q : Quad = record { a = r.frame; b = r.offset; c = r.bytes; d = r.cdp } in
      let side : Side (row_text r) 0 q = record { a = at 0; b = at 1; c = at 2; d = at 3 } in
      let fits : QuadFits q = record { a = f.frame; b = f.offset; c = f.bytes; d = f.cdp } in
      sym
      (this_number 6 None (sym (ap length cut_row)) refl
      (rw (quad_back (row_text r) 0 q fits side, at 4, at 5, fates.back r.fate tt, receipts.back r.receipt f.receipt) refl))

row_again : (b : List ℕ) (r : Row) → row_of b ≡ Some r → RowFits r × (row_text r ≡ b)
unfolding row_of pick
row_again b r e = go (eqb (length (fields b)) 6) (quad_at b 0) (fate_of (field_at b 4)) (receipt_of (field_at b 5)) refl refl refl refl e
  where
    go : (t : Bool) (q : Option Quad) (f : Option Fate) (x : Option Receipt) → eqb (length (fields b)) 6 ≡ t → quad_at b 0 ≡ q → fate_of (field_at b 4) ≡ f → receipt_of (field_at b 5) ≡ x → pick t (row_from q f x) None ≡ Some r → RowFits r × (row_text r ≡ b)
    go true (Some q) (Some f) (Some x) p g h k e =
        let s : Row = record { frame = q.a; offset = q.b; bytes = q.c; cdp = q.d; fate = f; receipt = x } in
        let w : s ≡ r = cc in
        let n = quad_again b 0 q g in
        let m = n.1 in
        let y = receipts.again (field_at b 5) x k in
        let fits : RowFits s = record { frame = n.0.a; offset = n.0.b; bytes = n.0.c; cdp = n.0.d; receipt = y.0 } in
        let text : row_text s ≡ b = rw (← m.a, ← m.b, ← m.c, ← m.d, (fates.again (field_at b 4) f h).1, y.1) (line_is b 6 p) in
        subst (λ (z : Row). RowFits z × (row_text z ≡ b)) w (fits, text)
    go true (Some q) (Some f) None p g h k e = absurd cc
    go true (Some q) None x p g h k e = absurd cc
    go true None f x p g h k e = absurd cc
    go false q f x p g h k e = absurd cc

pub rows : Rows
rows = record { back = row_back; again = row_again }

-- the verdict
module _ (v : Verdict) where
  abbrev verdict_fields : List (List ℕ)
  verdict_fields = outcome_word v.outcome ∷ decimal v.number ∷ decimal v.frames ∷ decimal v.faults ∷ decimal v.filled ∷ []

  cut_verdict : fields (verdict_text v) ≡ verdict_fields
  cut_verdict =
      fields_read_back _ _
      (and_both _ _ (free_outcome v.outcome).0 (and_both _ _ (no_tab v.number) (and_both _ _ (no_tab v.frames) (and_both _ _ (no_tab v.faults) (and_both _ _ (no_tab v.filled) refl)))))

  verdict_back : VerdictFits v → verdict_of (verdict_text v) ≡ Some v
  unfolding verdict_of
  verdict_back f =
      let at : (i : ℕ) → field_at (verdict_text v) i ≡ get_or verdict_fields i [] = λ i. ap (λ (fs : List (List ℕ)). get_or fs i []) cut_verdict in
      let q : Quad = record { a = v.number; b = v.frames; c = v.faults; d = v.filled } in
      let side : Side (verdict_text v) 1 q = record { a = at 1; b = at 2; c = at 3; d = at 4 } in
      let fits : QuadFits q = record { a = f.number; b = f.frames; c = f.faults; d = f.filled } in
      sym
      (this_number 5 None (sym (ap length cut_verdict)) refl
      (rw (at 0, outcomes.back v.outcome tt, quad_back (verdict_text v) 1 q fits side) refl))

verdict_again : (b : List ℕ) (v : Verdict) → verdict_of b ≡ Some v → VerdictFits v × (verdict_text v ≡ b)
unfolding verdict_of pick
verdict_again b v e = go (eqb (length (fields b)) 5) (outcome_of (field_at b 0)) (quad_at b 1) refl refl refl e
  where
    go : (t : Bool) (o : Option Outcome) (q : Option Quad) → eqb (length (fields b)) 5 ≡ t → outcome_of (field_at b 0) ≡ o → quad_at b 1 ≡ q → pick t (verdict_from o q) None ≡ Some v → VerdictFits v × (verdict_text v ≡ b)
    go true (Some o) (Some q) p f g e =
        let s : Verdict = record { outcome = o; number = q.a; frames = q.b; faults = q.c; filled = q.d } in
        let w : s ≡ v = cc in
        let n = quad_again b 1 q g in
        let m = n.1 in
        let fits : VerdictFits s = record { number = n.0.a; frames = n.0.b; faults = n.0.c; filled = n.0.d } in
        let text : verdict_text s ≡ b = rw ((outcomes.again (field_at b 0) o f).1, ← m.a, ← m.b, ← m.c, ← m.d) (line_is b 5 p) in
        subst (λ (x : Verdict). VerdictFits x × (verdict_text x ≡ b)) w (fits, text)
    go true (Some o) None p f g e = absurd cc
    go true None q p f g e = absurd cc
    go false o q p f g e = absurd cc

pub verdicts : Verdicts
verdicts = record { back = verdict_back; again = verdict_again }

-- `refused`
cut_refused : (n : ℕ) → fields (refused_text n) ≡ refused_word ∷ decimal n ∷ []
cut_refused n = fields_read_back _ _ (and_both _ _ refl (and_both _ _ (no_tab n) refl))

refused_back : (n : ℕ) → n ≤ MOST → refused_of (refused_text n) ≡ Some n
unfolding refused_of pick
refused_back n p = rw (cut_refused n) ((numbers MOST).back n p)

refused_again : (b : List ℕ) (n : ℕ) → refused_of b ≡ Some n → (n ≤ MOST) × (refused_text n ≡ b)
unfolding refused_of pick
refused_again b n e = go (eqb (length (fields b)) 2) (bytes_eq (field_at b 0) refused_word) refl refl e
  where
    go : (t u : Bool) → eqb (length (fields b)) 2 ≡ t → bytes_eq (field_at b 0) refused_word ≡ u → pick t (pick u (number_at b 1) None) None ≡ Some n → (n ≤ MOST) × (refused_text n ≡ b)
    go true true p q e =
        let m = (numbers MOST).again (field_at b 1) n e in
        let word = (bytes_eq-Decides (field_at b 0) refused_word).0 q in
        (m.0, ap (λ (w : List ℕ). joined (w ∷ decimal n ∷ [])) (sym word) ∙ ap (λ (d : List ℕ). joined (field_at b 0 ∷ d ∷ [])) m.1 ∙ line_is b 2 p)
    go true false p q e = absurd cc
    go false u p q e = absurd cc

pub refusals : Refusals
refusals = record { back = refused_back; again = refused_again }

-- a whole ladder
no_feed : (n : ℕ) → free LF (decimal n) ≡ true
no_feed n = free_decimal LF n (omega arith)

free_row : (r : Row) → free LF (row_text r) ≡ true
free_row r =
    free_joined (decimal r.frame) (decimal r.offset ∷ decimal r.bytes ∷ decimal r.cdp ∷ fate_word r.fate ∷ receipt_word r.receipt ∷ [])
    (and_both _ _ (no_feed r.frame) (and_both _ _ (no_feed r.offset) (and_both _ _ (no_feed r.bytes) (and_both _ _ (no_feed r.cdp) (and_both _ _ (free_fate r.fate).1 (and_both _ _ (free_receipt r.receipt).1 refl))))))

free_verdict : (v : Verdict) → free LF (verdict_text v) ≡ true
free_verdict v =
    free_joined (outcome_word v.outcome) (decimal v.number ∷ decimal v.frames ∷ decimal v.faults ∷ decimal v.filled ∷ [])
    (and_both _ _ (free_outcome v.outcome).1 (and_both _ _ (no_feed v.number) (and_both _ _ (no_feed v.frames) (and_both _ _ (no_feed v.faults) (and_both _ _ (no_feed v.filled) refl)))))

free_ladder : (rs : List Row) (v : Verdict) → all_free LF (ladder_lines rs v) ≡ true
free_ladder [] v = and_both _ _ (free_verdict v) refl
free_ladder (r ∷ rs) v = and_both _ _ (free_row r) (free_ladder rs v)

pub ladders_read_back : LaddersReadBack
ladders_read_back rs v = lines_read_back (ladder_lines rs v) (free_ladder rs v)
