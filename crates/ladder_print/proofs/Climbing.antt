-- Lines printed one below the other: what stands printed, and what is still to come, is the whole ladder.
use Rattle.std.specs.Prelude.{Option, Some, None}
use Prim.Native.Nat.{ℕ, zero, suc, ◌+◌, ◌-◌, ◌*◌, ◌≤◌, ◌<◌}
use mathlib.Core.List.{List, [], ◌∷◌, ◌++◌, map, append_assoc, append-nil}
use mathlib.Core.Path.{◌≡◌, refl, sym, ap, subst, ◌∙◌}
use native.Mathlib.Omega.{arith}
use lib.ListN.{length, length-append}
use Rattle.ladder_text.specs.Text.{LF, unlines}
use Rattle.ladder_text.specs.Rows.{row_text, verdict_text}
use Rattle.ladder_text.specs.Place.{Puts, Placed, line_text}
use Rattle.ladder_text.specs.declared.types.Row.{Row}
use Rattle.ladder_text.specs.declared.types.Verdict.{Verdict}
use Rattle.ladder_text.proofs.Joined.{lines_behind}
use Rattle.ladder_run.specs.Row.{NextLine, next_line_by}
use Rattle.ladder_run.specs.Line.{line_of, verdict_of}
use Rattle.ladder_run.specs.Whole.{Whole, above, onward, climb}
use Rattle.ladder_run.specs.declared.types.Ladder.{Ladder}
use Rattle.ladder_run.specs.declared.types.Line.{Line}
use Rattle.ladder_run.specs.declared.types.Line.TheVariants as line
use Rattle.ladder_run.specs.declared.types.Next.{Next}
use Rattle.ladder_run.proofs.Small.{small_lines}
use Rattle.ladder_print.specs.Text.{whole_text}
use Rattle.ladder_print.specs.Room.{Tries}
use Rattle.ladder_print.proofs.Tried.{tries_text, tries_short}
use Rattle.ladder_print.proofs.Behind.{put_room, put_short, Front, front_none, front_more, front_puts, front_length, puts_as}

abbrev pub rows_text : List Row → List ℕ
rows_text rs = unlines (map row_text rs)

-- of fates fs, sent data d and a buffer that was out₀: `left` lines at most are to come from the ladder l
pub record Climbing (fs d out₀ : List ℕ) (w : Whole) (b out : List ℕ) (l : Ladder) (at left : ℕ) : Type 0 where
  pub text : List ℕ
  pub front : Front out₀ text at out
  pub rows : text ++ rows_text (climb left fs d l b).rows ≡ rows_text w.rows
  pub last : (climb left fs d l b).last ≡ w.last
  pub room : at + 35 * left ≤ 1_340_220
  pub within : at ≤ length out₀

pub climbing_first : (fs d out b : List ℕ) (l : Ladder) (k : ℕ) → 35 * k ≤ 1_340_220 → Climbing fs d out (climb k fs d l b) b out l 0 k
climbing_first fs d out b l k m = record { text = []; front = front_none out; rows = refl; last = refl; room = omega arith; within = omega arith }

module _ (fs d b : List ℕ) (l : Ladder) {x : Next Line} {c : List ℕ} (h : next_line_by x c ≡ line_of l fs d b) where
  goes : (k : ℕ) → climb (suc k) fs d l b ≡ onward x.line x.ladder c (λ m e. climb k fs d m e)
  goes k = ap (λ (v : NextLine Line). onward v.line v.ladder v.received (λ m e. climb k fs d m e)) (sym h)

  pub goes_row : (k : ℕ) {r : Row} → x.line ≡ line.Row r → climb (suc k) fs d l b ≡ above r (climb k fs d x.ladder c)
  goes_row k p = goes k ∙ ap (λ (v : Line). onward v x.ladder c (λ m e. climb k fs d m e)) p

  pub goes_over : (k : ℕ) {v : Verdict} → x.line ≡ line.Verdict v → climb (suc k) fs d l b ≡ climb zero fs d x.ladder c
  goes_over k p = goes k ∙ ap (λ (v : Line). onward v x.ladder c (λ m e. climb k fs d m e)) p

  pub row_short : {r : Row} → x.line ≡ line.Row r → length (line_text (row_text r)) ≤ 35
  row_short {r} p = (small_lines l fs d b r (ap (λ (v : NextLine Line). v.line) (sym h) ∙ p)).text

module _ {fs d out₀ : List ℕ} {w : Whole} {b out : List ℕ} {l : Ladder} {at left : ℕ} (g : Climbing fs d out₀ w b out l at left) where
  pub out_length : length out ≡ length out₀
  out_length = front_length g.front g.within

  -- there is no room for a line
  pub climbing_short : length out < at + 64 → (length out₀ < 1_340_284) × (length out₀ < length (whole_text fs w) + 64)
  climbing_short m =
      let rest = rows_text (climb left fs d l b).rows in
      let end = unlines (verdict_text (verdict_of fs w.last) ∷ []) in
      let whole : length (whole_text fs w) ≡ length (rows_text w.rows) + length end =
      ap length (lines_behind (map row_text w.rows) (verdict_text (verdict_of fs w.last) ∷ [])) ∙ length-append (rows_text w.rows) end in
      let rows : length (rows_text w.rows) ≡ length g.text + length rest = ap length (sym g.rows) ∙ length-append g.text rest in
      (omega (arith, g.room, out_length), omega (arith, whole, rows, g.front.place, out_length))

  module _ {x : Next Line} {c : List ℕ} (h : next_line_by x c ≡ line_of l fs d b) (some : 0 < left) where
    as_suc : left ≡ suc (left - 1)
    as_suc = omega arith

    -- a row was printed
    pub climbing_row_if_room : {r : Row} {n : ℕ} {e : List ℕ} → at + 64 ≤ length out → x.line ≡ line.Row r → Puts out at (line_text (row_text r)) n e → Climbing fs d out₀ w c e x.ladder n (left - 1)
    climbing_row_if_room {r} {n} {e} m p q =
        let rest = climb (left - 1) fs d x.ladder c in
        let s = line_text (row_text r) in
        let k : climb left fs d l b ≡ above r rest = ap (λ (v : ℕ). climb v fs d l b) as_suc ∙ goes_row fs d b l h (left - 1) p in
        let short = row_short fs d b l h p in
        let under : s ++ rows_text rest.rows ≡ rows_text (r ∷ rest.rows) = append_assoc (row_text r) (LF ∷ []) (rows_text rest.rows) in
        record {
          text = g.text ++ s;
          front = front_more s g.front (omega (arith, short, out_length)) q;
          rows = append_assoc g.text s (rows_text rest.rows) ∙ ap (λ (v : List ℕ). g.text ++ v) under ∙ ap (λ (v : Whole). g.text ++ rows_text v.rows) (sym k) ∙ g.rows;
          last = ap (λ (v : Whole). v.last) (sym k) ∙ g.last;
          room = omega (arith, short, g.room, q.0);
          within = omega (arith, short, q.0, out_length);
        }

    -- a row was put behind the others: `k` lines are left
    pub climbing_next : (k : ℕ) → left ≡ k + 1 → {r : Row} {a : Option ℕ} {n : ℕ} {e : List ℕ} → x.line ≡ line.Row r → Placed out at (line_text (row_text r)) a e → a ≡ Some n → Climbing fs d out₀ w c e x.ladder n k
    climbing_next k z {r} {a} {n} {e} p q s =
        let h = put_room out at (line_text (row_text r)) q s in
        subst (λ (j : ℕ). Climbing fs d out₀ w c e x.ladder n j) (omega (arith, z)) (climbing_row_if_room h.0 p h.1)

    -- the ladder is over
    pub climbing_over : {v : Verdict} → x.line ≡ line.Verdict v → Climbing fs d out₀ w c out x.ladder at 0
    climbing_over p =
        let k : climb left fs d l b ≡ climb zero fs d x.ladder c = ap (λ (v : ℕ). climb v fs d l b) as_suc ∙ goes_over fs d b l h (left - 1) p in
        record {
          text = g.text;
          front = g.front;
          rows = ap (λ (v : Whole). g.text ++ rows_text v.rows) (sym k) ∙ g.rows;
          last = ap (λ (v : Whole). v.last) (sym k) ∙ g.last;
          room = omega (arith, g.room);
          within = g.within;
        }

  -- it has no room
  pub climbing_stuck : (r : Row) {a b : Option ℕ} {c e : List ℕ} → Placed out at (line_text (row_text r)) a c → a ≡ None → b ≡ None → Tries (whole_text fs w) out₀ b e
  climbing_stuck r {b = b} {e = e} q s p = subst (λ (v : Option ℕ). Tries (whole_text fs w) out₀ v e) (sym p) (tries_short (climbing_short (put_short out at (line_text (row_text r)) q s)))

  -- no line is to come: the verdict
  pub climbed_if_room : {v : Verdict} {n : ℕ} {e : List ℕ} → left ≡ 0 → v ≡ verdict_of fs l → at + length (line_text (verdict_text v)) ≤ length out → Puts out at (line_text (verdict_text v)) n e → Puts out₀ 0 (whole_text fs w) n e
  climbed_if_room {v} z p m q =
      let k : climb left fs d l b ≡ climb zero fs d l b = ap (λ (j : ℕ). climb j fs d l b) z in
      let rows : g.text ≡ rows_text w.rows = sym (append-nil g.text) ∙ ap (λ (j : Whole). g.text ++ rows_text j.rows) (sym k) ∙ g.rows in
      let last : l ≡ w.last = ap (λ (j : Whole). j.last) (sym k) ∙ g.last in
      let whole : g.text ++ line_text (verdict_text v) ≡ whole_text fs w =
      (λ i. rows i ++ line_text (verdict_text ((p ∙ ap (verdict_of fs) last) i))) ∙ sym (lines_behind (map row_text w.rows) (verdict_text (verdict_of fs w.last) ∷ [])) in
      puts_as out₀ 0 whole (front_puts (front_more (line_text (verdict_text v)) g.front (omega (arith, out_length)) q))

  -- the verdict is put behind the rows, or has no room
  pub climbed_tries : {v : Verdict} {r : Option ℕ} {e : List ℕ} → left ≡ 0 → v ≡ verdict_of fs l → length (line_text (verdict_text v)) ≤ 64 → Placed out at (line_text (verdict_text v)) r e → Tries (whole_text fs w) out₀ r e
  climbed_tries {v} {r = Some n} z p m q =
      let h = put_room out at (line_text (verdict_text v)) q refl in
      tries_text (climbed_if_room z p (omega arith) h.1) (omega (arith, h.1.0, g.room))
  climbed_tries {v} {r = None} z p m q = tries_short (climbing_short (put_short out at (line_text (verdict_text v)) q refl))

-- the same with room for every ladder
module _ {fs d out₀ : List ℕ} {w : Whole} {b out : List ℕ} {l : Ladder} {at left : ℕ} (g : Climbing fs d out₀ w b out l at left) (enough : 1_340_284 ≤ length out₀) where
  pub room_now : at + 64 ≤ length out
  room_now = omega (arith, g.room, out_length g)

  pub climbing_row : {x : Next Line} {c : List ℕ} (h : next_line_by x c ≡ line_of l fs d b) (some : 0 < left) {r : Row} {n : ℕ} {e : List ℕ} → x.line ≡ line.Row r → Puts out at (line_text (row_text r)) n e → Climbing fs d out₀ w c e x.ladder n (left - 1)
  climbing_row h some p q = climbing_row_if_room g h some room_now p q

  pub climbed : {v : Verdict} {n : ℕ} {e : List ℕ} → left ≡ 0 → v ≡ verdict_of fs l → at + length (line_text (verdict_text v)) ≤ length out₀ → Puts out at (line_text (verdict_text v)) n e → Puts out₀ 0 (whole_text fs w) n e
  climbed z p m q = climbed_if_room g z p (omega (arith, m, out_length g)) q
