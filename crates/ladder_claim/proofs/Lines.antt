-- The next line of a ladder: a row of one more frame, or the verdict once the sending port has reported; and so the whole ladder. Said together with any `On` that a frame
-- asked for and a round's end keep: what stands between two lines, of the ladder, its received data and its rows so far.
use Prim.Native.Nat.{ℕ, zero, suc, ◌+◌, ◌<◌}
use mathlib.Core.List.{List, [], ◌∷◌, ◌++◌, append-nil, append_assoc}
use mathlib.Core.Bool.{false, ◌&&◌}
use mathlib.Core.Logic.{◌⊎◌, inl, inr}
use mathlib.Core.Path.{◌≡◌, refl, sym, subst, ◌∙◌}
use native.Mathlib.Omega.{arith}
use lib.Dec.{leb, ltb}
use lib.ListN.{length}
use Rattle.std.specs.Prelude.{Option, Some, None}
use Rattle.status.specs.Pick.{pick}
use Rattle.ladder_text.specs.declared.types.Row.{Row}
use Rattle.ladder_text.specs.declared.types.Verdict.{Verdict}
use Rattle.ladder_run.specs.Ends.{ask_of, past_of}
use Rattle.ladder_run.specs.Row.{NextLine, area, silent, ROWS-MOST, COUNT-MOST, Sent, next_line_by, nothing_of, asked_by, out_of}
use Rattle.ladder_run.specs.Round.{closed_of}
use Rattle.ladder_run.specs.Line.{begins, firstly, line_of}
use Rattle.ladder_run.specs.Whole.{Whole, onward, climb}
use Rattle.ladder_run.specs.declared.types.Ladder.{Ladder}
use Rattle.ladder_run.specs.declared.types.Line.{Line}
use Rattle.ladder_run.specs.declared.types.Line.TheVariants as line
use Rattle.ladder_claim.proofs.Course.{Course, j_most}
use Rattle.ladder_claim.proofs.Going.{Live, Reports, Done}
use Rattle.ladder_claim.proofs.Handing.{Asked, outs}
use Rattle.ladder_claim.proofs.Answered.{closes, closed_frames}

-- no frame is asked for any more
pub over : (l : Ladder) (fs d b : List ℕ) → silent l.report ≡ false → out_of l fs d b ≡ next_line_by (nothing_of l l.sending) b
unfolding out_of pick
over l fs d b e i = pick (e i && ltb l.frames ROWS-MOST && leb (past_of l.sending) COUNT-MOST) (asked_by l (ask_of l.sending d area) fs b) (next_line_by (nothing_of l l.sending) b)

module _ (C : Course) (fs d : List ℕ) (lists : length fs ≡ C.listed) (sent : length d ≡ C.t.count) (On Waits : Ladder → List ℕ → List Row → Type 0) where
  -- behind a frame asked for: a row more, or the round waits for its end
  abbrev pub After : List Row → Sent → Option Row → Type 0
  After rows x (Some r) = On x.ladder x.received (rows ++ (r ∷ []))
  After rows x None = Waits x.ladder x.received rows

  -- the line x behind these rows, of a ladder that had handed out n frames
  data Lined (n : ℕ) (rows : List Row) (x : NextLine Line) : Type 0 where
    row : (r : Row) → x.line ≡ line.Row r → Live C x.ladder → x.ladder.frames ≡ n + 1 → On x.ladder x.received (rows ++ (r ∷ [])) → Lined n rows x
    verdict : (v : Verdict) → x.line ≡ line.Verdict v → Done C x.ladder → x.ladder.frames ≡ n → x.ladder.before ≡ x.ladder.frames → On x.ladder x.received rows → Lined n rows x

  -- the whole ladder x behind these rows, from one that had handed out n frames
  pub record Climbed (n : ℕ) (rows : List Row) (x : Whole) : Type 0 where
    pub reports : Reports C x.last.report x.last.frames
    pub frames : x.last.frames ≡ n + length x.rows
    pub over : x.last.before ≡ x.last.frames
    pub stands : On x.last x.received (rows ++ x.rows)

  -- the round that is over has no frame
  shuts : (l : Ladder) → (closed_of fs l).before ≡ (closed_of fs l).frames
  unfolding closed_of
  shuts l = refl

  module _ (asks : (l : Ladder) (b : List ℕ) (rows : List Row) → Live C l → On l b rows → After rows (out_of l fs d b) (out_of l fs d b).line) (close : (l : Ladder) (b : List ℕ) (rows : List Row) → Waits l b rows → On (closed_of fs l) b rows) where
    -- a round is over: the first row of the next one, or the verdict
    begun : (l : Ladder) (b : List ℕ) (rows : List Row) → (Live C l × (l.before ≡ l.frames)) ⊎ Done C l → l.before ≡ l.frames → On l b rows → Lined l.frames rows (begins fs (out_of l fs d b))
    begun l b rows (inl v) same g = go (out_of l fs d b) (outs C fs d sent l v.0 b) (asks l b rows v.0 g)
      where
        go : (x : Sent) → Asked C fs d sent l x → After rows x x.line → Lined l.frames rows (begins fs x)
        go x (Asked.row r e w f) a = let h = subst (After rows x) e a in rw e (Lined.row r refl w f h)
        go x (Asked.none e w f u h) a = absurd (omega (arith, v.1))
    begun l b rows (inr q) same g = subst (λ (x : Sent). Lined l.frames rows (begins fs x)) (sym (over l fs d b q.reported)) (Lined.verdict _ refl q refl same g)

    lines : (l : Ladder) (b : List ℕ) (rows : List Row) → Live C l → On l b rows → Lined l.frames rows (line_of l fs d b)
    unfolding line_of
    lines l b rows v g = go (out_of l fs d b) (outs C fs d sent l v b) (asks l b rows v g)
      where
        go : (x : Sent) → Asked C fs d sent l x → After rows x x.line → Lined l.frames rows (firstly fs d x.ladder x.line x.received)
        go x (Asked.row r e w f) a = let h = subst (After rows x) e a in rw e (Lined.row r refl w f h)
        go x (Asked.none e w f u h) a =
            let k : x.ladder.before < x.ladder.frames = omega arith in
            let n : (closed_of fs x.ladder).frames ≡ l.frames = closed_frames C fs lists x.ladder w k ∙ f in
            let c = close x.ladder x.received rows (subst (After rows x) e a) in
            rw e (subst (λ (m : ℕ). Lined m rows (begins fs (out_of (closed_of fs x.ladder) fs d x.received))) n (begun (closed_of fs x.ladder) x.received rows (closes C fs lists x.ladder w k) (shuts x.ladder) c))

    pub climbs : (k : ℕ) (l : Ladder) (b : List ℕ) (rows : List Row) → Live C l → ROWS-MOST < k + l.frames → On l b rows → Climbed l.frames rows (climb k fs d l b)
    climbs zero l b rows v h g =
        let w = v.going in
        let f = C.few in
        absurd (omega (arith, w.bound, j_most C w.s l.frames w.j w.m w.on))
    climbs (suc k) l b rows v h g = go (λ m c rs w n a. climbs k m c rs w n a) (line_of l fs d b) (lines l b rows v g)
      where
        go : ((m : Ladder) (c : List ℕ) (rs : List Row) → Live C m → ROWS-MOST < k + m.frames → On m c rs → Climbed m.frames rs (climb k fs d m c)) →
            (x : NextLine Line) → Lined l.frames rows x → Climbed l.frames rows (onward x.line x.ladder x.received (λ m c. climb k fs d m c))
        go on x (Lined.row r e w f a) =
            let c = on x.ladder x.received (rows ++ (r ∷ [])) w (omega arith) a in
            let y = climb k fs d x.ladder x.received in
            rw e
            (record {
              reports = c.reports;
              frames = omega (arith, c.frames);
              over = c.over;
              stands = subst (On y.last y.received) (append_assoc rows (r ∷ []) _) c.stands;
            })
        go on x (Lined.verdict q e w f s a) = rw e (record { reports = w; frames = omega arith; over = s; stands = subst (On x.ladder x.received) (sym (append-nil rows)) a })

-- of every list of fates: the report and the count of rows alone
abbrev pub Any : Ladder → List ℕ → List Row → Type 0
Any l b rows = Unit {0}

module _ (C : Course) (fs d : List ℕ) (lists : length fs ≡ C.listed) (sent : length d ≡ C.t.count) where
  any : (rows : List Row) (x : Sent) (t : Option Row) → After C fs d lists sent Any Any rows x t
  any rows x (Some r) = tt
  any rows x None = tt

  pub climbs_any : (k : ℕ) (l : Ladder) (b : List ℕ) → Live C l → ROWS-MOST < k + l.frames → Climbed C fs d lists sent Any Any l.frames [] (climb k fs d l b)
  climbs_any k l b v h = climbs C fs d lists sent Any Any (λ m c rows w g. any rows (out_of m fs d c) (out_of m fs d c).line) (λ m c rows g. tt) k l b [] v h tt
