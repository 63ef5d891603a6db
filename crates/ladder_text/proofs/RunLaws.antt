-- The two laws of line one.
use Rattle.std.specs.Prelude.{Option, None, Some}
use Prim.Native.Nat.{ℕ}
use mathlib.Core.List.{List, [], ◌∷◌}
use mathlib.Core.Bool.{Bool, true, false}
use mathlib.Core.Path.{◌≡◌, refl, sym, ap, subst}
use native.Mathlib.Omega.{arith}
use lib.ListN.{length, get_or}
use lib.Dec.{eqb}
use borrow.Author.Tests.{leb-true}
use Rattle.ladder_text.specs.Pick.{pick}
use Rattle.ladder_text.specs.Text.{TAB, fields, free}
use Rattle.ladder_text.specs.Decimal.{decimal}
use Rattle.ladder_text.specs.Words.{direction_word, direction_of}
use Rattle.ladder_text.specs.Rows.{field_at, limits, within_limits, run_from, run_of, run_text, quad_at}
use Rattle.ladder_text.specs.declared.types.Quad.{Quad}
use Rattle.ladder_text.specs.Laws.{Runs}
use Rattle.ladder_text.specs.declared.types.Direction.{Direction}
use Rattle.ladder_text.specs.declared.types.Run.{Run}
use Rattle.ladder_text.proofs.Choose.{in_true, this_number, and_both, each}
use Rattle.ladder_text.proofs.Named.{free_decimal}
use Rattle.ladder_text.proofs.Spelling.{directions, free_direction}
use Rattle.ladder_text.proofs.Joined.{fields_read_back}
use Rattle.ladder_text.proofs.Fielded.{line_is, Side, QuadFits, quad_back, quad_again}

abbrev numbers_of : Run → Quad
numbers_of r = record { a = r.count; b = r.size; c = r.window; d = r.limit }

quad_fits : (r : Run) → within_limits r ≡ true → QuadFits (numbers_of r)
quad_fits r p =
    let t = each (limits r) p in
    record { a = omega (arith, leb-true); b = omega (arith, leb-true); c = omega (arith, leb-true); d = omega (arith, leb-true) }

module _ (r : Run) where
  cut_run : fields (run_text r) ≡ direction_word r.direction ∷ decimal r.count ∷ decimal r.size ∷ decimal r.window ∷ decimal r.limit ∷ []
  cut_run =
      let n : (m : ℕ) → free TAB (decimal m) ≡ true = λ m. free_decimal TAB m (omega arith) in
      fields_read_back _ _
      (and_both _ _ (free_direction r.direction).0 (and_both _ _ (n r.count) (and_both _ _ (n r.size) (and_both _ _ (n r.window) (and_both _ _ (n r.limit) refl)))))

  run_back : within_limits r ≡ true → run_of (run_text r) ≡ Some r
  unfolding run_of
  run_back p =
      let at : (i : ℕ) → field_at (run_text r) i ≡ get_or (direction_word r.direction ∷ decimal r.count ∷ decimal r.size ∷ decimal r.window ∷ decimal r.limit ∷ []) i [] = λ i. ap (λ (fs : List (List ℕ)). get_or fs i []) cut_run in
      let side : Side (run_text r) 1 (numbers_of r) = record { a = at 1; b = at 2; c = at 3; d = at 4 } in
      sym
      (this_number 5 None (sym (ap length cut_run)) refl
      (rw (at 0, directions.back r.direction tt, quad_back (run_text r) 1 (numbers_of r) (quad_fits r p) side) (in_true _ _ _ _ p refl)))

within : (s r : Run) (t : Bool) → within_limits s ≡ t → pick t (Some s) None ≡ Some r → (within_limits s ≡ true) × (s ≡ r)
unfolding pick
within s r true p e = (p, cc)
within s r false p e = absurd cc

run_again : (b : List ℕ) (r : Run) → run_of b ≡ Some r → (within_limits r ≡ true) × (run_text r ≡ b)
unfolding run_of pick
run_again b r e = go (eqb (length (fields b)) 5) (direction_of (field_at b 0)) (quad_at b 1) refl refl refl e
  where
    go : (t : Bool) (d : Option Direction) (q : Option Quad) → eqb (length (fields b)) 5 ≡ t → direction_of (field_at b 0) ≡ d → quad_at b 1 ≡ q → pick t (run_from d q) None ≡ Some r → (within_limits r ≡ true) × (run_text r ≡ b)
    go true (Some d) (Some q) p f g e =
        let s : Run = record { direction = d; count = q.a; size = q.b; window = q.c; limit = q.d } in
        let w = within s r (within_limits s) refl e in
        let k = (quad_again b 1 q g).1 in
        let text : run_text s ≡ b = rw ((directions.again (field_at b 0) d f).1, ← k.a, ← k.b, ← k.c, ← k.d) (line_is b 5 p) in
        subst (λ (x : Run). (within_limits x ≡ true) × (run_text x ≡ b)) w.1 (w.0, text)
    go true (Some d) None p f g e = absurd cc
    go true None q p f g e = absurd cc
    go false d q p f g e = absurd cc

pub runs : Runs
runs = record { back = run_back; again = run_again }
