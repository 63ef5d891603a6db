use Rattle.std.proofs.Common.{◌≡◌, ℕ, ◌+◌, ◌-◌, ◌≤◌, List, ◌++◌, arith, length, take, drop, sym, ap, ◌∙◌, subst, le_refl, drop_at, length-take-le, length-append, length-take, length-drop}
use Rattle.std.proofs.lemmas.Slice.{take-put_mid_below}
use Rattle.std.specs.Io.KnownBytes.{Consumes, Keeps}
use Rattle.std.proofs.KnownBytes.{Consumes-trans, Consumes-kept}
use Rattle.std.specs.Prelude.{Option}
use borrow.Rule.Slice.PartMut.{put_mid, post_of}
use lib.Seq.{take-add, take-append-le}
use Rattle.ladder.proofs.read_full.Goals as goal
use Rattle.ladder.proofs.read_full.Goals.{in-Ok, in-Err+else-ne}

-- xs, of which n bytes were read, and ys in place of the others
module _ (a b c : Option (List ℕ)) (n : ℕ) (xs ys : List ℕ) (within : n ≤ length xs) (long : length ys ≡ length xs - n) (read : Consumes a b (take n xs)) where
  abbrev all : List ℕ
  all = put_mid n (length xs - n) xs ys

  long_all : n + length ys ≤ length all
  long_all = simp (length-append, length-take, length-drop) (omega arith)

  front : take n all ≡ take n xs
  front = take-put_mid_below _ _ _ _ _ (le_refl _) within

  -- m more were read
  more : (m : ℕ) → m ≤ length ys → Consumes b c (take m ys) → (n + m ≤ length all) × Consumes a c (take (n + m) all)
  more m fits got =
      let after = post_of n (length xs - n) xs in
      let behind : take m (drop n all) ≡ take m ys =
      ap (take m) (drop_at (take n xs) (ys ++ after) n (length-take-le n xs within)) ∙ take-append-le m ys after fits in
      let both : take n xs ++ take m ys ≡ take (n + m) all =
      ap (λ (l : List ℕ). take n xs ++ l) (sym behind) ∙ ap (λ (l : List ℕ). l ++ take m (drop n all)) (sym front) ∙ sym (take-add n m all) in
      (omega (arith, long_all), subst (Consumes a c) both (Consumes-trans a b c _ _ read got))

  -- none was
  none : Keeps b c → (n ≤ length all) × Consumes a c (take n all)
  none kept = (omega (arith, long_all), subst (Consumes a c) (sym front) (Consumes-kept a b c _ read kept))

pub loop-preserved : goal.loop-preserved
loop-preserved g c =
    elim c.match-read.branch [
      | in-Ok w ↦ rw w.n-is (more _ _ _ c.loop.n c.loop.buf c.read.new.buf c.loop.invariant.0 (omega arith) c.loop.invariant.1 _ w.in-Ok.ensures.bound.0 w.in-Ok.ensures.bytes.0)
      | in-Err+else-ne w ↦ rw w.n-is (none _ _ _ c.loop.n c.loop.buf c.read.new.buf c.loop.invariant.0 (omega arith) c.loop.invariant.1 w.in-Err.ensures.bytes)
    ]
