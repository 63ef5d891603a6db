-- The laws of run files.
use Rattle.std.specs.Prelude.{Option, None, Some, is_some}
use Prim.Native.Nat.{ℕ, ◌+◌, ◌*◌, ◌≤◌}
use mathlib.Core.List.{List, [], ◌∷◌, map}
use mathlib.Core.Bool.{Bool, true, false}
use mathlib.Core.Path.{◌≡◌, refl, sym, ap, ◌∙◌}
use native.Mathlib.Numerals.{add-one}
use native.Mathlib.Omega.{arith}
use lib.ListN.{length, drop, length-append}
use lib.Seq.{drop-append-add}
use lib.Dec.{leb, ltb, eqb}
use borrow.Author.Tests.{le-leb, ltb-true, ltb-false}
use Rattle.ladder_text.specs.Pick.{pick}
use Rattle.ladder_text.specs.Text.{LF, lines, unlines, before, behind, free, all_free, finished}
use Rattle.ladder_text.specs.Decimal.{decimal}
use Rattle.ladder_text.specs.Words.{direction_word, fate_word, fate_of}
use Rattle.ladder_text.specs.Rows.{within_limits, run_text, run_of}
use Rattle.ladder_text.specs.RunFile.{MOST-BYTES, file_text, misfit, further_lines, taken, refused, after_one, from_lines, file_of, fate_or, fates_of, fates_at, next_fate}
use Rattle.ladder_text.specs.Laws.{FilesReadBack, FilesPrintAgain, FewFates, InTurn, FatesInTurn}
use Rattle.ladder_text.specs.declared.types.Fate.{Fate}
use Rattle.ladder_text.specs.declared.types.Fate.TheVariants.{Ok}
use Rattle.ladder_text.specs.declared.types.Run.{Run}
use Rattle.ladder_text.specs.declared.types.RunFile.{RunFile}
use Rattle.ladder_text.specs.declared.types.NextFate.{NextFate}
use Rattle.ladder_text.proofs.Choose.{in_true, and_both}
use Rattle.ladder_text.proofs.Named.{free_decimal}
use Rattle.ladder_text.proofs.Spelling.{fates, free_direction, free_fate}
use Rattle.ladder_text.proofs.RunLaws.{runs}
use Rattle.ladder_text.proofs.Joined.{free_joined, lines_read_back, lines_print_again}
use Rattle.ladder_text.proofs.Lengths.{fate_least}
use Rattle.ladder_text.proofs.Cut.{drop_before}
use Rattle.ladder_text.proofs.FileSteps.{some_lines, lines_at, lines_end}

free_run : (r : Run) → free LF (run_text r) ≡ true
free_run r =
    let n : (m : ℕ) → free LF (decimal m) ≡ true = λ m. free_decimal LF m (omega arith) in
    free_joined (direction_word r.direction) (decimal r.count ∷ decimal r.size ∷ decimal r.window ∷ decimal r.limit ∷ [])
    (and_both _ _ (free_direction r.direction).1 (and_both _ _ (n r.count) (and_both _ _ (n r.size) (and_both _ _ (n r.window) (and_both _ _ (n r.limit) refl)))))

free_fates : (fs : List Fate) → all_free LF (map fate_word fs) ≡ true
free_fates [] = refl
free_fates (f ∷ fs) = and_both _ _ (free_fate f).1 (free_fates fs)

-- printed, then read
no_misfit : (n : ℕ) (fs : List Fate) → misfit n (map fate_word fs) ≡ None
unfolding pick
no_misfit n [] = refl
no_misfit n (f ∷ fs) = rw (fates.back f tt) (no_misfit (n + 1) fs)

fates_back : (fs : List Fate) → fates_of (map fate_word fs) ≡ fs
fates_back [] = refl
fates_back (f ∷ fs) = rw (fates.back f tt, fates_back fs) refl

pub files_read_back : FilesReadBack
unfolding file_of
files_read_back r fs w room =
    let t = run_text r in
    let rest = unlines (map fate_word fs) in
    let cut : lines (file_text r fs) ≡ t ∷ map fate_word fs = lines_read_back (t ∷ map fate_word fs) (and_both _ _ (free_run r) (free_fates fs)) in
    let after : drop (length t + 1) (file_text r fs) ≡ rest = drop-append-add t (LF ∷ rest) 1 in
    let further : lines rest ≡ map fate_word fs = lines_read_back (map fate_word fs) (free_fates fs) in
    let whole : taken r (length t + 1) ≡ from_lines (t ∷ map fate_word fs) = rw (runs.back r w, no_misfit 2 fs) refl in
    (sym (in_true _ _ _ _ (le-leb (length (file_text r fs)) MOST-BYTES room) (rw cut whole)), rw (after, further) (fates_back fs))

-- read, then printed
fates_again : (n : ℕ) (ls : List (List ℕ)) → misfit n ls ≡ None → map fate_word (fates_of ls) ≡ ls
unfolding pick
fates_again n [] e = refl
fates_again n (l ∷ ls) e = go (fate_of l) refl e (fates_again (n + 1) ls)
  where
    go : (f : Option Fate) → fate_of l ≡ f → pick (is_some f) (misfit (n + 1) ls) (Some n) ≡ None → (misfit (n + 1) ls ≡ None → map fate_word (fates_of ls) ≡ ls) → fate_word (fate_or (fate_of l)) ∷ map fate_word (fates_of ls) ≡ l ∷ ls
    go (Some f) q e more = rw (q, (fates.again l f q).1, more e) refl
    go None q e more = absurd cc

abbrev file_is : Run → ℕ → RunFile
file_is r at = record { run = r; fates = at }

-- a run file that was taken has one line one, and one place
taken_file : (s r : Run) (at to : ℕ) → taken s at ≡ taken r to → file_is s at ≡ file_is r to
taken_file s r at to e = cc

taken_run : (s r : Run) (at to : ℕ) → taken s at ≡ taken r to → s ≡ r
taken_run s r at to e = ap (λ (x : RunFile). x.run) (taken_file s r at to e)

taken_place : (s r : Run) (at to : ℕ) → taken s at ≡ taken r to → at ≡ to
taken_place s r at to e = ap (λ (x : RunFile). x.fates) (taken_file s r at to e)

module _ (b l : List ℕ) (ls : List (List ℕ)) (r : Run) (at : ℕ) (cut : lines b ≡ l ∷ ls) (rest : ls ≡ lines (drop (length l + 1) b)) where
  again_one : (s : Run) (m : Option ℕ) → misfit 2 ls ≡ m → run_of l ≡ Some s → further_lines s (length l + 1) m ≡ taken r at → (within_limits r ≡ true) × (file_text r (fates_at b at) ≡ finished b)
  unfolding pick
  again_one s None p q e =
      let same : s ≡ r = taken_run s r (length l + 1) at e in
      let place : length l + 1 ≡ at = taken_place s r (length l + 1) at e in
      let a : (within_limits r ≡ true) × (run_text r ≡ l) = runs.again l r (q ∙ ap Some same) in
      let more : map fate_word (fates_at b at) ≡ ls =
      ap (λ (k : ℕ). map fate_word (fates_at b k)) (sym place) ∙ ap (λ (x : List (List ℕ)). map fate_word (fates_of x)) (sym rest) ∙ fates_again 2 ls p in
      (a.0, ap (λ (x : List ℕ). unlines (x ∷ map fate_word (fates_at b at))) a.1 ∙ ap (λ (x : List (List ℕ)). unlines (l ∷ x)) more ∙ ap unlines (sym cut) ∙ lines_print_again b)
  again_one s (Some n) p q e = absurd cc

  again_from : file_of b ≡ taken r at → (within_limits r ≡ true) × (file_text r (fates_at b at) ≡ finished b)
  unfolding file_of pick
  again_from e = go (leb (length b) MOST-BYTES) (run_of l) refl (rw cut at e)
    where
      go : (t : Bool) (m : Option Run) → run_of l ≡ m → pick t (after_one m (length l + 1) ls) (refused 0) ≡ taken r at → (within_limits r ≡ true) × (file_text r (fates_at b at) ≡ finished b)
      go true (Some s) q e = again_one s (misfit 2 ls) refl q e
      go true None q e = absurd cc
      go false m q e = absurd cc

pub files_print_again : FilesPrintAgain
unfolding file_of lines pick
files_print_again [] r at e = absurd cc
files_print_again (x ∷ xs) r at e =
    let b = x ∷ xs in
    let n = length (before LF b) in
    let rest : behind LF b ≡ drop (n + 1) b = rw (add-one n) (sym (drop_before LF b)) in
    again_from b (before LF b) (lines (behind LF b)) r at (some_lines b (omega arith)) (ap lines rest) e

-- three bytes or more for each fate
fates_least : (fs : List Fate) → 3 * length fs ≤ length (unlines (map fate_word fs))
fates_least [] = omega arith
fates_least (f ∷ fs) = omega (arith, length-append (fate_word f) (LF ∷ unlines (map fate_word fs)), fate_least f, fates_least fs)

finished_most : (b : List ℕ) → length (finished b) ≤ length b + 1
unfolding pick
finished_most [] = omega arith
finished_most (x ∷ []) = go (eqb x LF)
  where
    go : (t : Bool) → length (pick t (x ∷ []) (x ∷ LF ∷ [])) ≤ 1 + 1
    go true = omega arith
    go false = omega arith
finished_most (x ∷ y ∷ r) = omega (arith, finished_most (y ∷ r))

pub few_fates : FewFates
few_fates b r at e =
    let fs = fates_at b at in
    omega (arith, ap length (files_print_again b r at e).1, length-append (run_text r) (LF ∷ unlines (map fate_word fs)), fates_least fs, finished_most b)

-- one fate after the other
pub fates_in_turn : FatesInTurn
unfolding next_fate pick
fates_in_turn b at = go (ltb at (length b)) refl
  where
    there : NextFate
    there = record { fate = fate_or (fate_of (before LF (drop at b))); next = at + length (before LF (drop at b)) + 1 }

    past : NextFate
    past = record { fate = Ok; next = at }

    go : (t : Bool) → ltb at (length b) ≡ t → InTurn b at (pick t there past)
    go true p = let c = lines_at b at (ltb-true at (length b) p) in (rw c refl, rw c refl)
    go false p = let c = lines_end b at (ltb-false at (length b) p) in (rw c refl, rw c refl)
