-- The line at a place of a file, and the lines behind it.
use Rattle.std.proofs.lemmas.Result.{err_from_is_err_and}
use Rattle.std.specs.Prelude.{Some, is_some}
use Prim.Native.Nat.{ℕ, ◌+◌, ◌≤◌, ◌<◌}
use mathlib.Core.List.{List, [], ◌∷◌}
use mathlib.Core.Path.{◌≡◌, refl, sym, ap}
use native.Mathlib.Numerals.{add-one}
use native.Mathlib.Omega.{arith}
use borrow.Author.Tests.{le-leb, lt-leb}
use lib.ListN.{length, drop, length-drop, drop_of_length-le}
use Rattle.ladder_text.specs.Pick.{pick}
use Rattle.ladder_text.specs.Text.{LF, lines, fields, before, behind}
use Rattle.ladder_text.specs.Words.{fate_of}
use Rattle.ladder_text.specs.Rows.{run_of}
use Rattle.ladder_text.specs.RunFile.{MOST-BYTES, misfit, refused, after_one, file_of}
use Rattle.ladder_text.proofs.Choose.{in_true, in_false}
use Rattle.ladder_text.proofs.Cut.{drop_before, first_line, next_place}

pub some_lines : (b : List ℕ) → 0 < length b → lines b ≡ before LF b ∷ lines (behind LF b)
some_lines [] p = absurd (omega arith)
some_lines (x ∷ xs) p = first_line x xs

pub lines_at : (s : List ℕ) (at : ℕ) → at < length s → lines (drop at s) ≡ before LF (drop at s) ∷ lines (drop (at + length (before LF (drop at s)) + 1) s)
lines_at s at p = rw (next_place LF at s) (some_lines (drop at s) (omega (arith, length-drop at s)))

pub lines_end : (s : List ℕ) (at : ℕ) → length s ≤ at → lines (drop at s) ≡ []
unfolding lines
lines_end s at p = ap lines (drop_of_length-le s p)

-- the line at place `at`, a fate or not
pub misfit_at : (s : List ℕ) (at n : ℕ) → at < length s → misfit n (lines (drop at s)) ≡ pick (is_some (fate_of (before LF (drop at s)))) (misfit (n + 1) (lines (drop (at + (length (before LF (drop at s)) + 1)) s))) (Some n)
misfit_at s at n p =
    let sums : at + (length (before LF (drop at s)) + 1) ≡ at + length (before LF (drop at s)) + 1 = omega arith in
    rw (lines_at s at p, sums) refl

pub ruleset line_by_line = (misfit_at, lines_end)

-- the whole file
pub too_long : (b : List ℕ) → MOST-BYTES < length b → file_of b ≡ refused 0
unfolding file_of
too_long b p = sym (in_false _ _ _ _ (lt-leb (length b) MOST-BYTES p) refl)

pub of_lines : (b : List ℕ) → length b ≤ MOST-BYTES → file_of b ≡ after_one (run_of (before LF b)) (length (before LF b) + 1) (lines (drop (length (before LF b) + 1) b))
unfolding file_of lines fields run_of pick
of_lines [] p = refl
of_lines (x ∷ xs) p =
    let b = x ∷ xs in
    let n = length (before LF b) in
    let rest : drop (n + 1) b ≡ behind LF b = rw (add-one n) (drop_before LF b) in
    let cut : lines b ≡ before LF b ∷ lines (drop (n + 1) b) = rw rest (some_lines b (omega arith)) in
    sym (in_true _ _ _ _ (le-leb (length b) MOST-BYTES p) (rw cut refl))

pub ruleset whole_file = (too_long, of_lines, err_from_is_err_and)
