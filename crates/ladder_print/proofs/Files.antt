-- What a run file that was read gives a run: a count within its limit, and few fates.
use Rattle.std.specs.Prelude.{Some, Result}
use Prim.Native.Nat.{ℕ, ◌*◌, ◌≤◌}
use mathlib.Core.Bool.{Bool, true, false}
use mathlib.Core.List.{List, [], ◌∷◌}
use mathlib.Core.Path.{◌≡◌, refl}
use native.Mathlib.Omega.{arith}
use borrow.Author.Tests.{leb-true}
use lib.ListN.{length, length-append}
use lib.Dec.{leb}
use Rattle.ladder_text.specs.Pick as text
use Rattle.ladder_text.specs.Words.{direction_word}
use Rattle.ladder_text.specs.Decimal.{decimal}
use Rattle.ladder_text.specs.Text.{lines, tabbed}
use Rattle.ladder_text.specs.Rows.{limits, run_text}
use Rattle.ladder_text.specs.RunFile.{MOST-BYTES, taken, refused, from_lines, file_of, fates_at}
use Rattle.ladder_text.specs.declared.types.Direction.{Direction}
use Rattle.ladder_text.specs.declared.types.Direction.TheVariants.{Read, Write}
use Rattle.ladder_text.specs.declared.types.Run.{Run}
use Rattle.ladder_text.proofs.Choose.{each}
use Rattle.ladder_text.proofs.FileLaws.{files_print_again, few_fates}
use Rattle.ladder_text.specs.Place.{Puts}
use Rattle.ladder_text.specs.declared.types.RunFile.{RunFile}
use Rattle.ladder_text.specs.declared.types.Misfit.{Misfit}
use Rattle.ladder_print.specs.Text.{TEXT-MOST, of_file, text_of, Prints}
use Rattle.ladder_print.proofs.Tried as tried

direction_least : (d : Direction) → 4 ≤ length (direction_word d)
direction_least Read = omega arith
direction_least Write = omega arith

one_least : (r : Run) → 4 ≤ length (run_text r)
one_least r =
    omega (arith, length-append (direction_word r.direction) (tabbed (decimal r.count ∷ decimal r.size ∷ decimal r.window ∷ decimal r.limit ∷ [])), direction_least r.direction)

-- a file that is taken is no longer than it may be
not_long : (b : List ℕ) (r : Run) (at : ℕ) → file_of b ≡ taken r at → length b ≤ MOST-BYTES
unfolding file_of text.pick
not_long b r at e = go (leb (length b) MOST-BYTES) refl e
  where
    go : (t : Bool) → leb (length b) MOST-BYTES ≡ t → text.pick t (from_lines (lines b)) (refused 0) ≡ taken r at → length b ≤ MOST-BYTES
    go true p q = leb-true _ _ p
    go false p q = let z : ◌≡◌ {A = ℕ} 0 1 = cc in absurd (omega arith)

pub few : (b : List ℕ) (r : Run) (at : ℕ) → file_of b ≡ taken r at → length (fates_at b at) ≤ 21_844
few b r at e = omega (arith, few_fates b r at e, one_least r, not_long b r at e)

-- three bytes for each
pub thirds : (b : List ℕ) (r : Run) (at : ℕ) → file_of b ≡ taken r at → 3 * length (fates_at b at) ≤ length b
thirds b r at e = omega (arith, few_fates b r at e)

pub count_most : (b : List ℕ) (r : Run) (at : ℕ) → file_of b ≡ taken r at → r.count ≤ 65_536
count_most b r at e = leb-true r.count 65_536 (each (limits r) (files_print_again b r at e).0).1.0

-- a text of any file, with room for every ladder
pub printed : (b d : List ℕ) {f : Result RunFile Misfit} {n : ℕ} {e : List ℕ} → TEXT-MOST ≤ length d → f ≡ file_of b → Puts d 0 (of_file f b) n e → n ≤ TEXT-MOST → Prints (text_of b) d (Some n) e
printed b d {n = n} m p h k = tried.printed (Some n) m (tried.tries_file b p (tried.tries_text h k))
