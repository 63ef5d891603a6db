-- How long a number and a line can be.
use Prim.Native.Nat.{ℕ, zero, suc, ◌/◌, ◌^◌, ◌≤◌, ◌<◌}
use mathlib.Core.Bool.{Bool, true, false}
use mathlib.Core.Path.{◌≡◌, refl}
use native.Mathlib.Nat.{pow-suc}
use native.Mathlib.Omega.{arith}
use lib.ListN.{length, length-append}
use lib.Dec.{ltb}
use borrow.Author.Tests.{ltb-true, ltb-false}
use Rattle.ladder_text.specs.Decimal.{decimal}
use Rattle.ladder_text.specs.Words.{MOST, direction_word, fate_word, receipt_word, outcome_word}
use Rattle.ladder_text.specs.Rows.{run_text, row_text, verdict_text, refused_text}
use Rattle.ladder_text.specs.Place.{line_text}
use Rattle.ladder_text.specs.Laws.{ReceiptFits, RunFits, RowFits, VerdictFits, Short, WithinRoom}
use Rattle.ladder_text.specs.declared.types.Direction.{Direction}
use Rattle.ladder_text.specs.declared.types.Direction.TheVariants.{Read, Write}
use Rattle.ladder_text.specs.declared.types.Fate.{Fate}
use Rattle.ladder_text.specs.declared.types.Fate.TheVariants.{Ok, Noack, Bad, Nonak, Lost}
use Rattle.ladder_text.specs.declared.types.Receipt.{Receipt}
use Rattle.ladder_text.specs.declared.types.Receipt.TheVariants as receipt
use Rattle.ladder_text.specs.declared.types.Outcome.{Outcome}
use Rattle.ladder_text.specs.declared.types.Outcome.TheVariants.{Delivered, Failed}
use Rattle.ladder_text.specs.declared.types.Run.{Run}
use Rattle.ladder_text.specs.declared.types.Row.{Row}
use Rattle.ladder_text.specs.declared.types.Verdict.{Verdict}
use Rattle.ladder_text.proofs.Printed.{one_long, more_long}

-- a number below ten to the power k + 1 has at most k + 1 digits
pub digits_most : (k n : ℕ) → n < 10 ^ suc k → length (decimal n) ≤ suc k
digits_most zero n p = omega (arith, one_long n (omega arith))
digits_most (suc k) n p = go (ltb n 10) refl (digits_most k (n / 10) (omega (arith, pow-suc 10 (suc k))))
  where
    go : (t : Bool) → ltb n 10 ≡ t → length (decimal (n / 10)) ≤ suc k → length (decimal n) ≤ suc (suc k)
    go true e h = omega (arith, one_long n (ltb-true n 10 e))
    go false e h = omega (arith, more_long n (ltb-false n 10 e))

pub ten : (n : ℕ) → n ≤ MOST → length (decimal n) ≤ 10
ten n p = digits_most 9 n (omega arith)

direction_most : (d : Direction) → length (direction_word d) ≤ 5
direction_most Read = omega arith
direction_most Write = omega arith

pub fate_most : (f : Fate) → length (fate_word f) ≤ 5
fate_most Ok = omega arith
fate_most Noack = omega arith
fate_most Bad = omega arith
fate_most Nonak = omega arith
fate_most Lost = omega arith

pub fate_least : (f : Fate) → 2 ≤ length (fate_word f)
fate_least Ok = omega arith
fate_least Noack = omega arith
fate_least Bad = omega arith
fate_least Nonak = omega arith
fate_least Lost = omega arith

receipt_most : (x : Receipt) → ReceiptFits x → length (receipt_word x) ≤ 10
receipt_most receipt.Stored p = omega arith
receipt_most receipt.Discarded p = omega arith
receipt_most receipt.Nothing p = omega arith
receipt_most (receipt.Number n) p = ten n p

pub outcome_most : (o : Outcome) → length (outcome_word o) ≤ 9
outcome_most Delivered = omega arith
outcome_most Failed = omega arith

run_most : (r : Run) → RunFits r → length (line_text (run_text r)) ≤ 50
run_most r f =
    simp length-append
    (omega (arith, direction_most r.direction, ten r.count f.count, ten r.size f.size, ten r.window f.window, ten r.limit f.limit))

row_most : (r : Row) → RowFits r → length (line_text (row_text r)) ≤ 61
row_most r f =
    simp length-append
    (omega (arith, ten r.frame f.frame, ten r.offset f.offset, ten r.bytes f.bytes, ten r.cdp f.cdp, fate_most r.fate, receipt_most r.receipt f.receipt))

verdict_most : (v : Verdict) → VerdictFits v → length (line_text (verdict_text v)) ≤ 54
verdict_most v f =
    simp length-append
    (omega (arith, outcome_most v.outcome, ten v.number f.number, ten v.frames f.frames, ten v.faults f.faults, ten v.filled f.filled))

refused_most : (n : ℕ) → n ≤ MOST → length (line_text (refused_text n)) ≤ 19
refused_most n p = simp length-append (omega (arith, ten n p))

pub short : Short
short = record { run = run_most; row = row_most; verdict = verdict_most; refused = refused_most }

pub within_room : WithinRoom
within_room =
    record {
      number = λ n p. omega (arith, ten n p);
      direction = λ d. omega (arith, direction_most d);
      fate = λ f. omega (arith, fate_most f);
      receipt = λ x p. omega (arith, receipt_most x p);
      outcome = λ o. omega (arith, outcome_most o);
      cell = λ n end p. simp length-append (omega (arith, ten n p));
      fate_cell = λ f end. simp length-append (omega (arith, fate_most f));
      run = λ r p. omega (arith, run_most r p);
      row = λ r p. omega (arith, row_most r p);
      verdict = λ v p. omega (arith, verdict_most v p);
      refused = λ n p. omega (arith, refused_most n p);
    }
