-- The numbers in a value that the code holds are numbers of 32 bits.
use mathlib.Core.List.{List}
use native.Mathlib.Omega.{arith}
use mir.Val.{Val}
use denote.Laws.{Is}
use denote.Struct.Declared.{row}
use denote.Enum.Declared as enum
use Rattle.ladder_text.specs.Laws.{ReceiptFits, RunFits, RowFits, VerdictFits}
use Rattle.ladder_text.specs.declared.types.Receipt.{Receipt}
use Rattle.ladder_text.specs.declared.types.Receipt.TheVariants.{Stored, Discarded, Nothing, Number}
use Rattle.ladder_text.specs.declared.types.Run.{Run}
use Rattle.ladder_text.specs.declared.types.Row.{Row}
use Rattle.ladder_text.specs.declared.types.Verdict.{Verdict}
use Rattle.ladder_text.specs.contracts.types.Receipt as receipt
use Rattle.ladder_text.specs.contracts.types.Run as run
use Rattle.ladder_text.specs.contracts.types.Row as row_of
use Rattle.ladder_text.specs.contracts.types.Verdict as verdict

pub receipt_fits : (x : Receipt) (vs : List Val) → Is (enum.row receipt.the_type) x vs → ReceiptFits x
receipt_fits Stored vs p = tt
receipt_fits Discarded vs p = tt
receipt_fits Nothing vs p = tt
receipt_fits (Number n) vs p = omega (arith, p.1.1.1.1.0.1)

pub run_fits : (r : Run) (vs : List Val) → Is (row run.the_type) r vs → RunFits r
run_fits r vs p =
    let f = p.1.1.1 in
    record { count = omega (arith, f.0.1); size = omega (arith, f.1.0.1); window = omega (arith, f.1.1.0.1); limit = omega (arith, f.1.1.1.0.1) }

pub row_fits : (r : Row) (vs : List Val) → Is (row row_of.the_type) r vs → RowFits r
row_fits r vs p =
    let f = p.1.1 in
    record {
      frame = omega (arith, f.0.1);
      offset = omega (arith, f.1.0.1);
      bytes = omega (arith, f.1.1.0.1);
      cdp = omega (arith, f.1.1.1.0.1);
      receipt = receipt_fits r.receipt _ f.1.1.1.1.1.0;
    }

pub verdict_fits : (v : Verdict) (vs : List Val) → Is (row verdict.the_type) v vs → VerdictFits v
verdict_fits v vs p =
    let f = p.1.1.1 in
    record { number = omega (arith, f.0.1); frames = omega (arith, f.1.0.1); faults = omega (arith, f.1.1.0.1); filled = omega (arith, f.1.1.1.0.1) }
