-- What the definitions answer to texts that a reader may ask about. Proved in proofs/WorkedTexts.antt, by computing each.
use Rattle.std.specs.Prelude.{ℕ, List, [], ◌∷◌, ◌≡◌, None, Some}
use Rattle.ladder_text.specs.Text.{bytes, lines, fields}
use Rattle.ladder_text.specs.Lent.{field_start}
use Rattle.ladder_text.specs.Decimal.{number_of}
use Rattle.ladder_text.specs.Words.{MOST}
use Rattle.ladder_text.specs.Rows.{ladder_text, refused_text}
use Rattle.ladder_text.specs.Place.{line_text}
use Rattle.ladder_text.specs.RunFile.{taken, refused, file_of}
use Rattle.ladder_text.specs.declared.types.Direction.TheVariants.{Read}
use Rattle.ladder_text.specs.declared.types.Fate.{Fate}
use Rattle.ladder_text.specs.declared.types.Fate.TheVariants.{Ok, Lost}
use Rattle.ladder_text.specs.declared.types.Receipt.{Receipt}
use Rattle.ladder_text.specs.declared.types.Receipt.TheVariants.{Stored, Discarded, Nothing}
use Rattle.ladder_text.specs.declared.types.Outcome.TheVariants.{Delivered}
use Rattle.ladder_text.specs.declared.types.Run.{Run}
use Rattle.ladder_text.specs.declared.types.Row.{Row}

-- "Input `read 10 4 3 1`"
abbrev pub example : Run
example = record { direction = Read; count = 10; size = 4; window = 3; limit = 1 }

abbrev pub row : ℕ → ℕ → ℕ → ℕ → Fate → Receipt → Row
row n o b c f x = record { frame = n; offset = o; bytes = b; cdp = c; fate = f; receipt = x }

-- ".. then `lost`, prints"
abbrev pub example_rows : List Row
example_rows =
    row 1 0 4 0 Lost Nothing ∷
    row 2 4 4 0 Ok Discarded ∷
    row 3 8 2 0 Ok Discarded ∷
    row 4 0 4 1 Ok Stored ∷
    row 5 4 4 0 Ok Stored ∷
    row 6 8 2 0 Ok Stored ∷ []

pub record WorkedTexts : Type 0 where
  -- numbers
  pub nought : number_of MOST (bytes "0") ≡ Some 0
  pub greatest : number_of MOST (bytes "4294967295") ≡ Some 4_294_967_295
  pub above : number_of MOST (bytes "4294967296") ≡ None
  pub long : number_of MOST (bytes "18446744073709551617") ≡ None
  pub nothing : number_of MOST (bytes "") ≡ None
  pub zeros : number_of MOST (bytes "00") ≡ None
  pub leading : number_of MOST (bytes "07") ≡ None
  pub sign : number_of MOST (bytes "+7") ≡ None
  pub blank : number_of MOST (bytes "7 ") ≡ None
  pub carriage : number_of MOST (bytes "7\r") ≡ None
  -- lines and fields
  pub ended : lines (bytes "ok\nbad\n") ≡ bytes "ok" ∷ bytes "bad" ∷ []
  pub unended : lines (bytes "ok\nbad") ≡ bytes "ok" ∷ bytes "bad" ∷ []
  pub empty_line : lines (bytes "ok\n\n") ≡ bytes "ok" ∷ bytes "" ∷ []
  pub feed : lines (bytes "\n") ≡ bytes "" ∷ []
  pub no_line : lines (bytes "") ≡ []
  pub empty_fields : fields (bytes "\tok\t") ≡ bytes "" ∷ bytes "ok" ∷ bytes "" ∷ []
  pub two_tabs : field_start (bytes "a\t\tok") 2 ≡ 3
  pub no_field : field_start (bytes "a\t\tok") 3 ≡ 5
  -- run files
  pub taken : file_of (bytes "read\t10\t4\t3\t1\nlost") ≡ taken example 14
  pub empty_input : file_of (bytes "") ≡ refused 1
  pub too_many : file_of (bytes "read\t65537\t4\t3\t1\n") ≡ refused 1
  pub six_fields : file_of (bytes "read\t10\t4\t3\t1\t\n") ≡ refused 1
  pub carriage_return : file_of (bytes "read\t10\t4\t3\t1\r\nok\n") ≡ refused 1
  pub other_word : file_of (bytes "read\t10\t4\t3\t1\nok\nOK\nlost\n") ≡ refused 3
  pub empty_at_end : file_of (bytes "read\t10\t4\t3\t1\nok\n\n") ≡ refused 3
  -- the paper's ladder
  pub ladder : ladder_text example_rows (record { outcome = Delivered; number = 0; frames = 6; faults = 1; filled = 10 }) ≡ bytes "1\t0\t4\t0\tlost\tnone\n2\t4\t4\t0\tok\tdiscarded\n3\t8\t2\t0\tok\tdiscarded\n4\t0\t4\t1\tok\tstored\n5\t4\t4\t0\tok\tstored\n6\t8\t2\t0\tok\tstored\ndelivered\t0\t6\t1\t10\n"
  pub refusal : line_text (refused_text 65_537) ≡ bytes "refused\t65537\n"
