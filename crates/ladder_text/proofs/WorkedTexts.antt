use mathlib.Core.Path.{refl}
use Rattle.ladder_text.specs.Pick.{pick}
use Rattle.ladder_text.specs.Text.{lines, fields}
use Rattle.ladder_text.specs.Lent.{field_start}
use Rattle.ladder_text.specs.Decimal.{digits, decimal, sum_from, number_of}
use Rattle.ladder_text.specs.Words.{direction_of, fate_of}
use Rattle.ladder_text.specs.Rows.{quad_at, run_of}
use Rattle.ladder_text.specs.RunFile.{file_of}
use Rattle.ladder_text.specs.WorkedTexts.{WorkedTexts}

pub answers : WorkedTexts
unfolding pick lines fields field_start digits decimal sum_from number_of direction_of fate_of quad_at run_of file_of
answers =
    record {
      nought = refl;
      greatest = refl;
      above = refl;
      long = refl;
      nothing = refl;
      zeros = refl;
      leading = refl;
      sign = refl;
      blank = refl;
      carriage = refl;
      ended = refl;
      unended = refl;
      empty_line = refl;
      feed = refl;
      no_line = refl;
      empty_fields = refl;
      two_tabs = refl;
      no_field = refl;
      taken = refl;
      empty_input = refl;
      too_many = refl;
      six_fields = refl;
      carriage_return = refl;
      other_word = refl;
      empty_at_end = refl;
      ladder = refl;
      refusal = refl;
    }
