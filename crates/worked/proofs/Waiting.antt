-- The table of DATA frames at the receiving port, by computation.
use mathlib.Core.Path.{refl}
use Rattle.worked.specs.Waiting.{Waiting, Failing, Off, Filled}
use Rattle.worked.proofs.ReadComputes.{computed}

pub waiting : Waiting
unfolding computed
waiting =
    record {
      first = refl;
      second = refl;
      short = refl;
      last = refl;
      all_at_once = refl;
      above = refl;
      below = refl;
      not_expected_at_filled = refl;
      still_waits = refl;
      waits_at_expected = refl;
      waits_for_the_last = refl;
      at_filled = refl;
      at_filled_last = refl;
      goes_back = refl;
      goes_back_at_once = refl;
      follows = refl;
      jumps = refl;
      from_the_middle = refl;
      up_to_the_end = refl;
      above_filled = refl;
      above_filled_waiting = refl;
      above_filled_back = refl;
      above_expected = refl;
      places = refl;
      leaves = refl;
    }

pub failing : Failing
unfolding computed
failing =
    record {
      at_end = refl;
      at_end_one = refl;
      at_end_waiting = refl;
      at_end_no_data = refl;
      below_base = refl;
      below_base_one = refl;
      at_base = refl;
      behind = refl;
      long = refl;
      long_above = refl;
      long_waiting = refl;
      long_one = refl;
      long_above_filled = refl;
      none = refl;
      none_above = refl;
      none_waiting = refl;
      none_one = refl;
      none_above_filled = refl;
    }

pub off : Off
unfolding computed
off =
    record {
      expected = refl;
      last = refl;
      expected_one = refl;
      below = refl;
      above = refl;
      below_one = refl;
      above_one = refl;
      above_long = refl;
      above_none = refl;
      long = refl;
      none = refl;
    }

pub filled : Filled
unfolding computed
filled =
    record {
      again = refl;
      again_one = refl;
      behind = refl;
      long = refl;
      none = refl;
      again_off = refl;
      back = refl;
      other_tag = refl;
    }
