-- The table of resent XFER_RDYs, by computation.
use mathlib.Core.Path.{refl}
use Rattle.worked.specs.Repeat.{Repeating}
use Rattle.worked.proofs.WriteComputes.{computed_write}

pub repeating : Repeating
unfolding computed_write
repeating =
    record {
      run = refl;
      sends_nothing = refl;
      takes_first = refl;
      shorter = refl;
      none = refl;
      one_less = refl;
      one_more = refl;
      all = refl;
      right = refl;
      carries = refl;
      counts = refl;
      waiting = refl;
      not_in_service = refl;
      waiting_right = refl;
      delivered = refl;
      delivered_right = refl;
      first_lost = refl;
      first_carries = refl;
      second_lost = refl;
      not_expected = refl;
      elsewhere = refl;
    }
