-- The table of frames that a read's initiator does not take, by computation.
use mathlib.Core.Path.{refl}
use Rattle.worked.specs.Screened.{Screened}
use Rattle.worked.proofs.WriteComputes.{computed_write}

pub screened : Screened
unfolding computed_write
screened =
    record {
      right = refl;
      dest_first = refl;
      dest_second = refl;
      dest_third = refl;
      source_first = refl;
      source_second = refl;
      source_third = refl;
      tag_first = refl;
      tag_second = refl;
      both = refl;
      xfer_rdy = refl;
      xfer_rdy_short = refl;
      xfer_rdy_long = refl;
    }
