-- The table of the target's XFER_RDYs, by computation.
use mathlib.Core.Path.{refl}
use Rattle.worked.specs.XferRdyRetries.{Limit, NoneUnanswered, PerBurst, Early}
use Rattle.worked.proofs.WriteComputes.{computed_write}

pub limit : Limit
unfolding computed_write
limit =
    record {
      zero_nak = refl;
      zero_timeout = refl;
      zero_cut = refl;
      zero_frames = refl;
      one_nak = refl;
      one_timeout = refl;
      one_cut = refl;
      one_frames = refl;
      two_nak = refl;
      two_timeout = refl;
      two_cut = refl;
      after_naks = refl;
      after_timeouts = refl;
      after_cuts = refl;
    }

pub none_unanswered : NoneUnanswered
unfolding computed_write
none_unanswered =
    record {
      first = record { cuts = refl; four = refl };
      to_be_resent = record { cuts = refl; four = refl };
      acknowledged = record { cuts = refl; four = refl };
      begins = refl;
      heard_nak = refl;
      heard_ack = refl;
      counts = refl;
      resent = refl;
      waits = refl;
    }

pub per_burst : PerBurst
unfolding computed_write
per_burst =
    record {
      anew = refl;
      frames = refl;
    }

pub early : Early
unfolding computed_write
early =
    record {
      discards = refl;
      keeps = refl;
      then_stores = refl;
      resent = refl;
      old = refl;
      none = refl;
    }
