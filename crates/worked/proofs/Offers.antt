-- The tables of XFER_RDYs offered to the initiator, by computation.
use mathlib.Core.Path.{refl}
use Rattle.worked.specs.Offers.{Offers, Starts}
use Rattle.worked.proofs.WriteComputes.{computed_write}

pub offers : Offers
unfolding computed_write
offers =
    record {
      none = refl;
      none_resent = refl;
      delivered = refl;
      delivered_resent = refl;
      too_early = refl;
      too_early_resent = refl;
      waiting = refl;
      waiting_resent = refl;
      no_byte = refl;
      one_more = refl;
      all_that_remain = refl;
      all = refl;
      more_than_all = refl;
    }

pub starts : Starts
unfolding computed_write
starts = record { at_once = refl; carries = refl; nak_ack = refl; nak_timeout = refl; nak_cut = refl; till_then = refl; limit_zero = refl; limit_kept = refl }
