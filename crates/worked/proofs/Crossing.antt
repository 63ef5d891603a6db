-- The tables of XFER_RDYs, by computation.
use mathlib.Core.Path.{refl}
use Rattle.worked.specs.Crossing.{Crossing, Tags}
use Rattle.worked.proofs.WriteComputes.{computed_write}

pub crossing : Crossing
unfolding computed_write
crossing =
    record {
      opens = refl;
      resends_one = refl;
      resends_both = refl;
      taken = refl;
      answers = refl;
      nak_lowers = refl;
      ack_lowers = refl;
      nak_starts = refl;
      ack_starts = refl;
      timeout_starts = refl;
      cut_starts = refl;
      carries = refl;
      asked_starts = refl;
      asked_carries = refl;
      next = refl;
      too_early = refl;
      once_is_enough = refl;
      again = refl;
      again_later = refl;
      again_pending = refl;
      not_again = refl;
      ends_first = refl;
      ends_pending = refl;
      ends_second = refl;
    }

pub tags : Tags
unfolding computed_write
tags = record { resent = refl; freed = refl; three = refl; three_said = refl }
