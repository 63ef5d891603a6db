-- The table of RESPONSEs, by computation.
use mathlib.Core.Path.{refl}
use Rattle.frame.specs.Lent.{part_of}
use Rattle.worked.specs.Response.{Opening}
use Rattle.worked.proofs.WriteComputes.{computed_write}

pub opening : Opening
unfolding computed_write part_of
opening =
    record {
      good = refl;
      busy = refl;
      no_part_busy = refl;
      task = refl;
      no_part_task = refl;
      condition = refl;
      sense = refl;
      any_response = refl;
      good_with_sense = refl;
      written = refl;
      written_sense = refl;
      none_25 = refl;
      none_28 = refl;
      none_42 = refl;
      task_3 = refl;
      task_5 = refl;
      task_27 = refl;
      task_29 = refl;
      task_65540 = refl;
      task_elsewhere = refl;
      sense_17 = refl;
      sense_19 = refl;
      sense_41 = refl;
      sense_43 = refl;
      sense_65554 = refl;
      sense_elsewhere = refl;
      sense_0 = refl;
      sense_1 = refl;
      sense_1000 = refl;
      reserved = refl;
      reserved_task = refl;
      reserved_sense = refl;
      reserved_written = refl;
      short = refl;
      other_short = refl;
      other = refl;
      no_part = refl;
      no_part_other = refl;
    }
