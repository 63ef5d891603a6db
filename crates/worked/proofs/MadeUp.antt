-- The table of records that a caller made up, by computation.
use mathlib.Core.Path.{refl}
use Rattle.response.specs.Record as response
use Rattle.worked.specs.MadeUp.{MadeUp}
use Rattle.worked.proofs.WriteComputes.{computed_write}

pub made_up : MadeUp
unfolding computed_write response.tests response.holds_of
made_up =
    record {
      marks = refl;
      unanswered = refl;
      limit = refl;
      frames = refl;
      received = refl;
      reached = refl;
      taken = refl;
      states = refl;
      retries = refl;
      tags = refl;
      response = refl;
    }
