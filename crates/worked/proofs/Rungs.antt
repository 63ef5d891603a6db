-- The rungs hold, by computation.
use mathlib.Core.Path.{refl}
use Rattle.worked.specs.Rungs.{Holds, table}
use Rattle.worked.proofs.ReadComputes.{computed}

pub rungs : Holds table
unfolding computed table
rungs = (refl, (refl, (refl, (refl, (refl, (refl, (refl, (refl, (refl, (refl, (refl, (refl, (refl, (refl, (refl, (refl, tt))))))))))))))))
