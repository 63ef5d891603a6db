-- The table of limits, by computation.
use mathlib.Core.Path.{refl}
use Rattle.worked.specs.TransferLimits.{TransferLimits}
use Rattle.worked.proofs.ReadComputes.{computed}

pub transfer_limits : TransferLimits
unfolding computed
transfer_limits = record { small = refl; large = refl; window = refl; limit = refl; burst = refl; own = refl; other = refl }
