-- What the answers from frame i on make of x is what all make of the port at the start.
use Prim.Native.Nat.{◌-◌}
use mathlib.Core.Path.{◌≡◌}
use Rattle.ladder_run.specs.Round.{confirmations_of}
use Rattle.ladder_run.proofs.round.confirmations.Given as goal

abbrev pub invariant-loop-i : goal.invariant-loop-i
invariant-loop-i l = confirmations_of l.fates (l.to - l.i) l.i l.x ≡ confirmations_of l.fates (l.to - l.from) l.from l.initial.x
