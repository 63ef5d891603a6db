-- n is the faults among the first i frames.
use Prim.Native.Nat.{◌≤◌}
use mathlib.Core.Path.{◌≡◌}
use Rattle.ladder_run.specs.Fates.{faults_of}
use Rattle.ladder_run.proofs.fates.faults.Given as goal

abbrev pub invariant-loop-i : goal.invariant-loop-i
invariant-loop-i l = (l.n ≤ l.i) × (l.n ≡ faults_of l.fates l.i)
