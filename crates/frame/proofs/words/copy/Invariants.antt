-- The bytes so far stand at the front of dst.
use Prim.Native.Nat.{◌*◌}
use Rattle.frame.proofs.Pieces.{Copied}
use Rattle.frame.proofs.words.copy.Given as goal

abbrev pub invariant-loop-k : goal.invariant-loop-k
invariant-loop-k l = Copied l.fn.src l.fn.dst l.n (64 * l.k) l.dst
