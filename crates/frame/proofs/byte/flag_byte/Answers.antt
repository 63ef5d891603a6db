use Prim.Native.Nat.{◌%◌}
use native.Mathlib.Omega.{arith}
use Rattle.frame.specs.Format.{flag_byte}
use Rattle.frame.proofs.Bits.{built}
use Rattle.frame.proofs.byte.flag_byte.Goals as goal

pub returns : goal.returns
unfolding flag_byte
returns c =
    let f = c.args.f in
    rw c.low_two_bits-tlr.ensures (built (f.tlr % 4) f.retry f.retransmit f.cdp (omega arith))
