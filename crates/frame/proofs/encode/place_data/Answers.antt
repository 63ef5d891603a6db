use Prim.Native.Nat.{ℕ}
use native.Mathlib.Omega.{arith}
use lib.ListN.{length-take}
use Rattle.frame.proofs.Writer.{data_length, laid}
use Rattle.frame.proofs.encode.place_data.Goals as goal

-- IU and fill go down one after the other; the first place leaves the buffer as long as it was.

pub place-requires : goal.place-requires
place-requires c = omega (arith, data_length c.args.iu.now)

pub place-requires-2 : goal.place-requires-2
place-requires-2 c = omega (arith, data_length c.args.iu.now, c.place.auto, length-take {A = ℕ})

pub returns : goal.returns
returns c =
    let a = c.args in
    laid a.iu.now a.out.now _ _ _ (omega arith) c.fill_of-fill.ensures c.place.ensures c.place-2.ensures
