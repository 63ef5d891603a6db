use native.Mathlib.Omega.{arith}
use Rattle.frame.proofs.Writer.{data_length, fits}
use Rattle.frame.proofs.encode.write_data.Goals as goal

-- The answer says whether the frame fits.
pub place_data-requires : goal.place_data-requires
place_data-requires c =
    let a = c.args in
    omega (arith, fits a.h _ _ _ c.in_ok-len.ensures, data_length a.iu.now)
