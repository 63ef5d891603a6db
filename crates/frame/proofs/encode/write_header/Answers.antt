use native.Mathlib.Omega.{arith}
use Rattle.frame.proofs.Writer.{fits}
use Rattle.frame.proofs.encode.write_header.Goals as goal

-- There is room for the frame, so for its header.

-- The answer says whether the frame fits.
pub place_header-requires : goal.place_header-requires
place_header-requires c = omega (arith, fits c.args.h _ _ _ c.in_ok-len.ensures)
