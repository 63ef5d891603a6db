-- The frame of a read's record has the transfer's value as its TPTT.
use mathlib.Core.Bool.{Bool}
use mathlib.Core.Path.{◌≡◌, ap, ◌∙◌}
use native.Mathlib.Omega.{arith}
use Rattle.status.specs.Pick.{pick}
use Rattle.frame.proofs.Carries.{tptt_back}
use Rattle.sender_steps.specs.Transmit.{data_header, part_of, frame_of}
use Rattle.sender_steps.specs.CarriesValue.{FrameCarries}

pub frame_carries : FrameCarries
unfolding frame_of data_header pick
frame_carries s d r l =
    let e : (data_header s).tptt ≡ s.transfer.value = ap (λ (b : Bool). pick b s.burst.tptt s.transfer.value) r in
    tptt_back (data_header s) (part_of s d) (omega arith) ∙ e
