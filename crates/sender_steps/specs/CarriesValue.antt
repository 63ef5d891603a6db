-- Request K7: "every read DATA and RESPONSE of the command carries it": the frame of any read's record, whatever its marks and flags. In any list of calls: link
-- specs/CarriesValue.
use Rattle.std.specs.Prelude.{ℕ, ◌^◌, ◌<◌, List, false, ◌≡◌}
use Rattle.frame.specs.Read.{header_in}
use Rattle.sender_steps.specs.Transmit.{frame_of}
use Rattle.sender_steps.specs.declared.types.Sender.{Sender}

-- proved in proofs/CarriesValue.antt; a number in a definition has no width, so it is said
abbrev pub FrameCarries : Type 0
FrameCarries = (s : Sender) (d : List ℕ) → s.transfer.write ≡ false → s.transfer.value < 2 ^ 16 → (header_in (frame_of s d)).tptt ≡ s.transfer.value
