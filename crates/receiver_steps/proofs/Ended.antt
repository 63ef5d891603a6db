-- A failure ends the record.
use Prim.Native.Nat.{ℕ}
use mathlib.Core.Bool.{true}
use mathlib.Core.Path.{◌≡◌, refl}
use Rattle.receiver_steps.specs.Record.{failed_of}
use Rattle.receiver_steps.specs.declared.types.Receiver.{Receiver}

pub failed_ended : (r : Receiver) (n : ℕ) → (failed_of r n).left.ended ≡ true
failed_ended r n = refl
