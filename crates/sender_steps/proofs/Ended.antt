-- A failure ends the record.
use Prim.Native.Nat.{ℕ}
use mathlib.Core.Bool.{true}
use mathlib.Core.Path.{◌≡◌, refl}
use Rattle.sender_steps.specs.Confirmation.{failed_of}
use Rattle.sender_steps.specs.declared.types.Sender.{Sender}

pub failed_ended : (s : Sender) (n : ℕ) → (failed_of s n).left.ended ≡ true
failed_ended s n = refl
