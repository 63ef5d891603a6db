-- What a frame's step tests, as bounds.
use Prim.Native.Nat.{ℕ, ◌+◌, ◌≤◌, ◌<◌, ◌^◌}
use mathlib.Core.Bool.{true}
use mathlib.Core.Path.{◌≡◌}
use native.Mathlib.Omega.{arith}
use borrow.Author.Tests.{leb-true, ltb-true}
use Rattle.status.proofs.Choose.{each}
use Rattle.sender_steps.specs.Transmit.{fit_tests, fits_of}
use Rattle.sender_steps.specs.declared.types.Sender.{Sender}

pub record Fits (s : Sender) (n : ℕ) : Type 0 where
  pub next_least : s.transfer.start ≤ s.next
  pub next_most : s.next ≤ s.burst.end
  pub end_most : s.burst.end ≤ s.transfer.start + n
  pub frames_most : s.frames < 2 ^ 60

pub fits : (s : Sender) (n : ℕ) → fits_of s n ≡ true → Fits s n
unfolding fits_of
fits s n e = let h = each (fit_tests s n) e in omega (arith, leb-true, ltb-true)
