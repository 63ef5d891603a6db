-- What a well-formed record gives, all bounds at once, and when a record is well-formed.
use Prim.Native.Nat.{ℕ, ◌^◌, ◌≤◌, ◌<◌}
use mathlib.Core.Bool.{true}
use mathlib.Core.Path.{◌≡◌}
use native.Mathlib.Omega.{arith}
use borrow.Author.Tests.{leb-true, ltb-true, eqb-true, le-leb, lt-ltb, eq-eqb}
use Rattle.status.proofs.Choose.{each}
use Rattle.transfer.specs.Limits.{past, limits_hold}
use Rattle.transfer.proofs.Bounds.{Bounds, bounds}
use Rattle.sender_steps.specs.Record.{tests, holds_of, lent_of, lent_tests}
use Rattle.sender_steps.specs.declared.types.Sender.{Sender}

-- marks and counts in order
pub record Marks (s : Sender) : Type 0 where
  pub base_least : s.transfer.start ≤ s.burst.base
  pub balance_least : s.burst.base ≤ s.balance
  pub balance_most : s.balance ≤ s.next
  pub next_most : s.next ≤ s.burst.end
  pub end_most : s.burst.end ≤ past s.transfer
  pub unanswered_most : s.unanswered ≤ s.transfer.window
  pub limit_most : s.burst.limit ≤ s.transfer.limit
  pub retries_most : s.retries ≤ s.burst.limit
  pub frames_most : s.frames < 2 ^ 60

pub record Held (s : Sender) : Type 0 where
  pub limits_held : limits_hold s.transfer ≡ true
  pub limits : Bounds s.transfer
  pub marks : Marks s

pub held : (s : Sender) → holds_of s ≡ true → Held s
unfolding holds_of tests
held s e =
    let h = each (tests s) e in
    record { limits_held = h.0; limits = bounds s.transfer h.0; marks = omega (arith, leb-true, ltb-true) }

pub holds_again : (s : Sender) → limits_hold s.transfer ≡ true → Marks s → holds_of s ≡ true
unfolding holds_of tests
holds_again s l m =
    simp (l, le-leb _ _ m.base_least, le-leb _ _ m.balance_least, le-leb _ _ m.balance_most, le-leb _ _ m.next_most, le-leb _ _ m.end_most, le-leb _ _ m.unanswered_most, le-leb _ _ m.limit_most, le-leb _ _ m.retries_most, lt-ltb _ _ m.frames_most)

-- a record with the data buffer that it needs
pub lent_holds : (s : Sender) (n : ℕ) → lent_of s n ≡ true → (holds_of s ≡ true) × (n ≡ s.transfer.count)
unfolding lent_of
lent_holds s n e = let h = each (lent_tests s n) e in (h.0, eqb-true _ _ h.1.0)

pub lent_again : (s : Sender) (n : ℕ) → holds_of s ≡ true → n ≡ s.transfer.count → lent_of s n ≡ true
unfolding lent_of
lent_again s n h e = simp (h, eq-eqb _ _ e)
