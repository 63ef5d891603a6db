-- What a well-formed record of a write gives, all bounds at once, and when a record is well-formed.
use Prim.Native.Nat.{ℕ, ◌≤◌}
use mathlib.Core.Bool.{true}
use mathlib.Core.Path.{◌≡◌}
use native.Mathlib.Omega.{arith}
use borrow.Author.Tests.{leb-true, eqb-true, le-leb, eq-eqb}
use Rattle.status.proofs.Choose.{each}
use Rattle.transfer.proofs.Bounds.{write_start}
use Rattle.sender_steps.specs.Record as sender
use Rattle.sender_steps.proofs.Held as core
use Rattle.initiator.specs.WriteRecord.{tests, holds_of}
use Rattle.initiator.specs.WriteSend.{lent_of, lent_tests}
use Rattle.initiator.specs.declared.types.Writer.{Writer}

-- the marks beside the sending port's
pub record Marks (w : Writer) : Type 0 where
  pub reached_least : w.sender.next ≤ w.reached
  pub reached_most : w.reached ≤ w.sender.burst.end
  pub base_most : w.taken.base ≤ w.taken.end
  pub end_most : w.taken.end ≤ w.sender.transfer.count
  pub limit_most : w.taken.limit ≤ w.sender.transfer.limit

pub record Held (w : Writer) : Type 0 where
  pub holds : sender.holds_of w.sender ≡ true
  pub core : core.Held w.sender
  pub write : w.sender.transfer.write ≡ true
  -- a write starts at 0
  pub from_0 : w.sender.transfer.start ≡ 0
  pub marks : Marks w

pub held : (w : Writer) → holds_of w ≡ true → Held w
unfolding holds_of tests
held w e =
    let h = each (tests w) e in
    let c = core.held w.sender h.0 in
    record { holds = h.0; core = c; write = h.1.0; from_0 = write_start _ c.limits_held h.1.0; marks = omega (arith, leb-true) }

pub holds_again : (w : Writer) → sender.holds_of w.sender ≡ true → w.sender.transfer.write ≡ true → Marks w → holds_of w ≡ true
unfolding holds_of tests
holds_again w h t m =
    simp (h, t, le-leb _ _ m.reached_least, le-leb _ _ m.reached_most, le-leb _ _ m.base_most, le-leb _ _ m.end_most, le-leb _ _ m.limit_most)

-- a record with the data buffer that it needs
pub lent : (w : Writer) (n : ℕ) → lent_of w n ≡ true → (holds_of w ≡ true) × (n ≡ w.sender.transfer.count)
unfolding lent_of
lent w n e = let h = each (lent_tests w n) e in (h.0, eqb-true _ _ h.1.0)

pub lent_again : (w : Writer) (n : ℕ) → holds_of w ≡ true → n ≡ w.sender.transfer.count → lent_of w n ≡ true
unfolding lent_of
lent_again w n h e = simp (h, eq-eqb _ _ e)
