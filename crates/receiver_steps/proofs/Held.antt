-- What a record that number 1 does not refuse gives, all bounds at once, and back.
use Prim.Native.Nat.{ℕ, ◌≤◌}
use mathlib.Core.Bool.{Bool, true, false}
use mathlib.Core.Path.{◌≡◌, refl}
use lib.Dec.{leb, eqb}
use native.Mathlib.Omega.{arith}
use borrow.Author.Tests.{leb-true, eqb-true, le-leb, eq-eqb}
use Rattle.status.specs.Pick.{pick}
use Rattle.status.proofs.Choose.{each}
use Rattle.transfer.specs.Limits.{past, limits_hold}
use Rattle.transfer.specs.declared.Transfer.{Transfer}
use Rattle.transfer.proofs.Bounds.{Bounds, bounds, write_start}
use Rattle.receiver_steps.specs.Record.{tests, holds_of, right_length, lent_tests, lent_of}
use Rattle.receiver_steps.specs.declared.types.Receiver.{Receiver}

pub record Held (r : Receiver) : Type 0 where
  pub limits : Bounds r.transfer
  pub start_base : r.transfer.start ≤ r.base
  pub base_expected : r.base ≤ r.expected
  pub expected_filled : r.expected ≤ r.filled
  pub filled_end : r.filled ≤ r.end
  pub end_past : r.end ≤ past r.transfer

pub held : (r : Receiver) → holds_of r ≡ true → Held r
unfolding holds_of tests
held r e =
    let h = each (tests r) e in
    record {
      limits = bounds r.transfer h.0;
      start_base = omega (arith, leb-true);
      base_expected = omega (arith, leb-true);
      expected_filled = omega (arith, leb-true);
      filled_end = omega (arith, leb-true);
      end_past = omega (arith, leb-true);
    }

pub holds_again : (r : Receiver) → limits_hold r.transfer ≡ true → r.transfer.start ≤ r.base → r.base ≤ r.expected → r.expected ≤ r.filled → r.filled ≤ r.end → r.end ≤ past r.transfer → holds_of r ≡ true
unfolding holds_of tests
holds_again r l o a b c d = simp (l, le-leb _ _ o, le-leb _ _ a, le-leb _ _ b, le-leb _ _ c, le-leb _ _ d)

pub limits_again : (r : Receiver) → holds_of r ≡ true → limits_hold r.transfer ≡ true
unfolding holds_of tests
limits_again r e = (each (tests r) e).0

-- the buffer, by what is asked of it in either direction
pub write_long : (t : Transfer) (m : ℕ) → t.write ≡ true → m ≡ t.count → right_length t m ≡ true
unfolding right_length pick
write_long t m w e = rw w (eq-eqb _ _ e)

pub write_size : (t : Transfer) (m : ℕ) → t.write ≡ true → right_length t m ≡ true → m ≡ t.count
unfolding right_length pick
write_size t m w e = eqb-true _ _ (rw w at e)

pub read_long : (t : Transfer) (m : ℕ) → t.write ≡ false → past t ≤ m → right_length t m ≡ true
unfolding right_length pick
read_long t m w l = rw w (le-leb _ _ l)

-- the buffer reaches to start plus count in either direction: a write starts at 0
pub reaches_past : (t : Transfer) (m : ℕ) → limits_hold t ≡ true → right_length t m ≡ true → past t ≤ m
unfolding right_length pick
reaches_past t m l e = go t.write refl e
  where
    go : (w : Bool) → t.write ≡ w → pick w (eqb m t.count) (leb (past t) m) ≡ true → past t ≤ m
    go true f e = omega (arith, write_start t l f, eqb-true m t.count e)
    go false f e = leb-true _ _ e

-- a record that comes with a data buffer of m bytes
pub record Lent (r : Receiver) (m : ℕ) : Type 0 where
  pub holds : holds_of r ≡ true
  pub long : right_length r.transfer m ≡ true
  pub reach : r.end ≤ m

pub lent : (r : Receiver) (m : ℕ) → lent_of r m ≡ true → Lent r m
unfolding lent_of
lent r m e =
    let h = each (lent_tests r m) e in
    record { holds = h.0; long = h.1.0; reach = omega (arith, (held r h.0).end_past, reaches_past r.transfer m (limits_again r h.0) h.1.0) }

pub lent_again : (r : Receiver) (m : ℕ) → holds_of r ≡ true → right_length r.transfer m ≡ true → lent_of r m ≡ true
unfolding lent_of
lent_again r m h e = simp (h, e)
