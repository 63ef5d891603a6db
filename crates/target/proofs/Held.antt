-- What a record that number 1 does not refuse gives, all bounds at once, and back.
use Prim.Native.Nat.{ℕ, ◌≤◌, ◌<◌}
use mathlib.Core.Bool.{Bool, true, false, ◌||◌}
use mathlib.Core.Path.{◌≡◌, refl}
use native.Mathlib.Omega.{arith}
use lib.Dec.{ltb, eqb}
use borrow.Author.Tests.{leb-true, ltb-true, eqb-true, eqb-false, le-leb, lt-ltb, eq-eqb, ne_eqb}
use Rattle.status.proofs.Choose.{each}
use Rattle.transfer.proofs.Bounds.{write_start}
use Rattle.receiver_steps.specs.Record as receiver
use Rattle.receiver_steps.proofs.Held as marks
use Rattle.target.specs.Record.{NONE, READY, tests, holds_of}
use Rattle.target.specs.Arrival.{lent_of, lent_tests}
use Rattle.target.specs.declared.types.Target.{Target}

pub record Held (x : Target) : Type 0 where
  -- the receiving port's part, its limits and marks
  pub core : receiver.holds_of x.receiver ≡ true
  pub marks : marks.Held x.receiver
  pub write : x.receiver.transfer.write ≡ true
  -- a write starts at 0, so its bursts end at most at the byte count
  pub from_0 : x.receiver.transfer.start ≡ 0
  pub end_most : x.receiver.end ≤ x.receiver.transfer.count
  pub state_most : x.state ≤ READY
  -- the burst of an XFER_RDY handed out is not empty
  pub some : (x.state ≡ NONE → ⊥) → x.receiver.base < x.receiver.end
  pub retries_most : x.retries ≤ x.receiver.transfer.limit
  pub since_most : x.since ≤ 16
  pub elapsed_most : x.elapsed ≤ x.receiver.transfer.irt

pub held : (x : Target) → holds_of x ≡ true → Held x
unfolding holds_of tests
held x e =
    let h = each (tests x) e in
    let m = marks.held x.receiver h.0 in
    let z = write_start x.receiver.transfer (marks.limits_again x.receiver h.0) h.1.0 in
    record {
      core = h.0;
      marks = m;
      write = h.1.0;
      from_0 = z;
      end_most = omega (arith, m.end_past);
      state_most = omega (arith, leb-true);
      some = λ n. let e = rw (ne_eqb _ _ n) at h.1.1.1.0 in omega (arith, leb-true, ltb-true);
      retries_most = omega (arith, leb-true);
      since_most = omega (arith, leb-true);
      elapsed_most = omega (arith, leb-true);
    }

pub holds_again : (x : Target) → receiver.holds_of x.receiver ≡ true → x.receiver.transfer.write ≡ true → x.state ≤ READY → ((x.state ≡ NONE → ⊥) → x.receiver.base < x.receiver.end) → x.retries ≤ x.receiver.transfer.limit → x.since ≤ 16 → x.elapsed ≤ x.receiver.transfer.irt → holds_of x ≡ true
unfolding holds_of tests
holds_again x c w a b r s m = simp (c, w, le-leb _ _ a, go (eqb x.state NONE) refl, le-leb _ _ r, le-leb _ _ s, le-leb _ _ m)
  where
    go : (t : Bool) → eqb x.state NONE ≡ t → (eqb x.state NONE || ltb x.receiver.base x.receiver.end) ≡ true
    go true e = rw e
    go false e = rw e (lt-ltb _ _ (b (eqb-false _ _ e)))

-- a record that comes with a data buffer of m bytes
pub record Lent (x : Target) (m : ℕ) : Type 0 where
  pub holds : holds_of x ≡ true
  pub size : m ≡ x.receiver.transfer.count

pub lent : (x : Target) (m : ℕ) → lent_of x m ≡ true → Lent x m
unfolding lent_of
lent x m e = let h = each (lent_tests x m) e in record { holds = h.0; size = omega (arith, eqb-true) }

pub lent_again : (x : Target) (m : ℕ) → holds_of x ≡ true → m ≡ x.receiver.transfer.count → lent_of x m ≡ true
unfolding lent_of
lent_again x m h e = simp (h, eq-eqb _ _ e)

-- the receiving port's record comes with it too
pub core_lent : (x : Target) (m : ℕ) → lent_of x m ≡ true → receiver.lent_of x.receiver m ≡ true
core_lent x m e =
    let l = lent x m e in
    let h = held x l.holds in
    marks.lent_again x.receiver m h.core (marks.write_long x.receiver.transfer m h.write l.size)
