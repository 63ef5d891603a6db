-- "That span", in which a report of time counts: when a target is in it.
use Prim.Native.Nat.{ℕ, ◌+◌, ◌≤◌, ◌<◌}
use mathlib.Core.Bool.{Bool, true, false, not, ◌&&◌}
use mathlib.Core.Logic.{◌⊎◌}
use mathlib.Core.Path.{◌≡◌}
use native.Mathlib.Omega.{arith}
use lib.Dec.{eqb}
use borrow.Author.Tests.{ltb-true, eqb-true, eqb-false, not-true, lt-ltb, eq-eqb, ne_eqb}
use Rattle.status.proofs.Choose.{and_true}
use Rattle.target.specs.Record.{READY}
use Rattle.target.specs.Time.{runs_of}
use Rattle.target.specs.declared.types.Target.{Target}

-- "that span", by the fields that it depends on: the port has not ended, its XFER_RDY had its ACK, and the burst is not filled
pub record Span (ended : Bool) (state filled end : ℕ) : Type 0 where
  pub going : ended ≡ false
  pub ready : state ≡ READY
  pub unfilled : filled < end

abbrev pub InSpan : Target → Type 0
InSpan x = Span x.receiver.ended x.state x.receiver.filled x.receiver.end

-- the sum reaches the timeout, or stays below it
pub record Reaches (x : Target) (ms : ℕ) : Type 0 where
  pub span : InSpan x
  pub on : x.receiver.transfer.irt ≡ 0 → ⊥
  pub reached : x.receiver.transfer.irt ≤ x.elapsed + ms

pub record Below (x : Target) (ms : ℕ) : Type 0 where
  pub span : InSpan x
  pub below : x.elapsed + ms < x.receiver.transfer.irt

abbrev pub Outside : Target → Type 0
Outside x = (x.receiver.transfer.irt ≡ 0) ⊎ ((x.state ≡ READY → ⊥) ⊎ (x.receiver.end ≤ x.receiver.filled))

module _ (x : Target) where
  -- time counts only in that span, and where the timeout is on
  pub runs_only : x.receiver.ended ≡ false → runs_of x ≡ true → InSpan x × (x.receiver.transfer.irt ≡ 0 → ⊥)
  unfolding runs_of
  runs_only o e =
      let a = and_true (not (eqb x.receiver.transfer.irt 0) && eqb x.state READY) _ e in
      let b = and_true (not (eqb x.receiver.transfer.irt 0)) _ a.0 in
      (record { going = o; ready = omega (arith, eqb-true); unfilled = omega (arith, ltb-true) }, eqb-false _ _ (not-true _ b.0))

  pub runs_there : InSpan x → (x.receiver.transfer.irt ≡ 0 → ⊥) → runs_of x ≡ true
  unfolding runs_of
  runs_there s n = rw (ne_eqb _ _ n, eq-eqb _ _ s.ready, lt-ltb _ _ s.unfilled)
