-- What a well-formed record gives, all bounds at once, and when a record is well-formed.
use Prim.Native.Nat.{ℕ, ◌≤◌}
use mathlib.Core.Bool.{true}
use mathlib.Core.Path.{◌≡◌}
use native.Mathlib.Omega.{arith}
use borrow.Author.Tests.{leb-true, eqb-true, le-leb}
use Rattle.status.proofs.Choose.{each}
use Rattle.transfer.specs.Limits.{limits_hold}
use Rattle.transfer.proofs.Bounds.{Bounds, bounds}
use Rattle.response.specs.Record.{tests, most_of, holds_of}
use Rattle.response.specs.Transmit.{lent_tests, lent_of}
use Rattle.response.specs.declared.types.Responder.{Responder}

pub record Marks (x : Responder) : Type 0 where
  pub len_least : 24 ≤ x.len
  pub len_most : x.len ≤ 1_024
  pub retries_most : x.retries ≤ most_of x

pub record Held (x : Responder) : Type 0 where
  pub limits_held : limits_hold x.transfer ≡ true
  pub limits : Bounds x.transfer
  pub marks : Marks x

pub held : (x : Responder) → holds_of x ≡ true → Held x
unfolding holds_of tests
held x e =
    let h = each (tests x) e in
    record { limits_held = h.0; limits = bounds x.transfer h.0; marks = omega (arith, leb-true) }

pub holds_again : (x : Responder) → limits_hold x.transfer ≡ true → Marks x → holds_of x ≡ true
unfolding holds_of tests
holds_again x l m = simp (l, le-leb _ _ m.len_least, le-leb _ _ m.len_most, le-leb _ _ m.retries_most)

-- a record with the IU that it was set up with
pub lent_held : (x : Responder) (n : ℕ) → lent_of x n ≡ true → Held x × (n ≡ x.len)
unfolding lent_of
lent_held x n e = let h = each (lent_tests x n) e in (held x h.0, eqb-true _ _ h.1.0)
