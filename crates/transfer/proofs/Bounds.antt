-- What a transfer within the limits gives, all bounds at once.
use Prim.Native.Nat.{ℕ, ◌+◌, ◌%◌, ◌^◌, ◌≤◌, ◌<◌}
use mathlib.Core.Bool.{Bool, true, not, ◌||◌}
use mathlib.Core.Path.{◌≡◌, sym, ap, ◌∙◌}
use native.Mathlib.Omega.{arith}
use lib.Dec.{eqb}
use borrow.Author.Tests.{leb-true, eqb-true}
use Rattle.status.proofs.Choose.{each}
use Rattle.transfer.specs.Limits.{past, limits, limits_hold, ZeroBefore}
use Rattle.transfer.specs.declared.Transfer.{Transfer}

pub record Bounds (t : Transfer) : Type 0 where
  pub count_least : 1 ≤ t.count
  pub count_most : t.count ≤ 16_777_216
  pub size_least : 4 ≤ t.size
  pub size_most : t.size ≤ 1_024
  pub size_fours : t.size % 4 ≡ 0
  pub window_least : 1 ≤ t.window
  pub window_most : t.window ≤ 64
  pub limit_most : t.limit ≤ 15
  pub burst_least : 1 ≤ t.burst
  pub burst_most : t.burst ≤ t.count
  pub local : t.local < 2 ^ 24
  pub remote : t.remote < 2 ^ 24
  pub past_most : past t ≤ 16_777_216

pub bounds : (t : Transfer) → limits_hold t ≡ true → Bounds t
unfolding limits_hold limits
bounds t e = let h = each (limits t) e in omega (arith, leb-true, eqb-true)

-- under SAS-1.1 the value is zero
pub zero_before : ZeroBefore
unfolding limits_hold limits
zero_before t e f =
    let h = each (limits t) e in
    let z = ap (λ (b : Bool). b || eqb t.value 0) (sym f) ∙ h.1.1.1.1.1.1.1.1.1.1.1.1.0 in
    omega (arith, leb-true, eqb-true)

-- a write starts at 0
pub write_start : (t : Transfer) → limits_hold t ≡ true → t.write ≡ true → t.start ≡ 0
unfolding limits_hold limits
write_start t e f =
    let h = each (limits t) e in
    let z = ap (λ (b : Bool). not b || eqb t.start 0) (sym f) ∙ h.1.1.1.1.1.1.1.1.1.1.1.1.1.1.0 in
    omega (arith, leb-true, eqb-true)
