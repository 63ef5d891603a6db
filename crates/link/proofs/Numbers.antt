-- Bounds that the invariant's numbers give.
use Prim.Native.Nat.{ℕ, zero, suc, ◌+◌, ◌*◌, ◌^◌, ◌≤◌, ◌<◌}
use mathlib.Core.List.{List}
use mathlib.Core.Bool.{true}
use mathlib.Core.Path.{◌≡◌}
use native.Mathlib.Nat.{mul-le-mul, mul-le-mul_right, mul_comm, add-mul, one-mul}
use native.Mathlib.Omega.{arith}
use lib.ListN.{length}
use Rattle.sender_steps.specs.Record.{holds_of}
use Rattle.sender_steps.specs.declared.types.Sender.{Sender}
use Rattle.sender_steps.proofs.Held.{held}
use Rattle.link.proofs.Grid.{inside_needed, needed_most}
use Rattle.link.proofs.Setting.{Setting, Sends, within, enough, limits, sized}
use Rattle.link.proofs.Invariant.{Counted}

module _ (S : Setting) where
  pub j_most : (j : ℕ) → ((i : ℕ) → i < j → within S i) → j ≤ enough S
  j_most zero f = omega arith
  j_most (suc i) f = inside_needed S.base S.end S.t.size (sized S) i (f i (omega arith))

  enough_most : enough S ≤ 16_778_239
  enough_most =
      let b = limits S in
      omega (arith, needed_most S.base S.end S.t.size (sized S), S.end_most, S.starts, b.past_most, b.size_most)

  -- the frame count stays far below 2 to the power 60
  pub few : {frames retries faults R m j : ℕ} {handed : List (List ℕ)} → Counted S frames retries handed faults R m j → retries ≤ S.limit → within S m → j ≤ enough S → frames + 1 < 2 ^ 60
  few {R = R} {m} {j} c r h jm =
      let n = enough S in
      let e = enough_most in
      let l15 : S.limit ≤ 15 = omega (arith, S.limit_most, (limits S).limit_most) in
      let mn : m < n = inside_needed S.base S.end S.t.size (sized S) m h in
      let lm : S.limit * m ≤ 15 * 16_778_239 = mul-le-mul {n₂ = 15} {m₂ = 16_778_239} l15 (omega arith) in
      let ev = c.ever in
      let Rn : R * n ≤ 251_673_600 * 16_778_239 = mul-le-mul {n₂ = 251_673_600} {m₂ = 16_778_239} (omega arith) e in
      let a = c.frames_are in
      let b = c.most in
      omega arith

  -- the frames handed out are at most those of a faultless transfer times one more than the faults
  pub within_bound : {frames retries faults R m j : ℕ} {handed : List (List ℕ)} → Counted S frames retries handed faults R m j → j ≤ enough S → length handed ≤ enough S * (1 + faults)
  within_bound {faults = faults} {R} {m} {j} {handed} c jm =
      let n = enough S in
      let p : R * n ≤ faults * n = mul-le-mul_right n c.paid in
      let e : n * (1 + faults) ≡ n + faults * n = omega (arith, mul_comm n (1 + faults), add-mul 1 faults n, one-mul n) in
      let b = c.most in
      omega arith

  -- the record's retries are within the limit in force
  pub retries_most : (s : Sender) → holds_of s ≡ true → Sends S s → s.retries ≤ S.limit
  retries_most s h c = omega (arith, (held s h).marks.retries_most, c.limit)
