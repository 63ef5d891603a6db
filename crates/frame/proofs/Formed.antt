-- What a frame that the reader does not refuse with 5 gives, all bounds at once.
use Prim.Native.Nat.{ℕ, ◌-◌, ◌%◌, ◌≤◌}
use mathlib.Core.List.{List}
use mathlib.Core.Bool.{true}
use mathlib.Core.Path.{◌≡◌}
use native.Mathlib.Omega.{arith}
use lib.ListN.{length}
use borrow.Author.Tests.{leb-true, eqb-true}
use Rattle.status.proofs.Choose.{each}
use Rattle.frame.specs.Read.{fill_count, form, well_formed}

pub record Formed (b : List ℕ) : Type 0 where
  pub least : 24 ≤ length b
  pub most : length b ≤ 1048
  pub fours : length b % 4 ≡ 0
  pub fill : fill_count b ≤ length b - 24

pub formed : (b : List ℕ) → well_formed b ≡ true → Formed b
formed b e = let h = each (form b) e in omega (arith, leb-true, eqb-true)
