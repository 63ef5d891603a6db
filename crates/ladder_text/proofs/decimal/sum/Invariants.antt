use Rattle.std.proofs.Common.{◌≡◌, ◌≤◌, drop}
use Rattle.ladder_text.specs.Decimal.{sum_from}
use Rattle.ladder_text.proofs.decimal.sum.Given as goal

-- what the digits that are left say of the number so far is what all of them say
abbrev pub invariant-loop-d : goal.invariant-loop-d
invariant-loop-d l = (l.v ≤ l.most) × (sum_from l.most l.v (drop l.d-index l.s) ≡ sum_from l.most 0 l.s)
