use Rattle.std.proofs.Common.{◌≡◌, ◌+◌, ◌-◌, ◌≤◌, length, drop}
use Rattle.ladder_text.specs.Lent.{field_start}
use Rattle.ladder_text.proofs.text.field_start.Given as goal

-- behind the tabs that are left, counted from `at`, field i starts
abbrev pub invariant-loop-tab : goal.invariant-loop-tab
invariant-loop-tab l = (l.at ≤ length l.l) × (l.at + field_start (drop l.at l.l) (l.i - l._tab) ≡ field_start l.l l.i)
