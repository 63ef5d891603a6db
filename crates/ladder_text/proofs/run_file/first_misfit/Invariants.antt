use Rattle.std.proofs.Common.{◌≡◌, ◌+◌, ◌-◌, ◌≤◌, length, drop}
use Rattle.ladder_text.specs.Text.{lines}
use Rattle.ladder_text.specs.RunFile.{misfit}
use Rattle.ladder_text.proofs.run_file.first_misfit.Given as goal

-- the first misfit among the lines from `at` on is the first of all
abbrev pub invariant-loop-at : goal.invariant-loop-at
invariant-loop-at l = (l.n ≤ l.at + 2) × (misfit l.n (lines (drop l.at l.s)) ≡ misfit 2 (lines (drop l.from l.s)))

abbrev pub decreases-loop-at : goal.decreases-loop-at
decreases-loop-at l = length l.s - l.at
