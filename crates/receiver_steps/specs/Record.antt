-- The receiving port's record: the tests of number 1, how a burst begins, failure.
use Rattle.std.specs.Prelude.{ℕ, List, [], ◌∷◌, Bool, true, false, leb, eqb}
use Rattle.status.specs.Pick.{pick, all, ◌with◌}
use Rattle.status.specs.Answer.{Said, says, Left, ◌saying◌}
use Rattle.transfer.specs.Limits.{past, limits_hold}
use Rattle.transfer.specs.declared.Transfer.{Transfer}
use Rattle.receiver_steps.specs.Fields.{ended≔}
use Rattle.receiver_steps.specs.declared.types.Receiver.{Receiver}

-- 1: "a limit is broken, .. a record has marks outside base to end, .. expected above filled". Request K5: a read's burst lies from start to start plus count;
-- a write's, from 0 to the count
unfoldable pub tests : Receiver → List Bool
tests r =
    limits_hold r.transfer ∷
    leb r.transfer.start r.base ∷ leb r.base r.expected ∷ leb r.expected r.filled ∷ leb r.filled r.end ∷
    leb r.end (past r.transfer) ∷ []

unfoldable pub holds_of : Receiver → Bool
holds_of r = all (tests r)

-- 1 by the data buffer's length. Request K5: "for reads at the host a buffer shorter than" start plus count "replaces one of another length"; a write's has the byte count
unfoldable pub right_length : Transfer → ℕ → Bool
right_length t n = pick t.write (eqb n t.count) (leb (past t) n)

-- 1 as in `holds_of`, and by the data buffer's length
abbrev pub lent_tests : Receiver → ℕ → List Bool
lent_tests r n = holds_of r ∷ right_length r.transfer n ∷ []

unfoldable pub lent_of : Receiver → ℕ → Bool
lent_of r n = all (lent_tests r n)

-- a burst of which nothing is stored yet
abbrev pub beginning : Transfer → ℕ → ℕ → Receiver
beginning t base end = record { transfer = t; base = base; end = end; expected = base; filled = base; waiting = false; ended = false }

-- "failures that end the port"
abbrev pub failed_of : Receiver → ℕ → Left Receiver
failed_of r n = (r with ended≔ true) saying Said.failed n 0
