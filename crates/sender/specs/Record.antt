-- The set_up for a read at the sending port.
use Rattle.std.specs.Prelude.{List, [], ◌∷◌, Bool, not}
use Rattle.status.specs.Pick.{all}
use Rattle.status.specs.Result.{Result, granted}
use Rattle.transfer.specs.Limits.{past, limits_hold}
use Rattle.transfer.specs.declared.Transfer.{Transfer}
use Rattle.sender_steps.specs.Record.{beginning}
use Rattle.sender_steps.specs.declared.types.Burst.{Burst}
use Rattle.sender_steps.specs.declared.types.Sender.{Sender}

-- "a read is one burst from 0"; request K5: from its start instead, up to start plus count
abbrev pub whole : Transfer → Burst
whole t = record { base = t.start; end = past t; tptt = 0; limit = t.limit }

abbrev pub set_up_tests : Transfer → List Bool
set_up_tests t = limits_hold t ∷ not t.write ∷ []

abbrev pub set_up_read_of : Transfer → Result Sender
set_up_read_of t = granted (all (set_up_tests t)) (beginning t (whole t))
