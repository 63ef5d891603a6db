-- The set_up for a read at the receiving port, and the nexus loss.
use Rattle.std.specs.Prelude.{List, [], ◌∷◌, Bool, not}
use Rattle.status.specs.Entry.{entry_of}
use Rattle.status.specs.Pick.{all}
use Rattle.status.specs.Number.{refusal_number}
use Rattle.status.specs.Answer.{Left, unless}
use Rattle.status.specs.Result.{Result, granted}
use Rattle.transfer.specs.Limits.{past, limits_hold}
use Rattle.transfer.specs.declared.Transfer.{Transfer}
use Rattle.receiver_steps.specs.Record.{holds_of, beginning, failed_of}
use Rattle.receiver_steps.specs.declared.types.Receiver.{Receiver}

abbrev pub set_up_tests : Transfer → List Bool
set_up_tests t = limits_hold t ∷ not t.write ∷ []

-- "a read is one burst from 0"; request K5: from its start instead, up to start plus count
abbrev pub set_up_read_of : Transfer → Result Receiver
set_up_read_of t = granted (all (set_up_tests t)) (beginning t t.start (past t))

-- "31: reported by the port layer"
abbrev pub loss_of : Receiver → Left Receiver
loss_of r = unless (entry_of (holds_of r) r.ended) r (failed_of r 31)
