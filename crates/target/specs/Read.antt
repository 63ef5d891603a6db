-- What arrives at the target of a read command: it takes no frame, so every one is 5 or 6, after 1 and 2.
use Rattle.std.specs.Prelude.{ℕ, List, [], ◌∷◌, Bool, not}
use Rattle.status.specs.Pick.{all}
use Rattle.status.specs.Entry.{entry_of}
use Rattle.status.specs.Answer.{Said, Left, ◌saying◌, unless}
use Rattle.status.specs.Result.{Result}
use Rattle.arrival.specs.Accept.{accept_of}
use Rattle.arrival.specs.declared.Role.TheVariants.{ReadTarget}
use Rattle.arrival.specs.declared.Arrived.{Arrived}
use Rattle.sender_steps.specs.Record.{holds_of}
use Rattle.sender_steps.specs.declared.types.Sender.{Sender}

-- 1 as for the sending port; the record is a read's
abbrev pub read_tests : Sender → List Bool
read_tests s = holds_of s ∷ not s.transfer.write ∷ []

unfoldable pub read_holds_of : Sender → Bool
read_holds_of s = all (read_tests s)

-- none is taken: 5, else 6
abbrev pub none_of : Result Arrived → Sender → Left Sender
none_of (Result.number n) s = s saying Said.refused n
none_of (Result.value a) s = s saying Said.refused 6

unfoldable pub read_arrival_of : Sender → List ℕ → Left Sender
read_arrival_of s f = unless (entry_of (read_holds_of s) s.ended) s (none_of (accept_of ReadTarget s.transfer f) s)
