-- The initiator's record in a write command: the tests of number 1, set_up, and how a burst starts.
use Rattle.std.specs.Prelude.{List, [], ◌∷◌, Bool, false, leb}
use Rattle.status.specs.Pick.{all}
use Rattle.status.specs.Result.{Result, granted}
use Rattle.transfer.specs.Limits.{limits_hold}
use Rattle.transfer.specs.declared.Transfer.{Transfer}
use Rattle.sender_steps.specs.Record.{beginning}
use Rattle.sender_steps.specs.Record as sender
use Rattle.sender_steps.specs.declared.types.Burst.{Burst}
use Rattle.initiator.specs.declared.types.Writer.{Writer}

-- `sender` is the burst in service, `reached` the furthest offset handed out in it; `pending`: the burst `taken` is taken and not started.
-- 1 as for the sending port; the record is a write's; the furthest offset stands between next offset and end; the taken burst within the count and the limit
unfoldable pub tests : Writer → List Bool
tests w =
    sender.holds_of w.sender ∷ w.sender.transfer.write ∷
    leb w.sender.next w.reached ∷ leb w.reached w.sender.burst.end ∷
    leb w.taken.base w.taken.end ∷ leb w.taken.end w.sender.transfer.count ∷ leb w.taken.limit w.sender.transfer.limit ∷ []

unfoldable pub holds_of : Writer → Bool
holds_of w = all (tests w)

abbrev pub none : Burst
none = record { base = 0; end = 0; tptt = 0; limit = 0 }

-- "The new burst starts, retries zero, no NAK pending": nothing of it is handed out
abbrev pub begins_of : Transfer → Burst → Writer
begins_of t b = record { sender = beginning t b; reached = b.base; pending = false; taken = none }

-- the burst that was taken starts
abbrev pub starts_of : Writer → Writer
starts_of w = begins_of w.sender.transfer w.taken

-- no burst is taken yet: "0 at first"; an empty burst at 0, of which every frame counts as handed out
abbrev pub start_of : Transfer → Writer
start_of t = begins_of t (record { base = 0; end = 0; tptt = 0; limit = t.limit })

abbrev pub set_up_tests : Transfer → List Bool
set_up_tests t = limits_hold t ∷ t.write ∷ []

abbrev pub set_up_write_of : Transfer → Result Writer
set_up_write_of t = granted (all (set_up_tests t)) (start_of t)
