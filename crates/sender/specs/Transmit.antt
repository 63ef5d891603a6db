-- "Asked for a frame": 1, 2, then "wait", 3, or the frame.
use Rattle.std.specs.Prelude.{ℕ, List, length}
use Rattle.status.specs.Entry.{entry_of}
use Rattle.status.specs.Pick.{pick}
use Rattle.status.specs.Answer.{Word, Said, Left, ◌saying◌, unless}
use Rattle.frame.specs.Write.{hands}
use Rattle.sender_steps.specs.Record.{lent_of}
use Rattle.sender_steps.specs.Transmit.{waits_of, frame_of, sent_of}
use Rattle.sender_steps.specs.declared.types.Sender.{Sender}

-- a frame is due
abbrev pub hands_of : Sender → List ℕ → List ℕ → Left Sender
hands_of s d out = hands s (sent_of s) (frame_of s d) out

unfoldable pub next_of : Sender → List ℕ → List ℕ → Left Sender
next_of s d out =
    unless (entry_of (lent_of s (length d)) s.ended) s
    (pick (waits_of s) (s saying Said.word Word.wait) (hands_of s d out))
