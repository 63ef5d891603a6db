-- A read command's frames asked for at the target and their confirmations: the sending port's, for a read's record.
use Rattle.std.specs.Prelude.{ℕ, List, Ok, Err}
use Rattle.status.specs.Pick.{pick}
use Rattle.status.specs.Entry.{Entry}
use Rattle.status.specs.Answer.{Said, Left, ◌saying◌}
use Rattle.status.specs.declared.words.Refusal.TheVariants.{BadRequest}
use Rattle.sender.specs.Transmit.{next_of}
use Rattle.sender.specs.Confirmation.{ack_of, nak_of, timeout_of, cut_of, loss_of}
use Rattle.sender_steps.specs.declared.types.Sender.{Sender}

-- a write's record is 1
abbrev pub is_read_of : Sender → Entry
is_read_of s = pick s.transfer.write (Err BadRequest) (Ok tt)

-- that is the first of the sending port's own numbers
abbrev pub only_read : Sender → Left Sender → Left Sender
only_read s step = pick s.transfer.write (s saying Said.refused 1) step

abbrev pub read_next_of : Sender → List ℕ → List ℕ → Left Sender
read_next_of s d out = only_read s (next_of s d out)

abbrev pub read_ack_of : Sender → Left Sender
read_ack_of s = only_read s (ack_of s)

abbrev pub read_nak_of : Sender → Left Sender
read_nak_of s = only_read s (nak_of s)

abbrev pub read_timeout_of : Sender → Left Sender
read_timeout_of s = only_read s (timeout_of s)

abbrev pub read_cut_of : Sender → Left Sender
read_cut_of s = only_read s (cut_of s)

abbrev pub read_loss_of : Sender → Left Sender
read_loss_of s = only_read s (loss_of s)
