-- ACK, NAK, timeout, cut and nexus loss at the sending port: the numbers of the entry point, then its step.
use Rattle.std.specs.Prelude.{not, eqb}
use Rattle.status.specs.Entry.{entry_of, confirmable_of}
use Rattle.status.specs.Pick.{pick}
use Rattle.status.specs.Answer.{Word, Said, Left, ◌saying◌, unless}
use Rattle.status.specs.Entry.{Entry}
use Rattle.sender_steps.specs.Record.{holds_of}
use Rattle.sender_steps.specs.Confirmation.{failed_of, ack_step_of, nak_step_of, retry_step_of}
use Rattle.sender_steps.specs.declared.types.Sender.{Sender}

-- 1, 2, then 4
unfoldable pub confirms_of : Sender → Entry
confirms_of s = confirmable_of (holds_of s) s.ended (not (eqb s.unanswered 0))

abbrev pub ack_of : Sender → Left Sender
ack_of s = unless (confirms_of s) s (ack_step_of s)

abbrev pub nak_of : Sender → Left Sender
nak_of s = unless (confirms_of s) s (nak_step_of s)

abbrev pub timeout_of : Sender → Left Sender
timeout_of s = unless (confirms_of s) s (retry_step_of s 29)

-- "A cut with none changes nothing"
abbrev pub cut_step_of : Sender → Left Sender
cut_step_of s = pick (eqb s.unanswered 0) (s saying Said.word Word.unchanged) (retry_step_of s 30)

abbrev pub cut_of : Sender → Left Sender
cut_of s = unless (entry_of (holds_of s) s.ended) s (cut_step_of s)

-- "31: reported by the port layer"
abbrev pub loss_of : Sender → Left Sender
loss_of s = unless (entry_of (holds_of s) s.ended) s (failed_of s 31)
