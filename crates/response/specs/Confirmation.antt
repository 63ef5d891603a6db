-- ACK, NAK, timeout, cut and nexus loss at the RESPONSE.
use Rattle.std.specs.Prelude.{ℕ, ◌+◌, false, ltb}
use Rattle.status.specs.Pick.{pick, ◌with◌}
use Rattle.status.specs.Entry.{entry_of, confirmable_of}
use Rattle.status.specs.Answer.{Word, Said, Left, ◌saying◌, unless}
use Rattle.status.specs.Entry.{Entry}
use Rattle.response.specs.Fields.{unanswered≔, retries≔}
use Rattle.response.specs.Record.{most_of, holds_of, ended_of}
use Rattle.response.specs.declared.types.Responder.{Responder}

abbrev pub failed_of : Responder → ℕ → Left Responder
failed_of x n = ended_of x saying Said.failed n 0

abbrev pub retried_of : Responder → Responder
retried_of x = x with unanswered≔ false with retries≔ (x.retries + 1)

-- "resent likewise, up to the limit, and once even with retries off"; beyond that 28, 29 or 30
unfoldable pub retry_of : Responder → ℕ → Left Responder
retry_of x cause = pick (ltb x.retries (most_of x)) (retried_of x saying Said.word Word.retry) (failed_of x cause)

-- 1, 2, then 4
unfoldable pub confirms_of : Responder → Entry
confirms_of x = confirmable_of (holds_of x) x.ended x.unanswered

-- "its ACK ends that record"
abbrev pub ack_of : Responder → Left Responder
ack_of x = unless (confirms_of x) x (ended_of x saying Said.delivered 0)

abbrev pub nak_of : Responder → Left Responder
nak_of x = unless (confirms_of x) x (retry_of x 28)

abbrev pub timeout_of : Responder → Left Responder
timeout_of x = unless (confirms_of x) x (retry_of x 29)

-- "A cut with none changes nothing"
abbrev pub cut_step_of : Responder → Left Responder
cut_step_of x = pick x.unanswered (retry_of x 30) (x saying Said.word Word.unchanged)

abbrev pub cut_of : Responder → Left Responder
cut_of x = unless (entry_of (holds_of x) x.ended) x (cut_step_of x)

-- "31: reported by the port layer"
abbrev pub loss_of : Responder → Left Responder
loss_of x = unless (entry_of (holds_of x) x.ended) x (failed_of x 31)
