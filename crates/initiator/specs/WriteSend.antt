-- A write command's frames asked for and their confirmations, over the sending port.
use Rattle.std.specs.Prelude.{ℕ, ◌-◌, max, List, [], ◌∷◌, Bool, not, ◌&&◌, length, eqb}
use Rattle.status.specs.Pick.{pick, all, ◌with◌}
use Rattle.status.specs.Entry.{Entry, entry_of, confirmable_of}
use Rattle.status.specs.Answer.{Word, Said, Left, ◌saying◌, refuses, unless}
use Rattle.sender_steps.specs.Fields.{unanswered≔}
use Rattle.sender.specs.Transmit as transmit
use Rattle.sender.specs.Confirmation as confirmation
use Rattle.sender_steps.specs.declared.types.Sender.{Sender}
use Rattle.initiator.specs.Fields.{sender≔, reached≔}
use Rattle.initiator.specs.WriteRecord.{holds_of, starts_of}
use Rattle.initiator.specs.declared.types.Writer.{Writer}

-- what the sending port answers
abbrev pub lifted_of : Writer → Left Sender → Left Writer
lifted_of w x = (w with sender≔ x.left) saying x.says

-- the same after a frame asked for: the furthest offset handed out
abbrev pub reached_of : Writer → Left Sender → Left Writer
reached_of w x = (w with sender≔ x.left with reached≔ (max w.reached x.left.next)) saying x.says

-- 1 as in `holds_of`, and "the data buffer has another length" than the byte count
abbrev pub lent_tests : Writer → ℕ → List Bool
lent_tests w n = holds_of w ∷ eqb n w.sender.transfer.count ∷ []

unfoldable pub lent_of : Writer → ℕ → Bool
lent_of w n = all (lent_tests w n)

-- a burst is taken, and frames of the one before are unanswered: "till then wait"
abbrev pub held_up : Writer → Bool
held_up w = w.pending && not (eqb w.sender.unanswered 0)

-- the record that serves a frame: a burst that is taken "starts .. once nothing is unanswered"
unfoldable pub begun_of : Writer → Writer
begun_of w = pick w.pending (starts_of w) w

-- a refusal leaves the record as it was
abbrev pub kept_of : Writer → Left Writer → Left Writer
kept_of w y = pick (refuses y.says) (w saying y.says) y

unfoldable pub next_of : Writer → List ℕ → List ℕ → Left Writer
next_of w d out =
    unless (entry_of (lent_of w (length d)) w.sender.ended) w
    (pick (held_up w) (w saying Said.word Word.wait) (kept_of w (reached_of (begun_of w) (transmit.next_of (begun_of w).sender d out))))

-- "answers, timeout or cut only lower or clear the count, with no retry and no failure": n is the count then, and at zero the burst starts
unfoldable pub counted_of : Writer → ℕ → Left Writer
counted_of w n =
    pick (eqb n 0) (starts_of w) (w with sender≔ (w.sender with unanswered≔ n)) saying Said.word Word.taken

-- the sending port's step, or, while a taken burst waits, the count left
unfoldable pub served_of : Writer → Left Sender → ℕ → Left Writer
served_of w step n = pick (held_up w) (counted_of w n) (lifted_of w step)

-- a confirmation: the sending port's step, or, while a taken burst waits, the count left
unfoldable pub confirmed_of : Writer → Left Sender → ℕ → Left Writer
confirmed_of w step n = unless (entry_of (holds_of w) w.sender.ended) w (pick (held_up w) (counted_of w n) (lifted_of w step))

-- 1, 2, 4
unfoldable pub confirms_of : Writer → Entry
confirms_of w = confirmable_of (holds_of w) w.sender.ended (not (eqb w.sender.unanswered 0))

abbrev pub ack_of : Writer → Left Writer
ack_of w = confirmed_of w (confirmation.ack_of w.sender) (w.sender.unanswered - 1)

abbrev pub nak_of : Writer → Left Writer
nak_of w = confirmed_of w (confirmation.nak_of w.sender) (w.sender.unanswered - 1)

abbrev pub timeout_of : Writer → Left Writer
timeout_of w = confirmed_of w (confirmation.timeout_of w.sender) 0

abbrev pub cut_of : Writer → Left Writer
cut_of w = confirmed_of w (confirmation.cut_of w.sender) 0

-- "31: reported by the port layer"
abbrev pub loss_of : Writer → Left Writer
loss_of w = unless (entry_of (holds_of w) w.sender.ended) w (lifted_of w (confirmation.loss_of w.sender))
