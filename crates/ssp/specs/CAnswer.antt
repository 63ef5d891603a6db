-- What C is told: the answer of a call in one struct of numbers.
use Rattle.std.specs.Prelude.{ℕ, ◌≡◌}
use Rattle.status.specs.Answer.{Word, Taking, Said, Left}
use Rattle.status.specs.Result.{Result}
use Rattle.status.specs.declared.answer.Opened.{Opened}
use Rattle.ssp.specs.declared.types.CAnswer.{CAnswer}

-- `what`; READY: a set_up was taken; PARSED: a frame or an IU was read
abbrev pub REFUSED : ℕ
REFUSED = 0

abbrev pub FAILED : ℕ
FAILED = 1

abbrev pub WAIT : ℕ
WAIT = 2

abbrev pub FRAME : ℕ
FRAME = 3

abbrev pub TAKEN : ℕ
TAKEN = 4

abbrev pub RETRY : ℕ
RETRY = 5

abbrev pub UNCHANGED : ℕ
UNCHANGED = 6

abbrev pub DELIVERED : ℕ
DELIVERED = 7

abbrev pub ACKNOWLEDGED : ℕ
ACKNOWLEDGED = 8

abbrev pub DISCARDED : ℕ
DISCARDED = 9

abbrev pub STORED : ℕ
STORED = 10

abbrev pub RECEIVED : ℕ
RECEIVED = 11

abbrev pub NEXT-BURST : ℕ
NEXT-BURST = 12

abbrev pub NEXT-BURST-DELIVERS : ℕ
NEXT-BURST-DELIVERS = 13

abbrev pub REPEATED : ℕ
REPEATED = 14

abbrev pub RESPONSE : ℕ
RESPONSE = 15

abbrev pub READY : ℕ
READY = 16

abbrev pub PARSED : ℕ
PARSED = 17

abbrev pub answer_with : ℕ → ℕ → ℕ → ℕ → ℕ → CAnswer
answer_with n w f s l = record { number = n; what = w; kind = 0; status = 0; frames = f; start = s; len = l; sense = 0 }

-- a RESPONSE's IU: where it stands, and what it says
abbrev pub opens : ℕ → ℕ → ℕ → ℕ → Opened → CAnswer
opens w f s l o = record { number = 0; what = w; kind = o.kind; status = o.status; frames = f; start = s; len = l; sense = o.sense }

-- a case that names no value
abbrev pub word : ℕ → CAnswer
word w = answer_with 0 w 0 0 0

-- each answer's number, `what` and values
abbrev pub c_answer_of : Said → CAnswer
c_answer_of (Said.refused n) = answer_with n REFUSED 0 0 0
c_answer_of (Said.failed n k) = answer_with n FAILED k 0 0
c_answer_of (Said.word Word.wait) = word WAIT
c_answer_of (Said.frame n) = answer_with 0 FRAME 0 0 n
c_answer_of (Said.word Word.taken) = word TAKEN
c_answer_of (Said.word Word.retry) = word RETRY
c_answer_of (Said.word Word.unchanged) = word UNCHANGED
c_answer_of (Said.delivered k) = answer_with 0 DELIVERED k 0 0
c_answer_of (Said.word Word.acknowledged) = word ACKNOWLEDGED
c_answer_of (Said.word Word.discarded) = word DISCARDED
c_answer_of Said.stored = word STORED
c_answer_of Said.received = word RECEIVED
c_answer_of (Said.xfer_rdy Taking.next) = word NEXT-BURST
c_answer_of (Said.xfer_rdy (Taking.delivers k)) = answer_with 0 NEXT-BURST-DELIVERS k 0 0
c_answer_of (Said.xfer_rdy Taking.repeats) = word REPEATED
c_answer_of (Said.response start len o k) = opens RESPONSE k start len o

-- a call that leaves and says y, in place: the record left, and what C is told
abbrev pub Leaves : {X : Type 0} → Left X → X → CAnswer → Type 0
Leaves y x a = (x ≡ y.left) × (a ≡ c_answer_of y.says)

-- a set_up that answers o, in place: a refused one leaves the record x as it was
abbrev pub ready_of : {X : Type 0} → Result X → X → X
ready_of (Result.value y) x = y
ready_of (Result.number n) x = x

abbrev pub ready_answer : {X : Type 0} → Result X → CAnswer
ready_answer (Result.value y) = word READY
ready_answer (Result.number n) = answer_with n REFUSED 0 0 0

abbrev pub SetsUp : {X : Type 0} → Result X → X → X → CAnswer → Type 0
SetsUp o x y a = (y ≡ ready_of o x) × (a ≡ ready_answer o)
