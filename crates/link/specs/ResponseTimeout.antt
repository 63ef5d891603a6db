-- Request K4, the Initiator Response Timeout: when a report of time fails the transfer, that nothing else does so with 33, and when it changes nothing.
-- Proved in proofs/ResponseTimeout.antt.
use Rattle.std.specs.Prelude.{ℕ, ◌+◌, ◌≤◌, List, [], ◌∷◌, Bool, true, false, ◌⊎◌, ◌≡◌}
use Rattle.status.specs.Answer.{Word, Said, fails}
use Rattle.status.specs.Result.{Result}
use Rattle.transfer.specs.declared.Transfer.{Transfer}
use Rattle.target.specs.Record.{READY, set_up_write_of}
use Rattle.target.specs.Time.{time_of}
use Rattle.target.specs.declared.types.Target.{Target}
use Rattle.link.specs.Calls.{TargetCall, target_call}

-- a clock beside the target, which knows the reports, whether one failed, and the answers to all other calls: whether it runs, and "the sum"
pub record Clock : Type 0 where
  pub runs : Bool
  pub sum : ℕ

abbrev pub stopped : Clock
stopped = record { runs = false; sum = 0 }

abbrev pub heard_word : Word → Clock → Clock
-- "The sum starts from zero at the ACK of an XFER_RDY"
heard_word Word.acknowledged k = record { runs = true; sum = 0 }
heard_word Word.taken k = k
heard_word Word.wait k = k
heard_word Word.retry k = k
heard_word Word.unchanged k = k
-- ".. not at a discarded one"
heard_word Word.discarded k = k

-- after an answer to a call other than a report of time
abbrev pub heard : Said → Clock → Clock
-- "and at each DATA frame stored"; it stops where the burst is filled, and where the transfer fails
heard Said.stored k = record { runs = k.runs; sum = 0 }
heard Said.received k = stopped
heard (Said.failed n f) k = stopped
heard (Said.word w) k = heard_word w k
heard (Said.refused n) k = k
heard (Said.frame n) k = k
heard (Said.delivered n) k = k
heard (Said.xfer_rdy t) k = k
heard (Said.response start len o n) k = k

-- after a report of so many milliseconds: one that fails the transfer stops the clock, any other is added, be it answered taken, unchanged or refused
abbrev pub added : ℕ → Bool → Clock → Clock
added ms true k = stopped
added ms false k = record { runs = k.runs; sum = k.sum + ms }

abbrev pub ticked : TargetCall → Said → Clock → Clock
ticked (TargetCall.time ms) a k = added ms (fails a) k
ticked (TargetCall.bytes f) a k = heard a k
ticked TargetCall.asking a k = heard a k
ticked (TargetCall.signals g) a k = heard a k

-- the record, and the clock, after a list of calls, each with the buffer that it is lent
abbrev pub after : Target → List (TargetCall × List ℕ) → Target
after y [] = y
after y (c ∷ cs) = after (target_call c.0 y c.1).left cs

abbrev pub clock_of : Clock → Target → List (TargetCall × List ℕ) → Clock
clock_of k y [] = k
clock_of k y (c ∷ cs) = let x = target_call c.0 y c.1 in clock_of (ticked c.0 x.says k) x.left cs

-- the clock runs, the timeout is on, and the sum reaches it with ms more
abbrev pub Expires : Transfer → Clock → ℕ → Type 0
Expires t k ms = (k.runs ≡ true) × (t.irt ≡ 0 → ⊥) × (t.irt ≤ k.sum + ms)

-- after any list of calls from set_up, a report of time fails exactly then, with 33
abbrev pub FailsExactly : Type 0
FailsExactly =
    (t : Transfer) (y : Target) → set_up_write_of t ≡ Result.value y → (cs : List (TargetCall × List ℕ)) (ms : ℕ) →
    let a = (time_of (after y cs) ms).says in let expires = Expires t (clock_of stopped y cs) ms in (fails a ≡ true → expires) × (expires → a ≡ Said.failed 33 0)

-- "33 .. on a report of time only": no other call on a write's target answers it, at any record
abbrev pub TimeOnly : Type 0
TimeOnly = (c : TargetCall) (y : Target) (b : List ℕ) (n : ℕ) → (target_call c y b).says ≡ Said.failed 33 n → (ms : ℕ) × (c ≡ TargetCall.time ms)

-- "Time reported outside that span changes nothing", at any record: the timeout is off, the XFER_RDY had no ACK, or the burst is filled
abbrev pub OutsideStays : Type 0
OutsideStays =
    (x : Target) → (x.receiver.transfer.irt ≡ 0) ⊎ ((x.state ≡ READY → ⊥) ⊎ (x.receiver.end ≤ x.receiver.filled)) →
    (ms : ℕ) → (time_of x ms).left ≡ x
