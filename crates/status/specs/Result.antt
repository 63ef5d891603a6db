-- An answer that is one of the paper's numbers, or else a value: of set-ups and of the frame reader and writer.
use Rattle.std.specs.Prelude.{ℕ, Bool, Ok, Err}
use Rattle.std.specs.Prelude as code
use Rattle.status.specs.Pick.{pick}
use Rattle.status.specs.Number.{refusal_number, failure_number}
use Rattle.status.specs.declared.words.Refusal.{Refusal}
use Rattle.status.specs.declared.words.Failure.{Failure}

pub data Result (X : Type 0) : Type 0 where
  number : ℕ → Result X
  value : X → Result X

-- x, or 1 where a test fails
unfoldable pub granted : {X : Type 0} → Bool → X → Result X
granted ok x = pick ok (Result.value x) (Result.number 1)

-- what the code answers: the value, or the number of the refusal
abbrev pub or_refusal : {X : Type 0} → code.Result X Refusal → Result X
or_refusal (Ok x) = Result.value x
or_refusal (Err why) = Result.number (refusal_number why)

-- the value, or the number of the failure
abbrev pub or_failure : {X : Type 0} → code.Result X Failure → Result X
or_failure (Ok x) = Result.value x
or_failure (Err why) = Result.number (failure_number why)
