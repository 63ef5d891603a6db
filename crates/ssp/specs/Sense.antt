-- A RESPONSE's IU and its sense data for C (request K9).
use Rattle.std.specs.Prelude.{ℕ, List, [], ◌||◌, ◌≡◌, eqb, length}
use Rattle.status.specs.Pick.{pick}
use Rattle.status.specs.Answer.{Said}
use Rattle.status.specs.Result.{Result}
use Rattle.status.specs.declared.answer.Opened.{Opened}
use Rattle.frame.specs.Lent.{Lent, none, part_of, within}
use Rattle.frame.specs.Response.{sense_of}
use Rattle.initiator.specs.Sense.{sense_in}
use Rattle.ssp.specs.CAnswer.{FAILED, RESPONSE, PARSED, answer_with, opens, c_answer_of}
use Rattle.ssp.specs.declared.types.CAnswer.{CAnswer}

-- the IU reader's answer: PARSED with what an IU of n bytes says, or FAILED with the number, 32 or 34
abbrev pub response_answer : Result Opened → ℕ → CAnswer
response_answer (Result.value o) n = opens PARSED 0 0 n o
response_answer (Result.number k) n = answer_with k FAILED 0 0 0

abbrev pub opened_in : CAnswer → Opened
opened_in a = record { kind = a.kind; status = a.status; sense = a.sense }

-- of the bytes f that an answer speaks of, the sense data: none but of a RESPONSE that was taken or an IU that was read
unfoldable pub sense_answered : CAnswer → List ℕ → Lent
sense_answered a f = pick (eqb a.what RESPONSE || eqb a.what PARSED) (within (part_of f a.start a.len) (sense_of (opened_in a))) none

-- after a port's answer that is what the port has, after the IU reader's what the IU has, after every answer of other functions none; proved in
-- proofs/SenseAnswered.antt
abbrev pub SenseOfPort : Type 0
SenseOfPort = (s : Said) (f : List ℕ) → sense_answered (c_answer_of s) f ≡ sense_in s f

abbrev pub SenseOfIu : Type 0
SenseOfIu = (o : Opened) (iu : List ℕ) → sense_answered (response_answer (Result.value o) (length iu)) iu ≡ sense_of o iu

abbrev pub NoSense : Type 0
NoSense = (n w f s l : ℕ) (b : List ℕ) → (sense_answered (answer_with n w f s l) b).bytes ≡ []
