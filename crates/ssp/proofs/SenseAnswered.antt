-- The laws of specs/Sense.antt.
use mathlib.Core.Bool.{Bool, true, false, ◌||◌}
use mathlib.Core.List.{[]}
use mathlib.Core.Path.{◌≡◌, refl, ◌∙◌}
use native.Mathlib.Nat.{zero-add}
use native.Mathlib.Omega.{arith}
use lib.Dec.{eqb}
use lib.ListN.{length}
use lib.Seq.{take-length}
use Rattle.status.specs.Answer.{Word, Taking, Said}
use Rattle.status.specs.Pick.{pick}
use Rattle.frame.specs.Lent.{none, part_of, within}
use Rattle.frame.specs.Response.{sense_of}
use Rattle.frame.proofs.Parts.{whole_part}
use Rattle.ssp.specs.CAnswer.{RESPONSE, PARSED, answer_with}
use Rattle.ssp.specs.Sense.{opened_in, sense_answered, SenseOfPort, SenseOfIu, NoSense}

pub sense_of_port : SenseOfPort
unfolding sense_answered pick
sense_of_port (Said.response start len o n) f = refl
sense_of_port (Said.refused n) f = refl
sense_of_port (Said.failed n k) f = refl
sense_of_port (Said.frame n) f = refl
sense_of_port (Said.delivered n) f = refl
sense_of_port Said.stored f = refl
sense_of_port Said.received f = refl
sense_of_port (Said.xfer_rdy Taking.next) f = refl
sense_of_port (Said.xfer_rdy (Taking.delivers n)) f = refl
sense_of_port (Said.xfer_rdy Taking.repeats) f = refl
sense_of_port (Said.word Word.wait) f = refl
sense_of_port (Said.word Word.taken) f = refl
sense_of_port (Said.word Word.retry) f = refl
sense_of_port (Said.word Word.unchanged) f = refl
sense_of_port (Said.word Word.acknowledged) f = refl
sense_of_port (Said.word Word.discarded) f = refl

pub sense_of_iu : SenseOfIu
unfolding sense_answered pick
sense_of_iu o iu =
    let e : part_of iu 0 (length iu) ≡ record { place = 0; bytes = iu } = whole_part iu 0 (length iu) (omega arith) ∙ λ i. record { place = 0; bytes = take-length iu i } in
    rw e (λ i. record { place = zero-add (sense_of o iu).place i; bytes = (sense_of o iu).bytes })

pub no_sense : NoSense
unfolding sense_answered pick
no_sense n w f s l b = go (eqb w RESPONSE || eqb w PARSED)
  where
    go : (t : Bool) → (pick t (within (part_of b s l) (sense_of (opened_in (answer_with n w f s l)))) none).bytes ≡ []
    go true = refl
    go false = refl
