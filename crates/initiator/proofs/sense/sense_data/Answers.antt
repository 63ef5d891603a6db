-- The last arm stands for every answer but a RESPONSE.
use Prim.Native.Nat.{ℕ}
use mathlib.Core.List.{List}
use mathlib.Core.Path.{◌≡◌, refl}
use Rattle.status.specs.Answer.{says}
use Rattle.status.specs.declared.answer.Part.{Part}
use Rattle.status.specs.declared.answer.Opened.{Opened}
use Rattle.status.specs.declared.answer.Answer.{Answer}
use Rattle.status.specs.declared.answer.Answer.TheVariants.{Refused, Failed, Wait, Frame, Taken, Retry, Unchanged, Delivered, Acknowledged, Discarded, Stored, Received, NextBurst, NextBurstDelivers, Repeated, Response}
use Rattle.frame.specs.Lent.{none}
use Rattle.frame.proofs.Parts.{no_part}
use Rattle.initiator.specs.Sense.{sense_in}
use Rattle.initiator.proofs.sense.sense_data.Goals as goal

nothing : (f : List ℕ) (a : Answer) → ((iu : Part) (o : Opened) (n : ℕ) → a ≡ Response iu o n → ⊥) → sense_in (says a) f ≡ none
nothing f (Refused why) h = refl
nothing f (Failed why n) h = refl
nothing f Wait h = refl
nothing f (Frame n) h = refl
nothing f Taken h = refl
nothing f Retry h = refl
nothing f Unchanged h = refl
nothing f (Delivered n) h = refl
nothing f Acknowledged h = refl
nothing f Discarded h = refl
nothing f Stored h = refl
nothing f Received h = refl
nothing f NextBurst h = refl
nothing f (NextBurstDelivers n) h = refl
nothing f Repeated h = refl
nothing f (Response iu o n) h = absurd (h iu o n refl)

pub returns-in_default : goal.returns-in_default
returns-in_default c =
    let a = c.args in
    rw (nothing a.bytes.now a.a c.in_default.not-Response) (rw (no_part a.bytes.now) at c.part-in_default.ensures)
