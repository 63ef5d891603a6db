-- From a ladder's start, in either direction: with the report of delivery the receiver's filled mark is the count.
use Prim.Native.Nat.{ℕ, ◌≤◌}
use mathlib.Core.List.{List}
use mathlib.Core.Bool.{true, false}
use mathlib.Core.Logic.{inl, inr}
use mathlib.Core.Path.{◌≡◌, refl, ap, subst, subst₂, ◌∙◌}
use native.Mathlib.Omega.{arith}
use lib.ListN.{length}
use Rattle.status.specs.Answer.{Left}
use Rattle.initiator.specs.WriteRecord as initiator
use Rattle.initiator.specs.WriteCount.{takes}
use Rattle.initiator.specs.declared.types.Writer.{Writer}
use Rattle.target.specs.Record as target
use Rattle.target.specs.Transmit.{next_of}
use Rattle.target.specs.Confirmation.{ack_of}
use Rattle.target.specs.declared.types.Target.{Target}
use Rattle.link.specs.Ports.{Ports}
use Rattle.link.specs.Reading.{read_ports}
use Rattle.link.specs.Writing.{write_ports}
use Rattle.link.specs.World.{World, Event, step}
use Rattle.link.specs.World as link
use Rattle.link.specs.Delivers.{fresh}
use Rattle.link.proofs.Filled.{Fills as Marks}
use Rattle.link.proofs.Theorem.{read_fills}
use Rattle.link.proofs.Exchange.{write_fills}
use Rattle.ladder_text.specs.declared.types.Run.{Run}
use Rattle.ladder_run.specs.Ends.{filled_of}
use Rattle.ladder_run.specs.Row.{area}
use Rattle.ladder_run.specs.Setup.{INITIATOR, TARGET, transfer_of}
use Rattle.ladder_claim.proofs.Embeds.{Embeds, read_embeds, write_embeds}
use Rattle.ladder_claim.proofs.Stands.{Fills}
use Rattle.ladder_claim.proofs.Begun.{Within, alike, whole_run, read_sends_up, read_takes_up, read_sender, read_receiver, write_sender, write_target, waits_well, hands_out, takes_first, acks}

-- the mark is the ladder's
module _ {P : Ports} (E : Embeds P) (mark : P.Receiving → ℕ) (same : (y : P.Receiving) → filled_of (E.receiver y) ≡ mark y) (end : ℕ) (start : World P) (f : Marks {P = P} mark end start) where
  by_mark : Fills E start end
  by_mark =
      record {
        confirmed = λ w es g q n e. subst (λ (v : World P). v.report ≡ link.Report.none → (step v Event.confirmed).report ≡ link.Report.delivered n → filled_of (E.receiver v.receiving) ≡ end) g.ends (λ a c. same _ ∙ f es g.allowed a n (inl c)) q e;
        timeout = λ w es g q n e. subst (λ (v : World P). v.report ≡ link.Report.none → (step v Event.timeout).report ≡ link.Report.delivered n → filled_of (E.receiver v.receiving) ≡ end) g.ends (λ a c. same _ ∙ f es g.allowed a n (inr c)) q e;
      }

pub read_filling : (r : Run) → Within r → (d b : List ℕ) → 1 ≤ r.limit → length d ≡ r.count → length b ≡ r.count → Fills read_embeds (fresh read_ports (read_sender r) (read_receiver r) d b) r.count
read_filling r w d b on dl bl =
    by_mark read_embeds (λ v. v.filled) (λ y. refl) r.count _
    (subst (λ (n : ℕ). Marks {P = read_ports} (λ v. v.filled) n (fresh read_ports (read_sender r) (read_receiver r) d b)) (whole_run r)
    (read_fills (transfer_of r false TARGET INITIATOR) (transfer_of r false INITIATOR TARGET) (read_sender r) (read_receiver r) d b (read_sends_up r w) (read_takes_up r w)
    (alike r false TARGET INITIATOR) on dl (omega arith)))

pub write_filling : (r : Run) → Within r → (d b : List ℕ) → 1 ≤ r.limit → length d ≡ r.count → length b ≡ r.count → Fills write_embeds (fresh write_ports (write_sender r) (write_target r) d b) r.count
write_filling r w d b on dl bl = by_mark write_embeds (λ v. v.receiver.filled) (λ y. refl) r.count _ marks
  where
    there : Target
    there = target.start_of (transfer_of r true TARGET INITIATOR)

    acked : (ack_of (next_of there area).left).left ≡ write_target r
    acked = ap (λ (v : Left Target). (ack_of v.left).left) (hands_out r w) ∙ ap (λ (v : Left Target). v.left) (acks r w)

    marks : Marks {P = write_ports} (λ v. v.receiver.filled) r.count (fresh write_ports (write_sender r) (write_target r) d b)
    marks =
        subst (λ (v : Left Target). Marks {P = write_ports} (λ z. z.receiver.filled) v.left.receiver.end (fresh write_ports (write_sender r) (write_target r) d b)) (hands_out r w)
        (subst₂ (λ (v : Left Writer) (c : Target). Marks {P = write_ports} (λ z. z.receiver.filled) (next_of there area).left.receiver.end (fresh write_ports v.left c d b)) (takes_first r w) acked
        (write_fills (initiator.start_of (transfer_of r true INITIATOR TARGET)) there area d b 36 (waits_well r w) refl refl (alike r true INITIATOR TARGET) on dl bl
        (ap (λ (v : Left Target). v.says) (hands_out r w)) (ap (λ (v : Left Writer). takes v.says) (takes_first r w)) (ap (λ (v : Left Target). (ack_of v.left).says) (hands_out r w) ∙ ap (λ (v : Left Target). v.says) (acks r w))))
