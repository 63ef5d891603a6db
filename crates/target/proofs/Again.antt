-- The burst of the XFER_RDY handed out last stays until the next is handed out, and one that is sent again is for the same burst.
use Prim.Native.Nat.{ℕ}
use mathlib.Core.List.{List}
use mathlib.Core.Path.{◌≡◌, refl, ap}
use lib.Dec.{eqb}
use Rattle.status.specs.Entry.{entry_of}
use Rattle.status.specs.Answer.{Left}
use Rattle.status.proofs.Leaves.{picked, unless_gives}
use Rattle.receiver.specs.DataFrame.{arrival_of}
use Rattle.receiver.proofs.Kept.{Same, arrival_same}
use Rattle.target.specs.Record.{UNANSWERED, AGAIN, holds_of}
use Rattle.target.specs.Transmit.{issued_of}
use Rattle.target.specs.Confirmation.{confirms_of, retry_of, ack_of, nak_of, timeout_of, cut_of, loss_of}
use Rattle.target.specs.Arrival.{write_arrival_of}
use Rattle.target.specs.Time.{time_of}
use Rattle.target.specs.declared.types.Target.{Target}
use Rattle.target.proofs.Issue.{resent}
use Rattle.target.proofs.Views.{Came, came, lifts_to}
use Rattle.target.proofs.Timed.{Timed, timed}

-- the same transfer and burst
abbrev pub Keeps : Target → Target → Type 0
Keeps y z = Same y.receiver z.receiver

module _ (y : Target) where
  abbrev Stays : Left Target → Type 0
  Stays z = Keeps y z.left

  pub stays : Keeps y y
  stays = record { transfer = refl; base = refl; end = refl }

  retry_stays : (cause : ℕ) → Stays (retry_of y cause)
  unfolding retry_of
  retry_stays cause = picked Stays _ _ _ stays (record { transfer = refl; base = refl; end = refl })

  pub ack_keeps : Keeps y (ack_of y).left
  ack_keeps = unless_gives Stays (confirms_of y) y _ (λ n. stays) (record { transfer = refl; base = refl; end = refl })

  pub nak_keeps : Keeps y (nak_of y).left
  nak_keeps = unless_gives Stays (confirms_of y) y _ (λ n. stays) (retry_stays 28)

  pub timeout_keeps : Keeps y (timeout_of y).left
  timeout_keeps = unless_gives Stays (confirms_of y) y _ (λ n. stays) (retry_stays 29)

  pub cut_keeps : Keeps y (cut_of y).left
  cut_keeps = unless_gives Stays (entry_of (holds_of y) y.receiver.ended) y _ (λ n. stays) (picked Stays (eqb y.state UNANSWERED) _ _ (retry_stays 30) stays)

  pub loss_keeps : Keeps y (loss_of y).left
  loss_keeps = unless_gives Stays (entry_of (holds_of y) y.receiver.ended) y _ (λ n. stays) (record { transfer = refl; base = refl; end = refl })

  pub time_keeps : (ms : ℕ) → Keeps y (time_of y ms).left
  time_keeps ms = go (timed y ms)
    where
      go : {z : Left Target} → Timed y ms z → Stays z
      go (Timed.refused n c) = stays
      go (Timed.outside c) = stays
      go (Timed.expires l) = record { transfer = refl; base = refl; end = refl }
      go (Timed.counts l) = stays

  pub arrival_keeps : (f : List ℕ) (m : ℕ) → Keeps y (write_arrival_of y f m).left
  arrival_keeps f m = go (came y f m)
    where
      go : {z : Left Target} → Came y m z → Stays z
      go (Came.refused n) = stays
      go (Came.early e) = stays
      go (Came.taken t offset cdp n) = rw (lifts_to y (arrival_of y.receiver offset cdp n m)).receiver (arrival_same y.receiver offset cdp n m)

  -- sent again: "the rest the same"
  pub issued_again : y.state ≡ AGAIN → (issued_of y).receiver ≡ y.receiver
  unfolding issued_of
  issued_again e = ap (λ (z : Target). z.receiver) (resent y e)
