-- No event changes the transfer, whatever the record, and none but a frame asked for hands out a frame, which is the record's.
use Prim.Native.Nat.{ℕ}
use mathlib.Core.List.{List}
use mathlib.Core.Bool.{true}
use mathlib.Core.Path.{◌≡◌, refl}
use lib.ListN.{length}
use Rattle.status.specs.Entry.{entry_of}
use Rattle.status.specs.Answer.{Left}
use Rattle.status.proofs.Leaves.{picked}
use Rattle.frame.specs.Read.{header_in}
use Rattle.frame.specs.Write.{handing}
use Rattle.frame.specs.HandedOut.{frame_in, Carry}
use Rattle.frame.proofs.Carries.{Quiet, quiet_unless, asked_keeps, asked_carries}
use Rattle.transfer.specs.declared.Transfer.{Transfer}
use Rattle.sender_steps.specs.Record.{holds_of, lent_of}
use Rattle.sender_steps.specs.Transmit.{waits_of, frame_of, sent_of}
use Rattle.sender_steps.specs.Confirmation.{lowered_of, retry_of, advance_of, settle_of, cause_of}
use Rattle.sender_steps.specs.declared.types.Sender.{Sender}
use Rattle.sender.specs.Transmit.{next_of}
use Rattle.sender.specs.Confirmation.{confirms_of, ack_of, nak_of, timeout_of, cut_of, loss_of}

abbrev pub transfer_in : Sender → Transfer
transfer_in s = s.transfer

abbrev pub Silent : Sender → Left Sender → Type 0
Silent s z = Quiet transfer_in s z

module _ (s : Sender) where
  -- t is s with other marks and counts
  module _ (t : Sender) (e : t.transfer ≡ s.transfer) where
    retry_silent : (why : ℕ) → Silent s (retry_of t why)
    unfolding retry_of
    retry_silent why = picked (Silent s) _ _ _ (record { kept = e; silent = refl }) (record { kept = e; silent = refl })

    settle_silent : Silent s (settle_of t)
    unfolding settle_of advance_of
    settle_silent =
        picked (Silent s) _ _ _ (picked (Silent s) _ _ _ (retry_silent 28) (picked (Silent s) _ _ _ (record { kept = e; silent = refl }) (record { kept = e; silent = refl })))
        (record { kept = e; silent = refl })

  pub ack_silent : Silent s (ack_of s)
  ack_silent = quiet_unless transfer_in s (confirms_of s) _ (settle_silent (lowered_of s s.nak) refl)

  pub nak_silent : Silent s (nak_of s)
  nak_silent = quiet_unless transfer_in s (confirms_of s) _ (settle_silent (lowered_of s true) refl)

  pub timeout_silent : Silent s (timeout_of s)
  timeout_silent = quiet_unless transfer_in s (confirms_of s) _ (retry_silent s refl (cause_of s 29))

  pub cut_silent : Silent s (cut_of s)
  cut_silent = quiet_unless transfer_in s (entry_of (holds_of s) s.ended) _ (picked (Silent s) _ _ _ (record { kept = refl; silent = refl }) (retry_silent s refl (cause_of s 30)))

  pub loss_silent : Silent s (loss_of s)
  loss_silent = quiet_unless transfer_in s (entry_of (holds_of s) s.ended) _ (record { kept = refl; silent = refl })

  pub next_keeps : (d out : List ℕ) → (next_of s d out).left.transfer ≡ s.transfer
  unfolding next_of sent_of
  next_keeps d out = asked_keeps s (sent_of s) (entry_of (lent_of s (length d)) s.ended) (waits_of s) (frame_of s d) out transfer_in refl

  pub next_carries : (d out : List ℕ) (n : ℕ) → (header_in (frame_of s d)).tptt ≡ n → let z = next_of s d out in Carry n (frame_in z.says (handing z.says (frame_of s d) out))
  unfolding next_of
  next_carries d out = asked_carries s (sent_of s) (entry_of (lent_of s (length d)) s.ended) (waits_of s) (frame_of s d) out
