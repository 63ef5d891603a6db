-- Each RESPONSE that a record hands out, in any list of calls, carries the transfer's value.
use Prim.Native.Nat.{ℕ, ◌^◌, ◌<◌}
use mathlib.Core.List.{List}
use mathlib.Core.Path.{◌≡◌, refl, sym, ap, subst, ◌∙◌}
use native.Mathlib.Omega.{arith}
use lib.ListN.{length}
use Rattle.status.specs.Entry.{entry_of}
use Rattle.status.specs.Answer.{Left}
use Rattle.status.proofs.Leaves.{picked}
use Rattle.transfer.specs.declared.Transfer.{Transfer}
use Rattle.frame.specs.Read.{header_in}
use Rattle.frame.specs.Write.{handing}
use Rattle.frame.specs.HandedOut.{frame_in, Carry}
use Rattle.frame.proofs.Carries.{tptt_back, Quiet, quiet_unless, quiet_carries, asked_keeps, asked_carries, carries}
use Rattle.response.specs.Record.{holds_of}
use Rattle.response.specs.Transmit.{lent_of, response_header, sent_of, frame_of, next_of}
use Rattle.response.specs.Confirmation.{confirms_of, retry_of, ack_of, nak_of, timeout_of, cut_of, loss_of}
use Rattle.response.specs.CarriesValue.{Call, called, lent_by, response_calls, CarriesValue}
use Rattle.response.specs.declared.types.Responder.{Responder}

abbrev transfer_in : Responder → Transfer
transfer_in x = x.transfer

abbrev Silent : Responder → Left Responder → Type 0
Silent x z = Quiet transfer_in x z

module _ (x : Responder) where
  retry_silent : (why : ℕ) → Silent x (retry_of x why)
  unfolding retry_of
  retry_silent why = picked (Silent x) _ _ _ (record { kept = refl; silent = refl }) (record { kept = refl; silent = refl })

  ack_silent : Silent x (ack_of x)
  ack_silent = quiet_unless transfer_in x (confirms_of x) _ (record { kept = refl; silent = refl })

  nak_silent : Silent x (nak_of x)
  nak_silent = quiet_unless transfer_in x (confirms_of x) _ (retry_silent 28)

  timeout_silent : Silent x (timeout_of x)
  timeout_silent = quiet_unless transfer_in x (confirms_of x) _ (retry_silent 29)

  cut_silent : Silent x (cut_of x)
  cut_silent = quiet_unless transfer_in x (entry_of (holds_of x) x.ended) _ (picked (Silent x) _ _ _ (retry_silent 30) (record { kept = refl; silent = refl }))

  loss_silent : Silent x (loss_of x)
  loss_silent = quiet_unless transfer_in x (entry_of (holds_of x) x.ended) _ (record { kept = refl; silent = refl })

  next_keeps : (iu out : List ℕ) → (next_of x iu out).left.transfer ≡ x.transfer
  unfolding next_of
  next_keeps iu out = asked_keeps x (sent_of x) (entry_of (lent_of x (length iu)) x.ended) x.unanswered (frame_of x iu) out transfer_in refl

  next_carries : (iu out : List ℕ) (n : ℕ) → (header_in (frame_of x iu)).tptt ≡ n → let z = next_of x iu out in Carry n (frame_in z.says (handing z.says (frame_of x iu) out))
  unfolding next_of
  next_carries iu out = asked_carries x (sent_of x) (entry_of (lent_of x (length iu)) x.ended) x.unanswered (frame_of x iu) out

-- resent or not
frame_carries : (x : Responder) (iu : List ℕ) → x.transfer.value < 2 ^ 16 → (header_in (frame_of x iu)).tptt ≡ x.transfer.value
unfolding frame_of response_header
frame_carries x iu l = let e : (response_header x).tptt ≡ x.transfer.value = omega arith in tptt_back (response_header x) iu (omega arith) ∙ e

call_same : (c : Call) (x : Responder) → (called c x).left.transfer ≡ x.transfer
call_same (Call.asking iu out) x = next_keeps x iu out
call_same Call.ack x = (ack_silent x).kept
call_same Call.nak x = (nak_silent x).kept
call_same Call.timeout x = (timeout_silent x).kept
call_same Call.cut x = (cut_silent x).kept
call_same Call.loss x = (loss_silent x).kept

module _ (n : ℕ) (small : n < 2 ^ 16) where
  abbrev Good : Responder → Type 0
  Good x = x.transfer.value ≡ n

  hands_so : (c : Call) (x : Responder) → Good x → Carry n (frame_in (called c x).says (lent_by c x))
  hands_so (Call.asking iu out) x g = next_carries x iu out n (frame_carries x iu (subst (λ (v : ℕ). v < 2 ^ 16) (sym g) small) ∙ g)
  hands_so Call.ack x g = quiet_carries transfer_in x _ n (ack_silent x)
  hands_so Call.nak x g = quiet_carries transfer_in x _ n (nak_silent x)
  hands_so Call.timeout x g = quiet_carries transfer_in x _ n (timeout_silent x)
  hands_so Call.cut x g = quiet_carries transfer_in x _ n (cut_silent x)
  hands_so Call.loss x g = quiet_carries transfer_in x _ n (loss_silent x)

pub carries_value : CarriesValue
carries_value x l = let n = x.transfer.value in carries response_calls n (Good n l) (λ c y g. ap (λ (t : Transfer). t.value) (call_same c y) ∙ g) (hands_so n l) x refl
