-- Each frame that a read's sending record hands out, in any list of calls, carries the transfer's value.
use Prim.Native.Nat.{ℕ, ◌^◌, ◌<◌}
use mathlib.Core.List.{List, []}
use mathlib.Core.Bool.{false}
use mathlib.Core.Path.{◌≡◌, refl, sym, ap, subst, ◌∙◌}
use Rattle.status.specs.Answer.{Said, Left, ◌saying◌}
use Rattle.status.proofs.Leaves.{picked}
use Rattle.transfer.specs.declared.Transfer.{Transfer}
use Rattle.frame.specs.Read.{header_in}
use Rattle.frame.specs.Write.{handing}
use Rattle.frame.specs.HandedOut.{frame_in, Carry}
use Rattle.frame.proofs.Carries.{quiet_carries, carries}
use Rattle.sender_steps.specs.Transmit.{frame_of}
use Rattle.sender_steps.specs.declared.types.Sender.{Sender}
use Rattle.sender_steps.proofs.CarriesValue.{frame_carries}
use Rattle.sender.specs.Transmit.{next_of}
use Rattle.sender.proofs.CarriesValue.{transfer_in, Silent, ack_silent, nak_silent, timeout_silent, cut_silent, loss_silent, next_keeps, next_carries}
use Rattle.target.specs.ReadSend.{only_read}
use Rattle.target.proofs.Ended.{read_refuses}
use Rattle.link.specs.Ports.{Signal}
use Rattle.link.specs.Calls.{signalled, read_signalled, SenderCall}
use Rattle.link.specs.CarriesValue.{SendingCall, sending_call, sending_lent, sending_calls, CarriesValue}

-- a read's record whose value is n
record Good (n : ℕ) (s : Sender) : Type 0 where
  read : s.transfer.write ≡ false
  value : s.transfer.value ≡ n

only_silent : (s : Sender) (z : Left Sender) → Silent s z → Silent s (only_read s z)
only_silent s z q = picked (Silent s) _ _ z (record { kept = refl; silent = refl }) q

signal_silent : (g : Signal) (s : Sender) → Silent s (signalled g s)
signal_silent Signal.ack s = ack_silent s
signal_silent Signal.nak s = nak_silent s
signal_silent Signal.timeout s = timeout_silent s
signal_silent Signal.cut s = cut_silent s
signal_silent Signal.loss s = loss_silent s

read_signal_silent : (g : Signal) (s : Sender) → Silent s (read_signalled g s)
read_signal_silent Signal.ack s = only_silent s _ (ack_silent s)
read_signal_silent Signal.nak s = only_silent s _ (nak_silent s)
read_signal_silent Signal.timeout s = only_silent s _ (timeout_silent s)
read_signal_silent Signal.cut s = only_silent s _ (cut_silent s)
read_signal_silent Signal.loss s = only_silent s _ (loss_silent s)

call_same : (c : SendingCall) (s : Sender) → (sending_call c s).left.transfer ≡ s.transfer
call_same (SendingCall.asking d out) s = picked (λ (z : Left Sender). z.left.transfer ≡ s.transfer) _ _ (next_of s d out) refl (next_keeps s d out)
call_same (SendingCall.signals g) s = (read_signal_silent g s).kept
call_same (SendingCall.other (SenderCall.bytes f)) s = ap (λ (z : Left Sender). z.left.transfer) (read_refuses s f).1
call_same (SendingCall.other (SenderCall.core_ask d out)) s = next_keeps s d out
call_same (SendingCall.other (SenderCall.core_signal g)) s = (signal_silent g s).kept

module _ (n : ℕ) (small : n < 2 ^ 16) where
  keeps : (c : SendingCall) (s : Sender) → Good n s → Good n (sending_call c s).left
  keeps c s g = let e = call_same c s in record { read = ap (λ (t : Transfer). t.write) e ∙ g.read; value = ap (λ (t : Transfer). t.value) e ∙ g.value }

  carry : (s : Sender) (d : List ℕ) → Good n s → (header_in (frame_of s d)).tptt ≡ n
  carry s d g = frame_carries s d g.read (subst (λ (v : ℕ). v < 2 ^ 16) (sym g.value) small) ∙ g.value

  hands_so : (c : SendingCall) (s : Sender) → Good n s → Carry n (frame_in (sending_call c s).says (sending_lent c s))
  hands_so (SendingCall.asking d out) s g =
      picked (λ (z : Left Sender). Carry n (frame_in z.says (handing z.says (frame_of s d) out))) s.transfer.write (s saying Said.refused 1) (next_of s d out) tt (next_carries s d out n (carry s d g))
  hands_so (SendingCall.signals g) s q = quiet_carries transfer_in s _ n (read_signal_silent g s)
  hands_so (SendingCall.other (SenderCall.bytes f)) s g = subst (λ (z : Left Sender). Carry n (frame_in z.says [])) (sym (read_refuses s f).1) tt
  hands_so (SendingCall.other (SenderCall.core_ask d out)) s g = next_carries s d out n (carry s d g)
  hands_so (SendingCall.other (SenderCall.core_signal g)) s q = quiet_carries transfer_in s _ n (signal_silent g s)

pub carries_value : CarriesValue
carries_value s r l = let n = s.transfer.value in carries sending_calls n (Good n) (keeps n l) (hands_so n l) s (record { read = r; value = refl })
