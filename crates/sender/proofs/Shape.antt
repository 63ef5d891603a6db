-- What no event changes, transfer and burst, and how far the next offset goes.
use Prim.Native.Nat.{ℕ, ◌≤◌}
use mathlib.Core.List.{List}
use mathlib.Core.Bool.{Bool, true}
use mathlib.Core.Path.{◌≡◌, refl}
use native.Mathlib.Nat.{le_refl}
use native.Mathlib.Omega.{arith}
use lib.ListN.{length}
use Rattle.frame.specs.Write.{hands}
use Rattle.status.specs.Pick.{pick}
use Rattle.status.specs.Entry.{entry_of}
use Rattle.status.specs.Answer.{Left, unless}
use Rattle.status.specs.Entry.{Entry}
use Rattle.status.proofs.Leaves.{picked, unless_gives}
use Rattle.sender_steps.specs.Record.{holds_of, lent_of}
use Rattle.sender_steps.specs.Transmit.{sent_of}
use Rattle.sender.specs.Transmit.{next_of}
use Rattle.sender_steps.specs.Confirmation.{lowered_of, restart_of, retry_of, advance_of, settle_of, cause_of}
use Rattle.sender.specs.Confirmation.{confirms_of, ack_of, nak_of, timeout_of, cut_of, loss_of}
use Rattle.sender_steps.specs.declared.types.Sender.{Sender}
use Rattle.sender_steps.proofs.Held.{Held}

-- the next offset is at most n then
pub record Shape (s : Sender) (n : ℕ) (x : Left Sender) : Type 0 where
  pub transfer : x.left.transfer ≡ s.transfer
  pub burst : x.left.burst ≡ s.burst
  pub next : x.left.next ≤ n

module _ (s : Sender) (h : Held s) where
  module _ (n : ℕ) (from : s.next ≤ n) where
    same : {x : Left Sender} → x.left.transfer ≡ s.transfer → x.left.burst ≡ s.burst → x.left.next ≡ s.next → Shape s n x
    same e f g = record { transfer = e; burst = f; next = omega arith }

    shape_pick : (t : Bool) (a b : Left Sender) → Shape s n a → Shape s n b → Shape s n (pick t a b)
    shape_pick = picked (Shape s n)

    shape_unless : (e : Entry) (x : Left Sender) → Shape s n x → Shape s n (unless e s x)
    shape_unless e x = unless_gives (Shape s n) e s x (λ m. same refl refl refl)

    -- t is s but for its counts
    module _ (t : Sender) (e : t.transfer ≡ s.transfer) (f : t.burst ≡ s.burst) (g : t.next ≡ s.next) (c : t.balance ≡ s.balance) (b : t.burst.base ≡ s.burst.base) where
      restart_most : restart_of t ≤ n
      restart_most = let m = h.marks in picked (λ (x : ℕ). x ≤ n) t.transfer.write t.burst.base t.balance (omega arith) (omega arith)

      shape_retry : (why : ℕ) → Shape s n (retry_of t why)
      unfolding retry_of
      shape_retry why = shape_pick _ _ _ (record { transfer = e; burst = f; next = restart_most }) (same e f g)

      shape_settle : Shape s n (settle_of t)
      unfolding settle_of advance_of
      shape_settle = shape_pick _ _ _ (shape_pick _ _ _ (shape_retry 28) (shape_pick _ _ _ (same e f g) (same e f g))) (same e f g)

  pub next_shape : (d out : List ℕ) → Shape s s.burst.end (next_of s d out)
  unfolding next_of hands sent_of
  next_shape d out =
      let m = h.marks in
      let from = m.next_most in
      shape_unless s.burst.end from (entry_of (lent_of s (length d)) s.ended) _
      (shape_pick s.burst.end from _ _ _ (same s.burst.end from refl refl refl)
      (shape_pick s.burst.end from _ _ _ (record { transfer = refl; burst = refl; next = omega arith }) (same s.burst.end from refl refl refl)))

  pub ack_shape : Shape s s.next (ack_of s)
  ack_shape = let q = le_refl s.next in shape_unless s.next q (confirms_of s) _ (shape_settle s.next q (lowered_of s s.nak) refl refl refl refl refl)

  pub nak_shape : Shape s s.next (nak_of s)
  nak_shape = let q = le_refl s.next in shape_unless s.next q (confirms_of s) _ (shape_settle s.next q (lowered_of s true) refl refl refl refl refl)

  pub timeout_shape : Shape s s.next (timeout_of s)
  timeout_shape = let q = le_refl s.next in shape_unless s.next q (confirms_of s) _ (shape_retry s.next q s refl refl refl refl refl (cause_of s 29))

  pub cut_shape : Shape s s.next (cut_of s)
  cut_shape =
      let q = le_refl s.next in
      shape_unless s.next q (entry_of (holds_of s) s.ended) _
      (shape_pick s.next q _ _ _ (same s.next q refl refl refl) (shape_retry s.next q s refl refl refl refl refl (cause_of s 30)))

  pub loss_shape : Shape s s.next (loss_of s)
  loss_shape = let q = le_refl s.next in shape_unless s.next q (entry_of (holds_of s) s.ended) _ (same s.next q refl refl refl)
