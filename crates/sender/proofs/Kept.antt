-- Every event leaves a well-formed record well-formed; a frame handed out asks that the frame count is below its limit by more than one.
use Prim.Native.Nat.{ℕ, ◌+◌, ◌^◌, ◌≤◌, ◌<◌}
use mathlib.Core.List.{List}
use mathlib.Core.Bool.{Bool, true, false}
use mathlib.Core.Path.{◌≡◌, refl}
use native.Mathlib.Omega.{arith}
use lib.Dec.{leb}
use lib.ListN.{length}
use Rattle.frame.specs.Write.{hands}
use Rattle.status.specs.Pick.{pick}
use Rattle.status.specs.Entry.{entry_of}
use Rattle.status.specs.Answer.{Word, Said, Left, ◌saying◌}
use Rattle.status.proofs.Leaves.{picked, unless_gives}
use Rattle.transfer.specs.Limits.{past, limits_hold}
use Rattle.transfer.specs.declared.Transfer.{Transfer}
use Rattle.sender_steps.specs.Record.{holds_of, beginning, lent_of}
use Rattle.sender_steps.specs.Transmit.{waits_of, frame_of, sent_of}
use Rattle.sender.specs.Transmit.{hands_of, next_of}
use Rattle.sender_steps.specs.Confirmation.{lowered_of, ended_of, retried_of, restart_of, moved_of, delivered_of, settle_of, cause_of}
use Rattle.sender.specs.Confirmation.{confirms_of, ack_of, nak_of, timeout_of, cut_of, loss_of}
use Rattle.sender_steps.specs.declared.types.Burst.{Burst}
use Rattle.sender_steps.specs.declared.types.Sender.{Sender}
use Rattle.sender_steps.proofs.Held.{Held, held, holds_again}
use Rattle.sender_steps.proofs.Due.{Due, due}
use Rattle.sender.proofs.Views.{Retried, retried, Settled, settled}

pub begins_holds : (t : Transfer) (b : Burst) → limits_hold t ≡ true → t.start ≤ b.base → b.base ≤ b.end → b.end ≤ past t → b.limit ≤ t.limit → holds_of (beginning t b) ≡ true
begins_holds t b l o p q r = holds_again (beginning t b) l (omega arith)

module _ (s : Sender) (h : Held s) where
  open h use {marks, limits_held}

  pub sent_holds : Due s → s.frames + 1 < 2 ^ 60 → holds_of (sent_of s) ≡ true
  unfolding sent_of
  sent_holds d f = let m = marks in let w = d.window in holds_again (sent_of s) limits_held (omega arith)

  pub lowered_holds : (nak : Bool) → holds_of (lowered_of s nak) ≡ true
  lowered_holds nak = let m = marks in holds_again (lowered_of s nak) limits_held (omega arith)

  pub ended_holds : holds_of (ended_of s) ≡ true
  ended_holds = let m = marks in holds_again (ended_of s) limits_held (omega arith)

  pub retried_holds : s.retries < s.burst.limit → holds_of (retried_of s) ≡ true
  retried_holds r =
      let m = marks in
      let p : s.burst.base ≤ restart_of s = picked (λ (x : ℕ). s.burst.base ≤ x) s.transfer.write s.burst.base s.balance (omega arith) (omega arith) in
      let q : restart_of s ≤ s.burst.end = picked (λ (x : ℕ). x ≤ s.burst.end) s.transfer.write s.burst.base s.balance (omega arith) (omega arith) in
      holds_again (retried_of s) limits_held (omega arith)

  moved_marks : (s.burst.base ≤ (moved_of s).balance) × ((moved_of s).balance ≤ s.next) × ((moved_of s).retries ≤ s.burst.limit)
  moved_marks =
      let m = marks in (
        picked (λ (x : ℕ). s.burst.base ≤ x) s.transfer.write s.balance s.next (omega arith) (omega arith),
        picked (λ (x : ℕ). x ≤ s.next) s.transfer.write s.balance s.next (omega arith) (omega arith),
        picked (λ (x : ℕ). x ≤ s.burst.limit) s.transfer.write s.retries 0 (omega arith) (omega arith),
      )

  pub moved_holds : holds_of (moved_of s) ≡ true
  moved_holds = let m = marks in let n = moved_marks in holds_again (moved_of s) limits_held (omega arith)

  pub delivered_holds : holds_of (delivered_of s) ≡ true
  delivered_holds = let m = marks in let n = moved_marks in holds_again (delivered_of s) limits_held (omega arith)

  retry_holds : {c : ℕ} {x : Left Sender} → Retried s c x → holds_of x.left ≡ true
  retry_holds (Retried.again r) = retried_holds r
  retry_holds (Retried.spent r) = ended_holds

settle_holds : (s : Sender) → holds_of s ≡ true → holds_of (settle_of s).left ≡ true
settle_holds s h = go (settled s)
  where
    go : {x : Left Sender} → Settled s x → holds_of x.left ≡ true
    go (Settled.more m) = h
    go (Settled.retries z k r) = retry_holds s (held s h) r
    go (Settled.moves z k m) = moved_holds s (held s h)
    go (Settled.delivers z k d) = delivered_holds s (held s h)

abbrev Kept : Left Sender → Type 0
Kept x = holds_of x.left ≡ true

module _ (s : Sender) (h : holds_of s ≡ true) where
  pub next_kept : (d out : List ℕ) → s.frames + 1 < 2 ^ 60 → holds_of (next_of s d out).left ≡ true
  unfolding next_of hands pick
  next_kept d out f = unless_gives Kept (entry_of (lent_of s (length d)) s.ended) s _ (λ n. h) (go (waits_of s) refl)
    where
      go : (t : Bool) → waits_of s ≡ t → Kept (pick t (s saying Said.word Word.wait) (hands_of s d out))
      go true e = h
      go false e = picked Kept (leb (length (frame_of s d)) (length out)) (sent_of s saying Said.frame (length (frame_of s d))) (s saying Said.refused 3) (sent_holds s (held s h) (due s e) f) h

  pub ack_kept : holds_of (ack_of s).left ≡ true
  ack_kept = unless_gives Kept (confirms_of s) s _ (λ n. h) (settle_holds (lowered_of s s.nak) (lowered_holds s (held s h) s.nak))

  pub nak_kept : holds_of (nak_of s).left ≡ true
  nak_kept = unless_gives Kept (confirms_of s) s _ (λ n. h) (settle_holds (lowered_of s true) (lowered_holds s (held s h) true))

  pub timeout_kept : holds_of (timeout_of s).left ≡ true
  timeout_kept = unless_gives Kept (confirms_of s) s _ (λ n. h) (retry_holds s (held s h) (retried s (cause_of s 29)))

  pub cut_kept : holds_of (cut_of s).left ≡ true
  cut_kept = unless_gives Kept (entry_of (holds_of s) s.ended) s _ (λ n. h) (picked Kept _ _ _ h (retry_holds s (held s h) (retried s (cause_of s 30))))

  pub loss_kept : holds_of (loss_of s).left ≡ true
  loss_kept = unless_gives Kept (entry_of (holds_of s) s.ended) s _ (λ n. h) (ended_holds s (held s h))
