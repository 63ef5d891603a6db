-- Every event leaves a write's well-formed record well-formed; a frame handed out asks that the frame count is below its limit by more than one.
use Prim.Native.Nat.{ℕ, ◌+◌, ◌^◌, max, ◌≤◌, ◌<◌}
use mathlib.Core.Bool.{Bool, true}
use mathlib.Core.List.{List}
use mathlib.Core.Path.{◌≡◌, refl, ap, ◌∙◌}
use native.Mathlib.Omega.{arith}
use lib.Dec.{eqb}
use lib.ListN.{length}
use Rattle.status.specs.Entry.{entry_of}
use Rattle.status.specs.Pick.{◌with◌}
use Rattle.status.specs.Answer.{Word, Said, Left, ◌saying◌, refuses}
use Rattle.status.proofs.Leaves.{picked, unless_gives}
use Rattle.transfer.specs.declared.Transfer.{Transfer}
use Rattle.sender_steps.specs.Fields.{unanswered≔}
use Rattle.sender.specs.Transmit as transmit
use Rattle.sender_steps.specs.Confirmation as confirmation
use Rattle.sender_steps.specs.Record as sender
use Rattle.sender_steps.specs.declared.types.Burst.{Burst}
use Rattle.sender_steps.specs.declared.types.Sender.{Sender}
use Rattle.sender_steps.proofs.Held as core
use Rattle.sender.proofs.Kept.{begins_holds, ended_holds, next_kept, ack_kept, nak_kept, timeout_kept, cut_kept}
use Rattle.sender.proofs.Shape.{Shape, next_shape, ack_shape, nak_shape, timeout_shape, cut_shape}
use Rattle.initiator.specs.Fields.{sender≔, reached≔, pending≔, taken≔}
use Rattle.initiator.specs.WriteRecord.{holds_of, begins_of, starts_of}
use Rattle.initiator.specs.WriteSend.{lifted_of, reached_of, lent_of, held_up, begun_of, kept_of, next_of, counted_of, confirmed_of, ack_of, nak_of, timeout_of, cut_of, loss_of}
use Rattle.initiator.specs.WriteTake.{ended_of, asked_of, limit_of, burst_taken, write_arrival_of}
use Rattle.initiator.specs.declared.types.Writer.{Writer}
use Rattle.initiator.proofs.WriteHeld.{held, holds_again}
use Rattle.initiator.proofs.WriteViews.{Came, came}

abbrev Kept : Left Writer → Type 0
Kept x = holds_of x.left ≡ true

pub begins_well : (w : Writer) (b : Burst) → holds_of w ≡ true → b.base ≤ b.end → b.end ≤ w.sender.transfer.count → b.limit ≤ w.sender.transfer.limit → holds_of (begins_of w.sender.transfer b) ≡ true
begins_well w b h p q r =
    let k = held w h in
    holds_again (begins_of w.sender.transfer b) (begins_holds w.sender.transfer b k.core.limits_held (omega (arith, k.from_0)) p (omega (arith, k.from_0)) r) k.write (omega arith)

pub starts_well : (w : Writer) → holds_of w ≡ true → holds_of (starts_of w) ≡ true
starts_well w h = let m = (held w h).marks in begins_well w w.taken h m.base_most m.end_most m.limit_most

pub limit_most : (w : Writer) (retry : Bool) → limit_of w retry ≤ w.sender.transfer.limit
limit_most w retry = picked (λ (n : ℕ). n ≤ w.sender.transfer.limit) retry _ _ (omega arith) (omega arith)

module _ (w : Writer) (h : holds_of w ≡ true) where
  -- a sending record of the same transfer and burst, with the furthest offset v
  pub holds_with : (s : Sender) (v : ℕ) → sender.holds_of s ≡ true → s.transfer ≡ w.sender.transfer → s.burst ≡ w.sender.burst → s.next ≤ v → v ≤ w.sender.burst.end → holds_of (w with sender≔ s with reached≔ v) ≡ true
  holds_with s v k t b least most =
      let m = (held w h).marks in
      let c : s.transfer.count ≡ w.sender.transfer.count = ap (λ (x : Transfer). x.count) t in
      let l : s.transfer.limit ≡ w.sender.transfer.limit = ap (λ (x : Transfer). x.limit) t in
      let e : s.burst.end ≡ w.sender.burst.end = ap (λ (x : Burst). x.end) b in
      holds_again (w with sender≔ s with reached≔ v) k (ap (λ (x : Transfer). x.write) t ∙ (held w h).write) (omega (arith, m.base_most, m.end_most, m.limit_most))

  signal_kept : (x : Left Sender) → Shape w.sender w.sender.next x → sender.holds_of x.left ≡ true → Kept (lifted_of w x)
  signal_kept x p k = let m = (held w h).marks in holds_with x.left w.reached k p.transfer p.burst (omega (arith, p.next, m.reached_least)) m.reached_most

  counted_kept : (n : ℕ) → n ≤ w.sender.unanswered → Kept (counted_of w n)
  unfolding counted_of
  counted_kept n l =
      let m = (held w h).marks in
      let c = (held w h).core.marks in
      picked (λ (v : Writer). holds_of v ≡ true) (eqb n 0) _ _ (starts_well w h)
      (holds_with (w.sender with unanswered≔ n) w.reached (core.holds_again (w.sender with unanswered≔ n) (held w h).core.limits_held (omega arith)) refl refl m.reached_least m.reached_most)

  answered_kept : (x : Left Sender) (n : ℕ) → n ≤ w.sender.unanswered → Shape w.sender w.sender.next x → sender.holds_of x.left ≡ true → Kept (confirmed_of w x n)
  unfolding confirmed_of
  answered_kept x n l p k = unless_gives Kept (entry_of (holds_of w) w.sender.ended) w _ (λ n. h) (picked Kept (held_up w) _ _ (counted_kept n l) (signal_kept x p k))

  c : sender.holds_of w.sender ≡ true
  c = (held w h).holds

  pub write_ack_kept : holds_of (ack_of w).left ≡ true
  write_ack_kept = answered_kept _ _ (omega arith) (ack_shape w.sender (core.held _ c)) (ack_kept w.sender c)

  pub write_nak_kept : holds_of (nak_of w).left ≡ true
  write_nak_kept = answered_kept _ _ (omega arith) (nak_shape w.sender (core.held _ c)) (nak_kept w.sender c)

  pub write_timeout_kept : holds_of (timeout_of w).left ≡ true
  write_timeout_kept = answered_kept _ _ (omega arith) (timeout_shape w.sender (core.held _ c)) (timeout_kept w.sender c)

  pub write_cut_kept : holds_of (cut_of w).left ≡ true
  write_cut_kept = answered_kept _ _ (omega arith) (cut_shape w.sender (core.held _ c)) (cut_kept w.sender c)

  pub ended_well : holds_of (ended_of w) ≡ true
  ended_well = let m = (held w h).marks in holds_with (confirmation.ended_of w.sender) w.reached (ended_holds w.sender (core.held _ c)) refl refl m.reached_least m.reached_most

  pub write_loss_kept : holds_of (loss_of w).left ≡ true
  write_loss_kept = unless_gives Kept (entry_of (holds_of w) w.sender.ended) w _ (λ n. h) (unless_gives (λ (x : Left Sender). Kept (lifted_of w x)) (entry_of (sender.holds_of w.sender) w.sender.ended) w.sender _ (λ n. h) ended_well)

  burst_kept : (b : Burst) (a : Said) → b.base ≤ b.end → b.end ≤ w.sender.transfer.count → b.limit ≤ w.sender.transfer.limit → Kept (burst_taken w b a)
  unfolding burst_taken
  burst_kept b a p q r =
      let m = (held w h).marks in
      picked (λ (v : Writer). holds_of v ≡ true) (eqb w.sender.unanswered 0) _ _ (begins_well w b h p q r)
      (holds_again (w with pending≔ true with taken≔ b) c (held w h).write (omega arith))

  pub write_arrival_kept : (f : List ℕ) → holds_of (write_arrival_of w f).left ≡ true
  write_arrival_kept f = go (came w f)
    where
      go : {x : Left Writer} → Came w x → Kept x
      go (Came.refused n) = h
      go (Came.failed n) = ended_well
      go (Came.taken hd x i t) = burst_kept (asked_of w hd x) _ (omega (arith, i.some)) (omega (arith, i.most)) (limit_most w hd.flags.retry)
      go (Came.answered start len l) = ended_well

-- a frame asked for, with the frame count of the record that serves it
pub write_next_kept : (w : Writer) (d out : List ℕ) → holds_of w ≡ true → (begun_of w).sender.frames + 1 < 2 ^ 60 → holds_of (next_of w d out).left ≡ true
unfolding next_of begun_of
write_next_kept w d out h l =
    unless_gives Kept (entry_of (lent_of w (length d)) w.sender.ended) w _ (λ n. h)
    (picked Kept (held_up w) (w saying Said.word Word.wait) (kept_of w answer_of) h (picked Kept (refuses answer_of.says) (w saying answer_of.says) answer_of h (served (begun_of w) (picked (λ (v : Writer). holds_of v ≡ true) w.pending _ _ (starts_well w h) h) l)))
  where
    answer_of : Left Writer
    answer_of = reached_of (begun_of w) (transmit.next_of (begun_of w).sender d out)

    served : (v : Writer) → holds_of v ≡ true → v.sender.frames + 1 < 2 ^ 60 → Kept (reached_of v (transmit.next_of v.sender d out))
    served v k l =
        let m = (held v k).marks in
        let p = next_shape v.sender (core.held _ (held v k).holds) d out in
        holds_with v k (transmit.next_of v.sender d out).left (max v.reached (transmit.next_of v.sender d out).left.next) (next_kept v.sender (held v k).holds d out l) p.transfer p.burst (omega arith) (omega (arith, p.next, m.reached_most))
