-- A target that was set up is never refused with 1 for its record, whatever calls come: the tags in use are few enough.
use Prim.Native.Nat.{ℕ, ◌+◌, ◌≤◌}
use mathlib.Core.Bool.{Bool, true, false}
use mathlib.Core.List.{List}
use mathlib.Core.Path.{◌≡◌, refl}
use native.Mathlib.Omega.{arith}
use Rattle.status.specs.Answer.{Left}
use Rattle.status.specs.Pick.{pick, all}
use Rattle.status.specs.Result.{Result, granted}
use Rattle.status.proofs.Choose.{each}
use Rattle.status.proofs.OpenedCall.{differ}
use Rattle.transfer.specs.declared.Transfer.{Transfer}
use Rattle.target.specs.Record.{UNANSWERED, AGAIN, holds_of, start_of, set_up_tests, set_up_write_of}
use Rattle.target.specs.Transmit.{due_of, issued_of, next_of}
use Rattle.target.specs.Confirmation.{ack_of, nak_of, timeout_of, cut_of, loss_of}
use Rattle.target.specs.Arrival.{write_arrival_of}
use Rattle.target.specs.Time.{time_of}
use Rattle.target.specs.declared.types.Target.{Target}
use Rattle.target.proofs.Held.{held}
use Rattle.target.proofs.Issue.{Due, due, resent, started}
use Rattle.target.proofs.Kept as kept
use Rattle.target.proofs.Moved.{Moved, next_moved, ack_moved, nak_moved, timeout_moved, cut_moved, loss_moved, time_moved, arrival_moved}

-- tags handed out since a store: the first of a burst and one for each retry; none where the next burst's may be handed out
pub record Tags (state since retries filled end : ℕ) : Type 0 where
  pub most : since ≤ retries + 1
  pub again : state ≡ AGAIN → since ≤ retries
  pub free : (state ≡ AGAIN → ⊥) → (state ≡ UNANSWERED → ⊥) → filled ≡ end → since ≡ 0

pub record Within (x : Target) : Type 0 where
  pub holds : holds_of x ≡ true
  pub tags : x.receiver.ended ≡ false → Tags x.state x.since x.retries x.receiver.filled x.receiver.end

-- a target that was set up
pub set_up : (t : Transfer) (y : Target) → set_up_write_of t ≡ Result.value y → (all (set_up_tests t) ≡ true) × (y ≡ start_of t)
unfolding granted pick
set_up t y e = go (all (set_up_tests t)) refl e
  where
    go : (ok : Bool) → all (set_up_tests t) ≡ ok → granted ok (start_of t) ≡ Result.value y → (all (set_up_tests t) ≡ true) × (y ≡ start_of t)
    go true p e = (p, cc)
    go false p e = differ (cc)

pub start_within : (t : Transfer) (y : Target) → set_up_write_of t ≡ Result.value y → Within y
start_within t y e =
    let s = set_up t y e in
    let h = each (set_up_tests t) s.0 in
    rw s.1 (record { holds = kept.start_holds t h.0 h.1.0; tags = λ o. record { most = omega arith; again = λ a. omega arith; free = λ a u f. refl } })

module _ (x : Target) where
  -- an XFER_RDY that is due has a tag to hand out
  pub tag_left : Within x → x.receiver.ended ≡ false → due_of x ≡ true → x.since + 1 ≤ 16
  tag_left w o d = go (due x d)
    where
      go : Due x → x.since + 1 ≤ 16
      go (Due.resend e) = let h = held x w.holds in omega (arith, h.retries_most, h.marks.limits, (w.tags o).again e)
      go (Due.fresh a u f l) = omega (arith, (w.tags o).free a u f)

  -- the tags after any call
  tags_after : {ms : ℕ} {z : Left Target} → Within x → Moved x ms z → z.left.receiver.ended ≡ false → Tags z.left.state z.left.since z.left.retries z.left.receiver.filled z.left.receiver.end
  unfolding issued_of
  tags_after w (Moved.refused n) o = w.tags o
  tags_after w Moved.waits o = w.tags o
  tags_after w Moved.unchanged o = w.tags o
  tags_after w (Moved.discarded b) o = w.tags o
  tags_after w (Moved.issued g d n) o = record { most = go (due x d); again = λ a. omega arith; free = λ a u f. absurd (u refl) }
    where
      go : Due x → x.since + 1 ≤ (issued_of x).retries + 1
      go (Due.resend e) = rw (resent x e) (omega (arith, (w.tags g.going).again e))
      go (Due.fresh a u f l) = rw (started x a) (omega (arith, (w.tags g.going).free a u f))
  tags_after w (Moved.acknowledged g u) o = let h = held x w.holds in record { most = (w.tags o).most; again = λ a. omega arith; free = λ a v f. absurd (omega (arith, h.some (λ z. omega arith))) }
  tags_after w (Moved.retried g u l) o = record { most = omega (arith, (w.tags o).most); again = λ a. (w.tags o).most; free = λ a v f. absurd (a refl) }
  tags_after w (Moved.stored s offset n l) o = record { most = omega arith; again = λ a. omega arith; free = λ a u f. refl }
  tags_after w (Moved.received s offset n e) o = record { most = omega arith; again = λ a. omega arith; free = λ a u f. refl }
  tags_after w (Moved.counts b) o = w.tags o
  tags_after w (Moved.fails c e t) o = differ (cc)

  module _ (w : Within x) where
    after : {ms : ℕ} {z : Left Target} → Moved x ms z → holds_of z.left ≡ true → Within z.left
    after m h = record { holds = h; tags = tags_after w m }

    pub next_within : (out : List ℕ) → Within (next_of x out).left
    next_within out = after (next_moved x 0 out) (kept.next_kept x w.holds out (tag_left w))

    pub ack_within : Within (ack_of x).left
    ack_within = after (ack_moved x 0) (kept.ack_kept x w.holds)

    pub nak_within : Within (nak_of x).left
    nak_within = after (nak_moved x 0) (kept.nak_kept x w.holds)

    pub timeout_within : Within (timeout_of x).left
    timeout_within = after (timeout_moved x 0) (kept.timeout_kept x w.holds)

    pub cut_within : Within (cut_of x).left
    cut_within = after (cut_moved x 0) (kept.cut_kept x w.holds)

    pub loss_within : Within (loss_of x).left
    loss_within = after (loss_moved x 0) (kept.loss_kept x w.holds)

    pub time_within : (ms : ℕ) → Within (time_of x ms).left
    time_within ms = after (time_moved x ms) (kept.time_kept x w.holds ms)

    pub arrival_within : (f : List ℕ) (m : ℕ) → Within (write_arrival_of x f m).left
    arrival_within f m = after (arrival_moved x 0 f m) (kept.arrival_kept x w.holds f m)
