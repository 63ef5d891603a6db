-- Every event leaves a well-formed record well-formed, with the same transfer and burst.
use Prim.Native.Nat.{ℕ, ◌+◌, ◌≤◌}
use mathlib.Core.Bool.{Bool, true}
use mathlib.Core.Path.{◌≡◌, refl, ap, ◌∙◌}
use native.Mathlib.Omega.{arith}
use Rattle.status.specs.Pick.{◌with◌}
use Rattle.status.specs.Entry.{entry_of}
use Rattle.status.specs.Answer.{Left}
use Rattle.status.proofs.Leaves.{unless_gives}
use Rattle.transfer.specs.Limits.{past, limits_hold}
use Rattle.transfer.specs.declared.Transfer.{Transfer}
use Rattle.receiver_steps.specs.Fields.{ended≔}
use Rattle.receiver_steps.specs.Record.{tests, holds_of, beginning, right_length, lent_of}
use Rattle.receiver.specs.Record.{loss_of}
use Rattle.receiver_steps.specs.DataFrame.{waiting_of, stored_of}
use Rattle.receiver.specs.DataFrame.{arrival_of}
use Rattle.receiver_steps.specs.declared.types.Receiver.{Receiver}
use Rattle.receiver_steps.proofs.Held.{held, holds_again, limits_again, lent, lent_again}
use Rattle.receiver.proofs.Views.{Arrived, judges}

pub begins_holds : (t : Transfer) (base end : ℕ) → limits_hold t ≡ true → t.start ≤ base → base ≤ end → end ≤ past t → holds_of (beginning t base end) ≡ true
begins_holds t base end l o p q = holds_again (beginning t base end) l o (omega arith) (omega arith) p q

pub waiting_holds : (r : Receiver) → holds_of r ≡ true → holds_of (waiting_of r) ≡ true
unfolding holds_of tests
waiting_holds r h = h

pub ended_holds : (r : Receiver) → holds_of r ≡ true → holds_of (r with ended≔ true) ≡ true
unfolding holds_of tests
ended_holds r h = h

pub stored_holds : (r : Receiver) (offset n : ℕ) → holds_of r ≡ true → r.base ≤ offset → offset + n ≤ r.end → holds_of (stored_of r offset n) ≡ true
stored_holds r offset n e b h =
    let g = held r e in
    holds_again (stored_of r offset n) (limits_again r e) g.start_base (omega arith) (omega arith) (omega arith) g.end_past

-- the same transfer and burst
pub record Same (r s : Receiver) : Type 0 where
  pub transfer : s.transfer ≡ r.transfer
  pub base : s.base ≡ r.base
  pub end : s.end ≡ r.end

abbrev as_it_was : (r : Receiver) → Same r r
as_it_was r = record { transfer = refl; base = refl; end = refl }

module _ (r : Receiver) where
  pub arrival_same : (offset : ℕ) (cdp : Bool) (n m : ℕ) → Same r (arrival_of r offset cdp n m).left
  unfolding arrival_of
  arrival_same offset cdp n m = unless_gives (λ (x : Left Receiver). Same r x.left) (entry_of (lent_of r m) r.ended) r _ (λ k. as_it_was r) (go (judges r offset cdp n))
    where
      go : {x : Left Receiver} → Arrived r offset cdp n x → Same r x.left
      go (Arrived.full p) = as_it_was r
      go (Arrived.misplaced o p) = record { transfer = refl; base = refl; end = refl }
      go (Arrived.long o p) = record { transfer = refl; base = refl; end = refl }
      go (Arrived.empty o p) = record { transfer = refl; base = refl; end = refl }
      go (Arrived.skipped i s) = record { transfer = refl; base = refl; end = refl }
      go (Arrived.stored i s) = record { transfer = refl; base = refl; end = refl }

  module _ (h : holds_of r ≡ true) where
    pub arrival_kept : (offset : ℕ) (cdp : Bool) (n m : ℕ) → holds_of (arrival_of r offset cdp n m).left ≡ true
    unfolding arrival_of
    arrival_kept offset cdp n m = unless_gives (λ (x : Left Receiver). holds_of x.left ≡ true) (entry_of (lent_of r m) r.ended) r _ (λ k. h) (go (judges r offset cdp n))
      where
        go : {x : Left Receiver} → Arrived r offset cdp n x → holds_of x.left ≡ true
        go (Arrived.full p) = h
        go (Arrived.misplaced o p) = ended_holds r h
        go (Arrived.long o p) = ended_holds r h
        go (Arrived.empty o p) = ended_holds r h
        go (Arrived.skipped i s) = waiting_holds r h
        go (Arrived.stored i s) = stored_holds r offset n h i.low i.high

    pub loss_kept : holds_of (loss_of r).left ≡ true
    loss_kept = unless_gives (λ (x : Left Receiver). holds_of x.left ≡ true) (entry_of (holds_of r) r.ended) r _ (λ k. h) (ended_holds r h)

  pub arrival_lent : (offset : ℕ) (cdp : Bool) (n m : ℕ) → lent_of r m ≡ true → lent_of (arrival_of r offset cdp n m).left m ≡ true
  arrival_lent offset cdp n m e =
      let l = lent r m e in
      lent_again (arrival_of r offset cdp n m).left m (arrival_kept l.holds offset cdp n m) (ap (λ (t : Transfer). right_length t m) (arrival_same offset cdp n m).transfer ∙ l.long)
