-- What a call of the receiving port comes to, as plain facts.
use Prim.Native.Nat.{ℕ, ◌+◌, ◌≤◌, ◌<◌}
use mathlib.Core.Bool.{Bool, true, false}
use mathlib.Core.Path.{◌≡◌}
use native.Mathlib.Omega.{arith}
use borrow.Author.Tests.{le-leb}
use Rattle.status.specs.Entry.{entry_of}
use Rattle.status.specs.Answer.{Word, Said, Left, ◌saying◌}
use Rattle.status.proofs.Choose.{in_true}
use Rattle.status.proofs.OpenedCall.{open_entry, ended_entry}
use Rattle.status.proofs.Leaves.{Leaves, leaves_unless, picked, After}
use Rattle.receiver_steps.specs.Record.{holds_of, failed_of, lent_of}
use Rattle.receiver_steps.proofs.Ended.{failed_ended}
use Rattle.receiver.specs.Record.{loss_of}
use Rattle.receiver_steps.specs.DataFrame.{disposition_of, waiting_of, stored_of, stored_by, taken_of, data_step_of}
use Rattle.receiver.specs.DataFrame.{arrival_of}
use Rattle.receiver_steps.specs.declared.types.Receiver.{Receiver}
use Rattle.receiver_steps.proofs.Held.{Held, lent}
use Rattle.receiver_steps.proofs.Judged.{Misplaced, Placed, Inside, OutOfStep, InStep, Judged, judged}
use Rattle.receiver_steps.specs.DataFrame.{Disposition}

-- a frame at a port that neither 1 nor 2 refuses
pub data Arrived (r : Receiver) (offset : ℕ) (cdp : Bool) (n : ℕ) : Left Receiver → Type 0 where
  full : r.filled ≡ r.end → Arrived r offset cdp n (r saying Said.word Word.discarded)
  misplaced : (r.filled ≡ r.end → ⊥) → Misplaced r offset cdp → Arrived r offset cdp n (failed_of r 20)
  long : Placed r offset cdp → r.end < offset + n → Arrived r offset cdp n (failed_of r 21)
  empty : Placed r offset cdp → n ≡ 0 → Arrived r offset cdp n (failed_of r 22)
  skipped : Inside r offset n → OutOfStep r offset cdp → Arrived r offset cdp n (waiting_of r saying Said.word Word.discarded)
  stored : Inside r offset n → InStep r offset cdp → Arrived r offset cdp n (stored_by r offset n)

-- those of them that are no failure
pub data Kept (r : Receiver) (offset : ℕ) (cdp : Bool) (n : ℕ) : Left Receiver → Type 0 where
  full : r.filled ≡ r.end → Kept r offset cdp n (r saying Said.word Word.discarded)
  skipped : Inside r offset n → OutOfStep r offset cdp → Kept r offset cdp n (waiting_of r saying Said.word Word.discarded)
  stored : Inside r offset n → InStep r offset cdp → Kept r offset cdp n (stored_by r offset n)

abbrev pub Ended : Receiver → Type 0
Ended r = r.ended ≡ true

module _ (r : Receiver) (offset : ℕ) (cdp : Bool) (n : ℕ) where
  taken : {v : Disposition} → Judged r offset cdp n v → Arrived r offset cdp n (taken_of v r offset n)
  taken (Judged.full p) = Arrived.full p
  taken (Judged.misplaced o p) = Arrived.misplaced o p
  taken (Judged.long o p) = Arrived.long o p
  taken (Judged.empty o p) = Arrived.empty o p
  taken (Judged.skipped i s) = Arrived.skipped i s
  taken (Judged.stored i s) = Arrived.stored i s

  pub judges : Arrived r offset cdp n (taken_of (disposition_of r offset cdp n) r offset n)
  judges = taken (judged r offset cdp n)

  -- at a port that neither 1 nor 2 refuses an arrival is the step behind them
  pub step_is : (m : ℕ) → lent_of r m ≡ true → r.ended ≡ false → arrival_of r offset cdp n m ≡ data_step_of r offset cdp n m
  unfolding arrival_of data_step_of
  step_is m e f = in_true _ _ _ _ (le-leb r.end m (lent r m e).reach) (rw (open_entry (lent_of r m) r.ended e f))

  pub arrived : (m : ℕ) → lent_of r m ≡ true → r.ended ≡ false → Arrived r offset cdp n (arrival_of r offset cdp n m)
  unfolding arrival_of
  arrived m e f = rw (open_entry (lent_of r m) r.ended e f) judges

  pub never_fails : (m : ℕ) → lent_of r m ≡ true → r.ended ≡ false → 0 < r.transfer.limit → r.base ≤ offset → offset + n ≤ r.end → 0 < n → (cdp ≡ true → offset ≤ r.filled) → Kept r offset cdp n (arrival_of r offset cdp n m)
  never_fails m e f l b h s p = go (arrived m e f)
    where
      placed_well : Misplaced r offset cdp → ⊥
      placed_well (Misplaced.under q) = omega arith
      placed_well (Misplaced.beyond q) = omega arith
      placed_well (Misplaced.unexpected z q) = omega arith
      placed_well (Misplaced.ahead z c q) = omega (arith, p c)

      go : {x : Left Receiver} → Arrived r offset cdp n x → Kept r offset cdp n x
      go (Arrived.full q) = Kept.full q
      go (Arrived.misplaced o q) = absurd (placed_well q)
      go (Arrived.long o q) = absurd (omega arith)
      go (Arrived.empty o q) = absurd (omega arith)
      go (Arrived.skipped i q) = Kept.skipped i q
      go (Arrived.stored i q) = Kept.stored i q

  -- a refusal changes nothing, a failure ends the port
  pub arrival_leaves : (m : ℕ) → Leaves Ended r (arrival_of r offset cdp n m)
  unfolding arrival_of
  arrival_leaves m = leaves_unless Ended r (entry_of (lent_of r m) r.ended) _ (go judges)
    where
      go : {x : Left Receiver} → Arrived r offset cdp n x → Leaves Ended r x
      go (Arrived.full p) = tt
      go (Arrived.misplaced o p) = failed_ended r 20
      go (Arrived.long o p) = failed_ended r 21
      go (Arrived.empty o p) = failed_ended r 22
      go (Arrived.skipped i s) = tt
      go (Arrived.stored i s) = picked (λ (a : Said). After Ended a r (stored_of r offset n)) _ Said.received Said.stored tt tt

  -- an ended port takes no frame
  pub ended_refuses : (m : ℕ) → r.ended ≡ true → (k : ℕ) × (arrival_of r offset cdp n m ≡ (r saying Said.refused k))
  unfolding arrival_of
  ended_refuses m e = ended_entry (lent_of r m) r.ended r _ e

pub loss_leaves : (r : Receiver) → Leaves Ended r (loss_of r)
loss_leaves r = leaves_unless Ended r (entry_of (holds_of r) r.ended) _ (failed_ended r 31)

pub loss_ended : (r : Receiver) → r.ended ≡ true → (k : ℕ) × (loss_of r ≡ (r saying Said.refused k))
loss_ended r e = ended_entry (holds_of r) r.ended r _ e

-- what is stored comes from at most the filled mark
pub reaches : {r : Receiver} {offset : ℕ} {cdp : Bool} → Held r → InStep r offset cdp → offset ≤ r.filled
reaches h (InStep.off l e) = omega arith
reaches h (InStep.pointed l c b) = b
reaches h (InStep.next l c w e) = omega arith
