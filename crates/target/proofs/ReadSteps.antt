-- A read's entry points: 1 for a write's record, else the sending port's step.
use Prim.Native.Nat.{ℕ}
use mathlib.Core.List.{List}
use mathlib.Core.Bool.{Bool, true, false}
use mathlib.Core.Path.{◌≡◌, refl, ap, ◌∙◌}
use Rattle.status.specs.Pick.{pick}
use Rattle.status.specs.Entry.{Entry}
use Rattle.status.specs.Answer.{Said, Left, ◌saying◌, unless}
use Rattle.status.proofs.Leaves.{picked}
use Rattle.frame.specs.Write.{handing}
use Rattle.sender_steps.specs.Count.{Counts}
use Rattle.sender_steps.specs.declared.types.Sender.{Sender}
use Rattle.sender.proofs.Counting.{both}
use Rattle.target.specs.ReadSend.{is_read_of, only_read}

pub only_write : (s : Sender) (x : Left Sender) → s.transfer.write ≡ true → only_read s x ≡ (s saying Said.refused 1)
unfolding pick
only_write s x e = ap (λ (v : Bool). pick v (s saying Said.refused 1) x) e

pub only_read_lem : (s : Sender) (x : Left Sender) → s.transfer.write ≡ false → only_read s x ≡ x
unfolding pick
only_read_lem s x e = ap (λ (v : Bool). pick v (s saying Said.refused 1) x) e

-- the step unless it is a write's record, as the code has it
unless_write : (s : Sender) (y : Left Sender) → unless (is_read_of s) s y ≡ only_read s y
unfolding pick
unless_write s y = go s.transfer.write refl
  where
    go : (t : Bool) → s.transfer.write ≡ t → unless (is_read_of s) s y ≡ only_read s y
    go true e = rw e
    go false e = rw e

module _ (s : Sender) (f : List ℕ) (y : Left Sender) {e : Entry} (p : e ≡ is_read_of s) (k : Counts s f y) where
  is_step : unless e s y ≡ only_read s y
  is_step = ap (λ (e : Entry). unless e s y) p ∙ unless_write s y

  pub reads : {z : Left Sender} → z ≡ unless e s y → (z ≡ only_read s y) × Counts s f z
  reads q = both s f (q ∙ is_step) (picked (Counts s f) s.transfer.write _ _ (λ h e. (e, tt)) k)

  -- with a frame put out
  pub reads_out : (out : List ℕ) {z : Left Sender} {left : List ℕ} → (z ≡ unless e s y) × (left ≡ handing (unless e s y).says f out) → (z ≡ only_read s y) × (left ≡ handing (only_read s y).says f out) × Counts s f z
  reads_out out q = let r = reads q.0 in (r.0, q.1 ∙ ap (λ (x : Left Sender). handing x.says f out) is_step, r.1)
