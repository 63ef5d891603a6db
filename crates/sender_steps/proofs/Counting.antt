-- The count in an answer is the length of the history of frames: each step keeps it so.
use Prim.Native.Nat.{ℕ}
use mathlib.Core.List.{List}
use mathlib.Core.Bool.{Bool}
use mathlib.Core.Path.{◌≡◌, sym, ◌∙◌}
use Rattle.status.specs.Pick.{pick}
use Rattle.status.specs.Answer.{Left}
use Rattle.status.proofs.Leaves.{picked}
use Rattle.sender_steps.specs.Count.{Counts}
use Rattle.sender_steps.specs.Confirmation.{failed_of, retry_of, advance_of, settle_of}
use Rattle.sender_steps.specs.declared.types.Sender.{Sender}

module _ (s : Sender) (f : List ℕ) where
  pub counts_pick : (t : Bool) (a b : Left Sender) → Counts s f a → Counts s f b → Counts s f (pick t a b)
  counts_pick = picked (Counts s f)

  module _ (t : Sender) (same : t.frames ≡ s.frames) where
    pub counts_failed : (c : ℕ) → Counts s f (failed_of t c)
    counts_failed c h e = (e ∙ sym same, same ∙ sym e)

    pub counts_retry : (c : ℕ) → Counts s f (retry_of t c)
    unfolding retry_of
    counts_retry c = counts_pick _ _ _ (λ h e. (e ∙ sym same, tt)) (counts_failed c)

    pub counts_settle : Counts s f (settle_of t)
    unfolding settle_of advance_of
    counts_settle =
        counts_pick _ _ _
        (counts_pick _ _ _ (counts_retry 28) (counts_pick _ _ _ (λ h e. (e ∙ sym same, same ∙ sym e)) (λ h e. (e ∙ sym same, tt))))
        (λ h e. (e ∙ sym same, tt))
