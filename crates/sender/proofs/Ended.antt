-- A refusal changes nothing; a failure or a read's delivery ends the record, and an ended record refuses every call.
use Prim.Native.Nat.{ℕ}
use mathlib.Core.List.{List}
use mathlib.Core.Bool.{true, not}
use mathlib.Core.Path.{◌≡◌, refl}
use lib.ListN.{length}
use Rattle.frame.specs.Write.{hands}
use Rattle.status.specs.Entry.{entry_of}
use Rattle.status.specs.Answer.{Said, Left, ◌saying◌}
use Rattle.status.proofs.OpenedCall.{differ, ended_entry, ended_confirmable}
use Rattle.status.proofs.Leaves.{Leaves, leaves_pick, leaves_unless, unless_gives}
use Rattle.sender_steps.specs.Record.{holds_of, lent_of}
use Rattle.sender_steps.proofs.Ended.{failed_ended}
use Rattle.sender.specs.Transmit.{next_of}
use Rattle.sender_steps.specs.Confirmation.{lowered_of, retry_of, advance_of, settle_of, cause_of}
use Rattle.sender.specs.Confirmation.{confirms_of, ack_of, nak_of, timeout_of, cut_of, loss_of}
use Rattle.sender_steps.specs.declared.types.Sender.{Sender}
use Rattle.sender.proofs.Views.{Retried, Settled, settled}

abbrev pub Ended : Sender → Type 0
Ended s = s.ended ≡ true

module _ (s : Sender) where
  leaves_retry : (t : Sender) (c : ℕ) → Leaves Ended s (retry_of t c)
  unfolding retry_of
  leaves_retry t c = leaves_pick Ended s _ _ _ tt (failed_ended t c)

  leaves_settle : (t : Sender) → Leaves Ended s (settle_of t)
  unfolding settle_of advance_of
  leaves_settle t = leaves_pick Ended s _ _ _ (leaves_pick Ended s _ _ _ (leaves_retry t 28) (leaves_pick Ended s _ _ _ tt tt)) tt

  pub next_leaves : (d out : List ℕ) → Leaves Ended s (next_of s d out)
  unfolding next_of hands
  next_leaves d out = leaves_unless Ended s (entry_of (lent_of s (length d)) s.ended) _ (leaves_pick Ended s _ _ _ refl (leaves_pick Ended s _ _ _ tt refl))

  pub ack_leaves : Leaves Ended s (ack_of s)
  ack_leaves = leaves_unless Ended s (confirms_of s) _ (leaves_settle (lowered_of s s.nak))

  pub nak_leaves : Leaves Ended s (nak_of s)
  nak_leaves = leaves_unless Ended s (confirms_of s) _ (leaves_settle (lowered_of s true))

  pub timeout_leaves : Leaves Ended s (timeout_of s)
  timeout_leaves = leaves_unless Ended s (confirms_of s) _ (leaves_retry s (cause_of s 29))

  pub cut_leaves : Leaves Ended s (cut_of s)
  cut_leaves = leaves_unless Ended s (entry_of (holds_of s) s.ended) _ (leaves_pick Ended s _ _ _ refl (leaves_retry s (cause_of s 30)))

  pub loss_leaves : Leaves Ended s (loss_of s)
  loss_leaves = leaves_unless Ended s (entry_of (holds_of s) s.ended) _ (failed_ended s 31)

  -- a read's delivery ends the record, a write burst's ends nothing
  pub delivery_ends : (n : ℕ) → (ack_of s).says ≡ Said.delivered n → (ack_of s).left.ended ≡ not s.transfer.write
  delivery_ends n = unless_gives (λ (x : Left Sender). x.says ≡ Said.delivered n → x.left.ended ≡ not s.transfer.write) (confirms_of s) s _ (λ m e. differ (cc)) (go (settled (lowered_of s s.nak)))
    where
      go : {x : Left Sender} → Settled (lowered_of s s.nak) x → x.says ≡ Said.delivered n → x.left.ended ≡ not s.transfer.write
      go (Settled.more m) e = differ (cc)
      go (Settled.retries z k (Retried.again l)) e = differ (cc)
      go (Settled.retries z k (Retried.spent l)) e = differ (cc)
      go (Settled.moves z k m) e = differ (cc)
      go (Settled.delivers z k d) e = refl

  -- an ended record: 1 or 2, whatever is asked of it
  module _ (e : s.ended ≡ true) where
    pub next_ended : (d out : List ℕ) → (n : ℕ) × (next_of s d out ≡ (s saying Said.refused n))
    unfolding next_of
    next_ended d out = ended_entry _ _ s _ e

    pub ack_ended : (n : ℕ) × (ack_of s ≡ (s saying Said.refused n))
    unfolding confirms_of
    ack_ended = ended_confirmable _ _ _ s _ e

    pub nak_ended : (n : ℕ) × (nak_of s ≡ (s saying Said.refused n))
    unfolding confirms_of
    nak_ended = ended_confirmable _ _ _ s _ e

    pub timeout_ended : (n : ℕ) × (timeout_of s ≡ (s saying Said.refused n))
    unfolding confirms_of
    timeout_ended = ended_confirmable _ _ _ s _ e

    pub cut_ended : (n : ℕ) × (cut_of s ≡ (s saying Said.refused n))
    cut_ended = ended_entry _ _ s _ e

    pub loss_ended : (n : ℕ) × (loss_of s ≡ (s saying Said.refused n))
    loss_ended = ended_entry _ _ s _ e
