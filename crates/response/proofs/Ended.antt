-- A refusal changes nothing; a failure and the ACK end the record, and an ended record refuses every call.
use Prim.Native.Nat.{ℕ}
use mathlib.Core.List.{List}
use mathlib.Core.Bool.{true}
use mathlib.Core.Path.{◌≡◌, refl}
use lib.ListN.{length}
use Rattle.frame.specs.Write.{hands}
use Rattle.status.specs.Entry.{entry_of}
use Rattle.status.specs.Answer.{Said, Left, ◌saying◌}
use Rattle.status.proofs.OpenedCall.{differ, ended_entry, ended_confirmable}
use Rattle.status.proofs.Leaves.{Leaves, leaves_pick, leaves_unless, unless_gives}
use Rattle.response.specs.Record.{holds_of}
use Rattle.response.specs.Transmit.{lent_of, next_of}
use Rattle.response.specs.Confirmation.{retry_of, confirms_of, ack_of, nak_of, timeout_of, cut_of, loss_of}
use Rattle.response.specs.declared.types.Responder.{Responder}

abbrev pub Ended : Responder → Type 0
Ended x = x.ended ≡ true

module _ (x : Responder) where
  leaves_retry : (c : ℕ) → Leaves Ended x (retry_of x c)
  unfolding retry_of
  leaves_retry c = leaves_pick Ended x _ _ _ tt refl

  pub next_leaves : (iu out : List ℕ) → Leaves Ended x (next_of x iu out)
  unfolding next_of hands
  next_leaves iu out = leaves_unless Ended x (entry_of (lent_of x (length iu)) x.ended) _ (leaves_pick Ended x _ _ _ refl (leaves_pick Ended x _ _ _ tt refl))

  pub ack_leaves : Leaves Ended x (ack_of x)
  ack_leaves = leaves_unless Ended x (confirms_of x) _ tt

  pub nak_leaves : Leaves Ended x (nak_of x)
  nak_leaves = leaves_unless Ended x (confirms_of x) _ (leaves_retry 28)

  pub timeout_leaves : Leaves Ended x (timeout_of x)
  timeout_leaves = leaves_unless Ended x (confirms_of x) _ (leaves_retry 29)

  pub cut_leaves : Leaves Ended x (cut_of x)
  cut_leaves = leaves_unless Ended x (entry_of (holds_of x) x.ended) _ (leaves_pick Ended x _ _ _ (leaves_retry 30) refl)

  pub loss_leaves : Leaves Ended x (loss_of x)
  loss_leaves = leaves_unless Ended x (entry_of (holds_of x) x.ended) _ refl

  -- its ACK ends the record
  pub ack_ends : (ack_of x).says ≡ Said.delivered 0 → Ended (ack_of x).left
  ack_ends = unless_gives (λ (z : Left Responder). z.says ≡ Said.delivered 0 → Ended z.left) (confirms_of x) x _ (λ n e. differ (cc)) (λ e. refl)

  -- an ended record: 1 or 2, whatever is asked of it
  module _ (e : Ended x) where
    pub next_ended : (iu out : List ℕ) → (n : ℕ) × (next_of x iu out ≡ (x saying Said.refused n))
    unfolding next_of
    next_ended iu out = ended_entry _ _ x _ e

    pub ack_ended : (n : ℕ) × (ack_of x ≡ (x saying Said.refused n))
    unfolding confirms_of
    ack_ended = ended_confirmable _ _ _ x _ e

    pub nak_ended : (n : ℕ) × (nak_of x ≡ (x saying Said.refused n))
    unfolding confirms_of
    nak_ended = ended_confirmable _ _ _ x _ e

    pub timeout_ended : (n : ℕ) × (timeout_of x ≡ (x saying Said.refused n))
    unfolding confirms_of
    timeout_ended = ended_confirmable _ _ _ x _ e

    pub cut_ended : (n : ℕ) × (cut_of x ≡ (x saying Said.refused n))
    cut_ended = ended_entry _ _ x _ e

    pub loss_ended : (n : ℕ) × (loss_of x ≡ (x saying Said.refused n))
    loss_ended = ended_entry _ _ x _ e
