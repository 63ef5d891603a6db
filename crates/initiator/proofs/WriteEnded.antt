-- A refusal changes nothing; a failure or a RESPONSE ends a write's record, and an ended record refuses every call.
use Prim.Native.Nat.{ℕ}
use mathlib.Core.Bool.{Bool, true, false, false≢true}
use mathlib.Core.List.{List}
use mathlib.Core.Path.{◌≡◌, refl, sym, ◌∙◌}
use lib.ListN.{length}
use Rattle.status.specs.Entry.{entry_of}
use Rattle.status.specs.Pick.{pick}
use Rattle.status.specs.Answer.{Word, Said, Left, ◌saying◌, refuses}
use Rattle.status.proofs.OpenedCall.{ended_entry}
use Rattle.status.proofs.Leaves.{AfterWord, After, Leaves, leaves_pick, leaves_unless, picked, unless_gives}
use Rattle.frame.specs.declared.types.Header.{Header}
use Rattle.frame.specs.declared.types.XferRdy.{XferRdy}
use Rattle.sender.specs.Transmit as transmit
use Rattle.sender.specs.Confirmation as confirmation
use Rattle.sender_steps.specs.declared.types.Sender.{Sender}
use Rattle.sender.proofs.Ended as core
use Rattle.initiator.specs.WriteRecord.{holds_of}
use Rattle.initiator.specs.WriteSend.{lifted_of, lent_of, held_up, begun_of, reached_of, kept_of, next_of, counted_of, confirmed_of, ack_of, nak_of, timeout_of, cut_of, loss_of}
use Rattle.initiator.specs.WriteTake.{asked_of, burst_taken, write_arrival_of}
use Rattle.initiator.specs.declared.types.Writer.{Writer}
use Rattle.initiator.proofs.WriteViews.{Takes, Came, came}

abbrev pub Ended : Writer → Type 0
Ended w = w.sender.ended ≡ true

module _ (w : Writer) where
  -- what the sending port leaves
  leaves_lifted : (x : Left Sender) → Leaves core.Ended w.sender x → Leaves Ended w (lifted_of w x)
  leaves_lifted x = go x.says
    where
      back : x.left ≡ w.sender → (lifted_of w x).left ≡ w
      back e i = record { sender = e i; reached = w.reached; pending = w.pending; taken = w.taken }

      word : (v : Word) → AfterWord v w.sender x.left → AfterWord v w (lifted_of w x).left
      word Word.wait e = back e
      word Word.unchanged e = back e
      word Word.taken e = tt
      word Word.retry e = tt
      word Word.acknowledged e = tt
      word Word.discarded e = tt

      go : (a : Said) → After core.Ended a w.sender x.left → After Ended a w (lifted_of w x).left
      go (Said.refused n) e = back e
      go (Said.failed n k) e = e
      go (Said.frame n) e = tt
      go (Said.delivered n) e = tt
      go Said.stored e = tt
      go Said.received e = tt
      go (Said.xfer_rdy t) e = tt
      go (Said.response start len o n) e = e
      go (Said.word v) e = word v e

  leaves_answered : (x : Left Sender) (n : ℕ) → Leaves core.Ended w.sender x → Leaves Ended w (confirmed_of w x n)
  unfolding confirmed_of counted_of
  leaves_answered x n l = leaves_unless Ended w (entry_of (holds_of w) w.sender.ended) _ (leaves_pick Ended w (held_up w) _ _ tt (leaves_lifted x l))

  pub ack_leaves : Leaves Ended w (ack_of w)
  ack_leaves = leaves_answered _ _ (core.ack_leaves w.sender)

  pub nak_leaves : Leaves Ended w (nak_of w)
  nak_leaves = leaves_answered _ _ (core.nak_leaves w.sender)

  pub timeout_leaves : Leaves Ended w (timeout_of w)
  timeout_leaves = leaves_answered _ _ (core.timeout_leaves w.sender)

  pub cut_leaves : Leaves Ended w (cut_of w)
  cut_leaves = leaves_answered _ _ (core.cut_leaves w.sender)

  pub loss_leaves : Leaves Ended w (loss_of w)
  loss_leaves = leaves_unless Ended w (entry_of (holds_of w) w.sender.ended) _ (leaves_lifted (confirmation.loss_of w.sender) (core.loss_leaves w.sender))

  -- a frame asked for is refused, and then nothing changed; or it is handed out, or not due
  pub next_same : (d out : List ℕ) → refuses (next_of w d out).says ≡ true → (next_of w d out).left ≡ w
  unfolding next_of pick
  next_same d out = unless_gives (λ (x : Left Writer). refuses x.says ≡ true → x.left ≡ w) (entry_of (lent_of w (length d)) w.sender.ended) w _ (λ n e. refl) (picked (λ (x : Left Writer). refuses x.says ≡ true → x.left ≡ w) (held_up w) (w saying Said.word Word.wait) (kept_of w served) (λ e. refl) (kept served))
    where
      served : Left Writer
      served = reached_of (begun_of w) (transmit.next_of (begun_of w).sender d out)

      kept : (y : Left Writer) → refuses (kept_of w y).says ≡ true → (kept_of w y).left ≡ w
      kept y = go (refuses y.says) refl
        where
          go : (t : Bool) → refuses y.says ≡ t → refuses (pick t (w saying y.says) y).says ≡ true → (pick t (w saying y.says) y).left ≡ w
          go true e q = refl
          go false e q = absurd (false≢true (sym e ∙ q))

  pub arrival_leaves : (f : List ℕ) → Leaves Ended w (write_arrival_of w f)
  unfolding burst_taken
  arrival_leaves f = go (came w f)
    where
      burst : (h : Header) (x : XferRdy) {a : Said} → Takes w a → Leaves Ended w (burst_taken w (asked_of w h x) a)
      burst h x Takes.next = tt
      burst h x Takes.delivers = tt
      burst h x Takes.repeats = tt

      go : {x : Left Writer} → Came w x → Leaves Ended w x
      go (Came.refused n) = refl
      go (Came.failed n) = refl
      go (Came.taken h x i t) = burst h x t
      go (Came.answered start len o) = refl

  -- an ended record: 1 or 2, whatever is asked of it
  module _ (e : w.sender.ended ≡ true) where
    answered_ended : (x : Left Sender) (n : ℕ) → (k : ℕ) × (confirmed_of w x n ≡ (w saying Said.refused k))
    unfolding confirmed_of
    answered_ended x n = ended_entry _ _ w _ e

    pub next_ended : (d out : List ℕ) → (k : ℕ) × (next_of w d out ≡ (w saying Said.refused k))
    unfolding next_of
    next_ended d out = ended_entry _ _ w _ e

    pub ack_ended : (k : ℕ) × (ack_of w ≡ (w saying Said.refused k))
    ack_ended = answered_ended _ _

    pub nak_ended : (k : ℕ) × (nak_of w ≡ (w saying Said.refused k))
    nak_ended = answered_ended _ _

    pub timeout_ended : (k : ℕ) × (timeout_of w ≡ (w saying Said.refused k))
    timeout_ended = answered_ended _ _

    pub cut_ended : (k : ℕ) × (cut_of w ≡ (w saying Said.refused k))
    cut_ended = answered_ended _ _

    pub loss_ended : (k : ℕ) × (loss_of w ≡ (w saying Said.refused k))
    loss_ended = ended_entry _ _ w _ e

    pub arrival_ended : (f : List ℕ) → (k : ℕ) × (write_arrival_of w f ≡ (w saying Said.refused k))
    unfolding write_arrival_of
    arrival_ended f = ended_entry _ _ w _ e
