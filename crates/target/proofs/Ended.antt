-- A refusal changes nothing, a failure ends the record, and an ended record refuses every call.
use Prim.Native.Nat.{ℕ, ◌+◌, max}
use mathlib.Core.Bool.{Bool, true}
use mathlib.Core.List.{List}
use mathlib.Core.Path.{◌≡◌, refl}
use lib.Dec.{eqb}
use Rattle.frame.specs.Write.{hands}
use Rattle.status.specs.Entry.{entry_of}
use Rattle.status.specs.Pick.{pick}
use Rattle.status.specs.Answer.{Said, Left, ◌saying◌}
use Rattle.status.specs.Result.{Result}
use Rattle.status.proofs.OpenedCall.{ended_entry, ended_confirmable}
use Rattle.status.proofs.Leaves.{Leaves, picked, leaves_pick, leaves_unless, unless_gives}
use Rattle.arrival.specs.Accept.{accept_of}
use Rattle.arrival.specs.declared.Role.TheVariants.{ReadTarget}
use Rattle.arrival.specs.declared.Arrived.{Arrived}
use Rattle.sender_steps.specs.declared.types.Sender.{Sender}
use Rattle.receiver_steps.specs.DataFrame.{stored_of}
use Rattle.receiver.specs.DataFrame.{arrival_of}
use Rattle.receiver_steps.specs.declared.types.Receiver.{Receiver}
use Rattle.receiver.proofs.Views as taking
use Rattle.target.specs.Record.{holds_of}
use Rattle.target.specs.Transmit.{next_of}
use Rattle.target.specs.Confirmation.{confirms_of, retry_of, ack_of, nak_of, timeout_of, cut_of, loss_of}
use Rattle.target.specs.Arrival.{lifted_of, write_arrival_of}
use Rattle.target.specs.Time.{time_of}
use Rattle.target.specs.Read.{read_holds_of, none_of, read_arrival_of}
use Rattle.target.specs.declared.types.Target.{Target}
use Rattle.target.proofs.Held.{core_lent}
use Rattle.target.proofs.Views.{Takes, Came, came}
use Rattle.target.proofs.Timed.{Timed, timed}

abbrev pub Ended : Target → Type 0
Ended x = x.receiver.ended ≡ true

module _ (x : Target) where
  leaves_retry : (cause : ℕ) → Leaves Ended x (retry_of x cause)
  unfolding retry_of
  leaves_retry cause = leaves_pick Ended x _ _ _ tt refl

  pub next_leaves : (out : List ℕ) → Leaves Ended x (next_of x out)
  unfolding next_of hands
  next_leaves out = leaves_unless Ended x (entry_of (holds_of x) x.receiver.ended) _ (leaves_pick Ended x _ _ _ (leaves_pick Ended x _ _ _ tt refl) refl)

  pub ack_leaves : Leaves Ended x (ack_of x)
  ack_leaves = leaves_unless Ended x (confirms_of x) _ tt

  pub nak_leaves : Leaves Ended x (nak_of x)
  nak_leaves = leaves_unless Ended x (confirms_of x) _ (leaves_retry 28)

  pub timeout_leaves : Leaves Ended x (timeout_of x)
  timeout_leaves = leaves_unless Ended x (confirms_of x) _ (leaves_retry 29)

  pub cut_leaves : Leaves Ended x (cut_of x)
  cut_leaves = leaves_unless Ended x (entry_of (holds_of x) x.receiver.ended) _ (leaves_pick Ended x _ _ _ (leaves_retry 30) refl)

  pub loss_leaves : Leaves Ended x (loss_of x)
  loss_leaves = leaves_unless Ended x (entry_of (holds_of x) x.receiver.ended) _ refl

  pub time_leaves : (ms : ℕ) → Leaves Ended x (time_of x ms)
  time_leaves ms = go (timed x ms)
    where
      go : {z : Left Target} → Timed x ms z → Leaves Ended x z
      go (Timed.refused n c) = refl
      go (Timed.outside c) = refl
      go (Timed.expires l) = refl
      go (Timed.counts l) = tt

  -- the receiving port's answer
  lifted_leaves : (m : ℕ) → Takes x m → (offset : ℕ) (cdp : Bool) (n : ℕ) → Leaves Ended x (lifted_of x (arrival_of x.receiver offset cdp n m))
  unfolding pick
  lifted_leaves m t offset cdp n = go (taking.arrived x.receiver offset cdp n m (core_lent x m t.lent) t.going)
    where
      go : {z : Left Receiver} → taking.Arrived x.receiver offset cdp n z → Leaves Ended x (lifted_of x z)
      go (taking.Arrived.full p) = tt
      go (taking.Arrived.misplaced o p) = refl
      go (taking.Arrived.long o p) = refl
      go (taking.Arrived.empty o p) = refl
      go (taking.Arrived.skipped i s) = tt
      go (taking.Arrived.stored i s) = picked (λ (a : Said). Leaves Ended x (lifted_of x (stored_of x.receiver offset n saying a))) (eqb (max x.receiver.filled (offset + n)) x.receiver.end) Said.received Said.stored tt tt

  pub arrival_leaves : (f : List ℕ) (m : ℕ) → Leaves Ended x (write_arrival_of x f m)
  arrival_leaves f m = go (came x f m)
    where
      go : {z : Left Target} → Came x m z → Leaves Ended x z
      go (Came.refused n) = refl
      go (Came.early e) = tt
      go (Came.taken t offset cdp n) = lifted_leaves m t offset cdp n

  -- an ended record: 1 or 2, whatever is asked of it
  module _ (e : x.receiver.ended ≡ true) where
    pub next_ended : (out : List ℕ) → (n : ℕ) × (next_of x out ≡ (x saying Said.refused n))
    unfolding next_of
    next_ended out = ended_entry _ _ x _ e

    pub ack_ended : (n : ℕ) × (ack_of x ≡ (x saying Said.refused n))
    unfolding confirms_of
    ack_ended = ended_confirmable _ _ _ x _ e

    pub nak_ended : (n : ℕ) × (nak_of x ≡ (x saying Said.refused n))
    unfolding confirms_of
    nak_ended = ended_confirmable _ _ _ x _ e

    pub timeout_ended : (n : ℕ) × (timeout_of x ≡ (x saying Said.refused n))
    unfolding confirms_of
    timeout_ended = ended_confirmable _ _ _ x _ e

    pub cut_ended : (n : ℕ) × (cut_of x ≡ (x saying Said.refused n))
    cut_ended = ended_entry _ _ x _ e

    pub loss_ended : (n : ℕ) × (loss_of x ≡ (x saying Said.refused n))
    loss_ended = ended_entry _ _ x _ e

    pub time_ended : (ms : ℕ) → (n : ℕ) × (time_of x ms ≡ (x saying Said.refused n))
    unfolding time_of
    time_ended ms = ended_entry _ _ x _ e

    pub arrival_ended : (f : List ℕ) (m : ℕ) → (n : ℕ) × (write_arrival_of x f m ≡ (x saying Said.refused n))
    unfolding write_arrival_of
    arrival_ended f m = ended_entry _ _ x _ e

-- what arrives in a read is refused
pub read_refuses : (s : Sender) (f : List ℕ) → (n : ℕ) × (read_arrival_of s f ≡ (s saying Said.refused n))
unfolding read_arrival_of
read_refuses s f = unless_gives (λ (z : Left Sender). (n : ℕ) × (z ≡ (s saying Said.refused n))) (entry_of (read_holds_of s) s.ended) s _ (λ n. (n, refl)) (go (accept_of ReadTarget s.transfer f))
  where
    go : (o : Result Arrived) → (n : ℕ) × (none_of o s ≡ (s saying Said.refused n))
    go (Result.number n) = (n, refl)
    go (Result.value a) = (6, refl)
