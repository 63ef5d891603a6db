-- What any call comes to at the target of a write, in one view, for laws over lists of calls: what it answers, and all that it moves.
use Prim.Native.Nat.{ℕ, ◌+◌, ◌<◌, max}
use mathlib.Core.Bool.{Bool, true, false}
use mathlib.Core.List.{List}
use mathlib.Core.Path.{◌≡◌, refl}
use native.Mathlib.Omega.{arith}
use lib.Dec.{leb, ltb, eqb}
use lib.ListN.{length}
use borrow.Author.Tests.{ltb-true, eqb-true, eqb-false}
use Rattle.status.specs.Entry.{entry_of}
use Rattle.status.specs.Pick.{pick, ◌with◌}
use Rattle.status.specs.Answer.{Word, Said, Left, ◌saying◌, unless}
use Rattle.status.specs.Entry.{Entry}
use Rattle.std.specs.Prelude.{Ok, Err}
use Rattle.status.proofs.OpenedCall.{opened}
use Rattle.frame.specs.Write.{hands}
use Rattle.receiver_steps.specs.Fields.{waiting≔}
use Rattle.receiver_steps.specs.DataFrame.{stored_of}
use Rattle.receiver_steps.specs.declared.types.Receiver.{Receiver}
use Rattle.receiver.proofs.Views as taking
use Rattle.target.specs.Fields.{receiver≔, elapsed≔}
use Rattle.target.specs.Record.{UNANSWERED, holds_of, failed_of}
use Rattle.target.specs.Transmit.{due_of, issued_of, frame_of, next_of}
use Rattle.target.specs.Confirmation.{acknowledged_of, retried_of, retry_of, confirms_of, ack_of, nak_of, timeout_of, cut_of, loss_of}
use Rattle.target.specs.Arrival.{freed_of, lifted_of, write_arrival_of}
use Rattle.target.specs.Time.{time_of}
use Rattle.target.specs.declared.types.Target.{Target}
use Rattle.target.proofs.Held.{held, lent, core_lent}
use Rattle.target.proofs.Issue.{Due, due, burst_transfer}
use Rattle.target.proofs.Views.{answers, Takes, Came, came}
use Rattle.target.proofs.InSpan.{InSpan, Below}
use Rattle.target.proofs.Timed.{Timed, timed}

-- neither 1 nor 2 applies
pub record Goes (x : Target) : Type 0 where
  pub holds : holds_of x ≡ true
  pub going : x.receiver.ended ≡ false

-- n bytes stored at an offset: the sum starts from zero
abbrev pub stored_at : Target → ℕ → ℕ → Target
stored_at x offset n = freed_of (x with receiver≔ (stored_of x.receiver offset n) with elapsed≔ 0)

-- where the call reports so many milliseconds; else they count for nothing
pub data Moved (x : Target) (ms : ℕ) : Left Target → Type 0 where
  refused : (n : ℕ) → Moved x ms (x saying Said.refused n)
  waits : Moved x ms (x saying Said.word Word.wait)
  unchanged : Moved x ms (x saying Said.word Word.unchanged)
  -- "not at a discarded one": the sum stays, and all but `waiting`
  discarded : (waiting : Bool) → Moved x ms ((x with receiver≔ (x.receiver with waiting≔ waiting)) saying Said.word Word.discarded)
  issued : Goes x → due_of x ≡ true → (n : ℕ) → Moved x ms (issued_of x saying Said.frame n)
  acknowledged : Goes x → x.state ≡ UNANSWERED → Moved x ms (acknowledged_of x saying Said.word Word.acknowledged)
  retried : Goes x → x.state ≡ UNANSWERED → x.retries < x.receiver.transfer.limit → Moved x ms (retried_of x saying Said.word Word.retry)
  -- in the span, and it goes on, or the burst is filled
  stored : InSpan x → (offset n : ℕ) → max x.receiver.filled (offset + n) < x.receiver.end → Moved x ms (stored_at x offset n saying Said.stored)
  received : InSpan x → (offset n : ℕ) → max x.receiver.filled (offset + n) ≡ x.receiver.end → Moved x ms (stored_at x offset n saying Said.received)
  counts : Below x ms → Moved x ms ((x with elapsed≔ (x.elapsed + ms)) saying Said.word Word.taken)
  fails : {y : Target} (c : ℕ) → y.receiver.ended ≡ true → y.receiver.transfer ≡ x.receiver.transfer → Moved x ms (y saying Said.failed c 0)

-- none is due in the span
pub due_outside : (x : Target) → due_of x ≡ true → InSpan x → ⊥
due_outside x d s = go (due x d)
  where
    go : Due x → ⊥
    go (Due.resend e) = omega (arith, s.ready)
    go (Due.fresh a u f l) = omega (arith, s.unfilled)

module _ (x : Target) (ms : ℕ) where
  by_entry : (z : Left Target) → (Goes x → Moved x ms z) → Moved x ms (unless (entry_of (holds_of x) x.receiver.ended) x z)
  by_entry z f = go (entry_of (holds_of x) x.receiver.ended) refl
    where
      go : (e : Entry) → e ≡ entry_of (holds_of x) x.receiver.ended → Moved x ms (unless e x z)
      go (Ok tt) p = let o = opened _ _ p in f (record { holds = o.0; going = o.1 })
      go (Err why) p = refused _

  by_answer : (z : Left Target) → (Goes x → x.state ≡ UNANSWERED → Moved x ms z) → Moved x ms (unless (confirms_of x) x z)
  by_answer z f = go (confirms_of x) refl
    where
      go : (e : Entry) → e ≡ confirms_of x → Moved x ms (unless e x z)
      go (Ok tt) p = let a = answers x p in f (record { holds = a.0; going = a.1 }) a.2
      go (Err why) p = refused _

  retry_moved : (c : ℕ) → Goes x → x.state ≡ UNANSWERED → Moved x ms (retry_of x c)
  unfolding retry_of pick
  retry_moved c g u = go (ltb x.retries x.receiver.transfer.limit) refl
    where
      go : (t : Bool) → ltb x.retries x.receiver.transfer.limit ≡ t → Moved x ms (pick t (retried_of x saying Said.word Word.retry) (failed_of x c))
      go true e = retried g u (ltb-true _ _ e)
      go false e = fails c refl refl

  pub next_moved : (out : List ℕ) → Moved x ms (next_of x out)
  unfolding next_of hands pick
  next_moved out = by_entry _ (λ g. go g (due_of x) (leb (length (frame_of x)) (length out)) refl)
    where
      go : Goes x → (d t : Bool) → due_of x ≡ d → Moved x ms (pick d (pick t (issued_of x saying Said.frame (length (frame_of x))) (x saying Said.refused 3)) (x saying Said.word Word.wait))
      go g true true e = issued g e _
      go g true false e = refused 3
      go g false t e = waits

  pub ack_moved : Moved x ms (ack_of x)
  ack_moved = by_answer _ acknowledged

  pub nak_moved : Moved x ms (nak_of x)
  nak_moved = by_answer _ (retry_moved 28)

  pub timeout_moved : Moved x ms (timeout_of x)
  timeout_moved = by_answer _ (retry_moved 29)

  pub cut_moved : Moved x ms (cut_of x)
  unfolding pick
  cut_moved = by_entry _ (λ g. go g (eqb x.state UNANSWERED) refl)
    where
      go : Goes x → (t : Bool) → eqb x.state UNANSWERED ≡ t → Moved x ms (pick t (retry_of x 30) (x saying Said.word Word.unchanged))
      go g true e = retry_moved 30 g (eqb-true _ _ e)
      go g false e = unchanged

  pub loss_moved : Moved x ms (loss_of x)
  loss_moved = by_entry _ (λ g. fails 31 refl refl)

  -- DATA taken, the receiving port's answer z
  lifted_moved : {m offset n : ℕ} {cdp : Bool} {z : Left Receiver} → Takes x m → taking.Arrived x.receiver offset cdp n z → Moved x ms (lifted_of x z)
  unfolding pick
  lifted_moved t (taking.Arrived.full p) = discarded x.receiver.waiting
  lifted_moved t (taking.Arrived.misplaced o p) = fails 20 refl refl
  lifted_moved t (taking.Arrived.long o p) = fails 21 refl refl
  lifted_moved t (taking.Arrived.empty o p) = fails 22 refl refl
  lifted_moved t (taking.Arrived.skipped i s) = discarded true
  lifted_moved {m} {offset} {n} t (taking.Arrived.stored i s) = go (eqb (max x.receiver.filled (offset + n)) x.receiver.end) refl
    where
      span : InSpan x
      span = let h = held x (lent x m t.lent).holds in record { going = t.going; ready = t.ready; unfilled = omega (arith, h.marks) }

      go : (b : Bool) → eqb (max x.receiver.filled (offset + n)) x.receiver.end ≡ b → Moved x ms (lifted_of x (stored_of x.receiver offset n saying pick b Said.received Said.stored))
      go true e = received span offset n (eqb-true _ _ e)
      go false e = stored span offset n (omega (arith, i.high, span.unfilled, eqb-false (max x.receiver.filled (offset + n)) x.receiver.end e))

  pub arrival_moved : (f : List ℕ) (m : ℕ) → Moved x ms (write_arrival_of x f m)
  arrival_moved f m = go (came x f m)
    where
      go : {z : Left Target} → Came x m z → Moved x ms z
      go (Came.refused n) = refused n
      go (Came.early e) = discarded x.receiver.waiting
      go (Came.taken t offset cdp n) = lifted_moved t (taking.arrived x.receiver offset cdp n m (core_lent x m t.lent) t.going)

  pub time_moved : Moved x ms (time_of x ms)
  time_moved = go (timed x ms)
    where
      go : {z : Left Target} → Timed x ms z → Moved x ms z
      go (Timed.refused n c) = refused n
      go (Timed.outside c) = unchanged
      go (Timed.expires r) = fails 33 refl refl
      go (Timed.counts b) = counts b

  -- the transfer stays the set-up's
  pub same_transfer : {z : Left Target} → Moved x ms z → z.left.receiver.transfer ≡ x.receiver.transfer
  unfolding issued_of
  same_transfer (Moved.refused n) = refl
  same_transfer Moved.waits = refl
  same_transfer Moved.unchanged = refl
  same_transfer (Moved.discarded w) = refl
  same_transfer (Moved.issued g d n) = burst_transfer x
  same_transfer (Moved.acknowledged g u) = refl
  same_transfer (Moved.retried g u l) = refl
  same_transfer (Moved.stored s offset n l) = refl
  same_transfer (Moved.received s offset n e) = refl
  same_transfer (Moved.counts b) = refl
  same_transfer (Moved.fails c e t) = t
