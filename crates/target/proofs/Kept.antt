-- Every event leaves a well-formed record well-formed; an XFER_RDY handed out asks that a tag more may be in use.
use Prim.Native.Nat.{ℕ, ◌+◌, ◌≤◌, ◌<◌}
use mathlib.Core.Bool.{Bool, true, false}
use mathlib.Core.List.{List}
use mathlib.Core.Path.{◌≡◌, refl, sym, ap, ◌∙◌}
use native.Mathlib.Omega.{arith}
use lib.Dec.{leb, ltb, eqb}
use lib.ListN.{length, get_or}
use borrow.Author.Tests.{ltb-true, eqb-true}
use Rattle.frame.specs.Write.{hands}
use Rattle.status.specs.Pick.{pick, ◌with◌}
use Rattle.status.specs.Entry.{entry_of}
use Rattle.status.specs.Answer.{Word, Said, Left, ◌saying◌, stores, unless}
use Rattle.status.specs.Entry.{Entry}
use Rattle.std.specs.Prelude.{Some, None, Ok, Err}
use Rattle.status.proofs.Leaves.{picked, unless_gives}
use Rattle.status.proofs.OpenedCall.{differ, opened}
use Rattle.status.specs.Result.{Result}
use Rattle.frame.specs.Format.{RESPONSE}
use Rattle.frame.specs.Read.{header_in}
use Rattle.arrival.specs.Accept.{class_of, accept_of}
use Rattle.arrival.specs.declared.Role.TheVariants.{WriteTarget}
use Rattle.arrival.specs.declared.Arrived.{Arrived}
use Rattle.arrival.proofs.Passed.{passed}
use Rattle.transfer.specs.Limits.{limits_hold}
use Rattle.transfer.specs.declared.Transfer.{Transfer}
use Rattle.transfer.proofs.Bounds.{write_start}
use Rattle.receiver.specs.DataFrame.{arrival_of}
use Rattle.receiver_steps.proofs.Held as marks
use Rattle.receiver.proofs.Kept as kept
use Rattle.target.specs.Fields.{elapsed≔}
use Rattle.target.specs.Record.{NONE, UNANSWERED, AGAIN, READY, holds_of, failed_of, start_of}
use Rattle.target.specs.Transmit.{due_of, issued_of, frame_of, hands_of, next_of}
use Rattle.target.specs.Confirmation.{acknowledged_of, retry_of, confirms_of, ack_of, nak_of, timeout_of, cut_of, loss_of}
use Rattle.target.specs.Arrival.{lifted_of, arrived_by, lent_of, write_arrival_of}
use Rattle.target.specs.Time.{time_of}
use Rattle.target.specs.declared.types.Target.{Target}
use Rattle.target.proofs.Held.{Held, held, holds_again, lent, lent_again}
use Rattle.target.proofs.Issue.{Due, due, resent, started}
use Rattle.target.proofs.Views.{answers, Came, came}
use Rattle.target.proofs.Timed.{Timed, timed}

abbrev Kept : Left Target → Type 0
Kept z = holds_of z.left ≡ true

-- what holds of both, each with its test, holds of the one that is picked
by_test : {A : Type 0} (P : A → Type 0) (t : Bool) (a b : A) → (t ≡ true → P a) → P b → P (pick t a b)
unfolding pick
by_test P true a b p q = p refl
by_test P false a b p q = q

pub start_holds : (t : Transfer) → limits_hold t ≡ true → t.write ≡ true → holds_of (start_of t) ≡ true
start_holds t l w = holds_again (start_of t) (kept.begins_holds t 0 0 l (omega (arith, write_start t l w)) (omega arith) (omega arith)) w (omega arith) (λ n. absurd (n refl)) (omega arith) (omega arith) (omega arith)

module _ (x : Target) (h : Held x) where
  pub issued_holds : due_of x ≡ true → x.since + 1 ≤ 16 → holds_of (issued_of x) ≡ true
  unfolding issued_of
  issued_holds d s = go (due x d)
    where
      go : Due x → holds_of (issued_of x) ≡ true
      go (Due.resend e) = rw (resent x e) (holds_again _ h.core h.write (omega arith) (λ n. h.some (λ z. omega arith)) h.retries_most s h.elapsed_most)
      go (Due.fresh a u f l) =
          let m = h.marks in
          let t = m.limits in
          rw (started x a) (holds_again _ (kept.begins_holds _ _ _ (marks.limits_again x.receiver h.core) (omega arith) (omega arith) (omega arith)) h.write (omega arith) (λ n. omega arith) (omega arith) s h.elapsed_most)

  acknowledged_again : (x.state ≡ NONE → ⊥) → holds_of (acknowledged_of x) ≡ true
  acknowledged_again n =
      let m = h.marks in
      holds_again _ (marks.holds_again _ (marks.limits_again x.receiver h.core) m.start_base (omega arith) (omega arith) (omega arith) m.end_past) h.write (omega arith) (λ z. h.some n) h.retries_most h.since_most (omega arith)

  -- milliseconds counted, below the timeout
  counted_holds : (n : ℕ) → n < x.receiver.transfer.irt → holds_of (x with elapsed≔ n) ≡ true
  counted_holds n l = holds_again _ h.core h.write h.state_most h.some h.retries_most h.since_most (omega arith)

  failed_holds : (c : ℕ) → Kept (failed_of x c)
  failed_holds c =
      let s = by_test (λ (n : ℕ). (n ≤ READY) × ((n ≡ NONE → ⊥) → x.receiver.base < x.receiver.end)) (eqb x.state UNANSWERED) AGAIN x.state (λ e. (omega arith, λ n. h.some (λ z. omega (arith, eqb-true x.state UNANSWERED e)))) (h.state_most, h.some) in
      holds_again _ (kept.ended_holds x.receiver h.core) h.write s.0 s.1 h.retries_most h.since_most h.elapsed_most

  retry_holds : (x.state ≡ UNANSWERED) → (c : ℕ) → Kept (retry_of x c)
  unfolding retry_of
  retry_holds u c = by_test Kept (ltb x.retries x.receiver.transfer.limit) _ _ (λ l. holds_again _ h.core h.write (omega arith) (λ n. h.some (λ z. omega arith)) (omega (arith, ltb-true x.retries x.receiver.transfer.limit l)) h.since_most h.elapsed_most) (failed_holds c)

  -- the receiving port's answer
  lifted_holds : (offset : ℕ) (cdp : Bool) (n m : ℕ) → let y = (lifted_of x (arrival_of x.receiver offset cdp n m)).left in (holds_of y ≡ true) × (y.receiver.transfer ≡ x.receiver.transfer)
  lifted_holds offset cdp n m =
      let r = x.receiver in
      let s = kept.arrival_same r offset cdp n m in
      let c = kept.arrival_kept r h.core offset cdp n m in
      let l = ap (λ (t : Transfer). t.limit) s.transfer in
      let w = ap (λ (t : Transfer). t.write) s.transfer ∙ h.write in
      let i = ap (λ (t : Transfer). t.irt) s.transfer in
      picked (λ (y : Target). (holds_of y ≡ true) × (y.receiver.transfer ≡ r.transfer)) _ _ _
      (holds_again _ c w h.state_most (λ z. omega (arith, h.some z, s)) (omega (arith, l, h)) (omega arith) (omega arith), s.transfer)
      (holds_again _ c w h.state_most (λ z. omega (arith, h.some z, s)) (omega (arith, l, h)) h.since_most (omega (arith, i, h)), s.transfer)

pub acknowledged_holds : (y : Target) → holds_of y ≡ true → y.state ≡ UNANSWERED → holds_of (acknowledged_of y) ≡ true
acknowledged_holds y e u = acknowledged_again y (held y e) (λ n. omega arith)

module _ (x : Target) where
  arrived_same : (f : List ℕ) (m : ℕ) → holds_of x ≡ true → (holds_of (write_arrival_of x f m).left ≡ true) × ((write_arrival_of x f m).left.receiver.transfer ≡ x.receiver.transfer)
  arrived_same f m h = go (came x f m)
    where
      go : {z : Left Target} → Came x m z → (holds_of z.left ≡ true) × (z.left.receiver.transfer ≡ x.receiver.transfer)
      go (Came.refused n) = (h, refl)
      go (Came.early e) = (h, refl)
      go (Came.taken t offset cdp n) = lifted_holds x (held x h) offset cdp n m

  -- with the same data buffer
  pub arrived_lent : (f : List ℕ) (m : ℕ) → lent_of x m ≡ true → lent_of (write_arrival_of x f m).left m ≡ true
  arrived_lent f m e =
      let l = lent x m e in
      let s = arrived_same f m l.holds in
      lent_again _ m s.0 (l.size ∙ ap (λ (t : Transfer). t.count) (sym s.1))

  -- DATA before the XFER_RDY's ACK is not stored
  pub before_ack : (f : List ℕ) (m : ℕ) → (x.state ≡ READY → ⊥) → stores (write_arrival_of x f m).says ≡ false
  before_ack f m n = go (came x f m)
    where
      go : {z : Left Target} → Came x m z → stores z.says ≡ false
      go (Came.refused k) = refl
      go (Came.early e) = refl
      go (Came.taken t offset cdp k) = absurd (n t.ready)

  -- the target takes no RESPONSE
  pub response_stores_nothing : (f : List ℕ) (m : ℕ) → get_or f 0 0 ≡ RESPONSE → stores (write_arrival_of x f m).says ≡ false
  unfolding write_arrival_of class_of header_in pick
  response_stores_nothing f m e = unless_gives (λ (z : Left Target). stores z.says ≡ false) (entry_of (lent_of x m) x.receiver.ended) x _ (λ n. refl) (go (accept_of WriteTarget x.receiver.transfer f) refl)
    where
      go : (y : Result Arrived) → accept_of WriteTarget x.receiver.transfer f ≡ y → stores (arrived_by y x m).says ≡ false
      go (Result.number n) q = refl
      go (Result.value a) q =
          let c : None ≡ Some a.class = rw e at (passed x.receiver.transfer WriteTarget f a q).class in
          differ (cc)

  module _ (h : holds_of x ≡ true) where
    -- an answer that is not refused
    answer_kept : (z : Left Target) → (x.state ≡ UNANSWERED → Kept z) → Kept (unless (confirms_of x) x z)
    answer_kept z f = go (confirms_of x) refl
      where
        go : (e : Entry) → e ≡ confirms_of x → Kept (unless e x z)
        go (Ok tt) p = f (answers x p).2
        go (Err why) p = h

    pub next_kept : (out : List ℕ) → (x.receiver.ended ≡ false → due_of x ≡ true → x.since + 1 ≤ 16) → holds_of (next_of x out).left ≡ true
    unfolding next_of hands
    next_kept out s = go (entry_of (holds_of x) x.receiver.ended) refl
      where
        go : (e : Entry) → e ≡ entry_of (holds_of x) x.receiver.ended → Kept (unless e x (pick (due_of x) (hands_of x out) (x saying Said.word Word.wait)))
        go (Ok tt) p = by_test Kept (due_of x) _ _ (λ d. picked Kept (leb (length (frame_of x)) (length out)) (issued_of x saying Said.frame (length (frame_of x))) (x saying Said.refused 3) (issued_holds x (held x h) d (s (opened _ _ p).1 d)) h) h
        go (Err why) p = h

    pub ack_kept : holds_of (ack_of x).left ≡ true
    ack_kept = answer_kept _ (acknowledged_holds x h)

    pub nak_kept : holds_of (nak_of x).left ≡ true
    nak_kept = answer_kept _ (λ u. retry_holds x (held x h) u 28)

    pub timeout_kept : holds_of (timeout_of x).left ≡ true
    timeout_kept = answer_kept _ (λ u. retry_holds x (held x h) u 29)

    pub cut_kept : holds_of (cut_of x).left ≡ true
    cut_kept = unless_gives Kept (entry_of (holds_of x) x.receiver.ended) x _ (λ n. h) (by_test Kept (eqb x.state UNANSWERED) _ _ (λ e. retry_holds x (held x h) (eqb-true _ _ e) 30) h)

    pub loss_kept : holds_of (loss_of x).left ≡ true
    loss_kept = unless_gives Kept (entry_of (holds_of x) x.receiver.ended) x _ (λ n. h) (failed_holds x (held x h) 31)

    pub time_kept : (ms : ℕ) → holds_of (time_of x ms).left ≡ true
    time_kept ms = go (timed x ms)
      where
        go : {z : Left Target} → Timed x ms z → Kept z
        go (Timed.refused n c) = h
        go (Timed.outside c) = h
        go (Timed.expires l) = failed_holds x (held x h) 33
        go (Timed.counts l) = counted_holds x (held x h) (x.elapsed + ms) l.below

    pub arrival_kept : (f : List ℕ) (m : ℕ) → holds_of (write_arrival_of x f m).left ≡ true
    arrival_kept f m = (arrived_same f m h).0
