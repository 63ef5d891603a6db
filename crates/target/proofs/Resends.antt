-- The XFER_RDY's rules hold (`resends`).
use Prim.Native.Nat.{ℕ, ◌+◌, ◌≤◌, ◌<◌}
use mathlib.Core.List.{List}
use mathlib.Core.Bool.{Bool, true, false, not, ◌&&◌, ◌||◌}
use mathlib.Core.Logic.{◌⊎◌, inl, inr}
use mathlib.Core.Path.{◌≡◌, refl, ap, ◌∙◌}
use native.Mathlib.Omega.{arith}
use lib.Dec.{leb, ltb, eqb}
use lib.ListN.{length}
use borrow.Author.Tests.{ltb-true, ltb-false, eqb-true, eqb-false, eq-eqb, ne_eqb, lt-ltb, le-leb, lt-leb}
use Rattle.status.specs.Pick.{pick, ◌with◌}
use Rattle.status.specs.Entry.{confirmable_of}
use Rattle.status.specs.Answer.{Word, Said, ◌saying◌}
use Rattle.std.specs.Prelude.{Ok, Err}
use Rattle.status.specs.declared.words.Refusal.TheVariants.{AnswerWithoutFrame}
use Rattle.status.proofs.OpenedCall.{open_entry, open_confirmable}
use Rattle.frame.specs.Write.{hands}
use Rattle.receiver_steps.specs.Fields.{ended≔}
use Rattle.target.specs.Fields.{receiver≔, state≔, tptt≔, since≔}
use Rattle.target.specs.Record.{UNANSWERED, AGAIN, failed_of}
use Rattle.target.specs.Transmit.{due_of, burst_of, next_burst, issued_of, frame_of, next_of}
use Rattle.target.specs.Confirmation.{retried_of, retry_of, confirms_of, cut_of}
use Rattle.target.specs.Resends.{Open, Unanswered, AtRest, Retry, Due, Resends}
use Rattle.target.specs.declared.types.Target.{Target}
use Rattle.target.proofs.Lowest.{new_tag}

module _ (x : Target) (o : Open x) where
  module _ (u : Unanswered x) where
    confirms : confirms_of x ≡ (Ok tt)
    unfolding confirms_of
    confirms = open_confirmable _ _ _ o.holds o.live (eq-eqb _ _ u)

    ended : (n : ℕ) → failed_of x n ≡ ((x with receiver≔ (x.receiver with ended≔ true) with state≔ AGAIN) saying Said.failed n 0)
    unfolding pick
    ended n = rw (eq-eqb x.state UNANSWERED u) refl

    retry : (n : ℕ) → Retry x n (retry_of x n)
    unfolding retry_of pick
    retry n = go (ltb x.retries x.receiver.transfer.limit) refl
      where
        go : (b : Bool) → ltb x.retries x.receiver.transfer.limit ≡ b → Retry x n (pick b (retried_of x saying Said.word Word.retry) (failed_of x n))
        go true e = record { within = λ q. refl; beyond = λ q. absurd (omega (arith, ltb-true x.retries x.receiver.transfer.limit e, q)) }
        go false e = record { within = λ q. absurd (omega (arith, ltb-false x.retries x.receiver.transfer.limit e, q)); beyond = λ q. ended n }

    cuts : Retry x 30 (cut_of x)
    unfolding pick
    cuts = rw (open_entry _ _ o.holds o.live, eq-eqb x.state UNANSWERED u) (retry 30)

  module _ (r : AtRest x) where
    four : confirms_of x ≡ Err AnswerWithoutFrame
    unfolding confirms_of confirmable_of pick
    four = rw (open_entry _ _ o.holds o.live, ne_eqb x.state UNANSWERED r) refl

    rests : cut_of x ≡ (x saying Said.word Word.unchanged)
    unfolding pick
    rests = rw (open_entry _ _ o.holds o.live, ne_eqb x.state UNANSWERED r) refl

-- an XFER_RDY asked for
module _ (x : Target) where
  due_again : x.state ≡ AGAIN → due_of x ≡ true
  unfolding due_of
  due_again e = rw (eq-eqb x.state AGAIN e) refl

  due_next : AtRest x → x.receiver.filled ≡ x.receiver.end → x.receiver.end < x.receiver.transfer.count → due_of x ≡ true
  unfolding due_of
  due_next r f l = rw (ne_eqb x.state UNANSWERED r, eq-eqb _ _ f, lt-ltb _ _ l) (any (eqb x.state AGAIN))
    where
      any : (b : Bool) → (b || true) ≡ true
      any true = refl
      any false = refl

  due : Due x → due_of x ≡ true
  due (inl e) = due_again e
  due (inr (r, f, l)) = due_next r f l

  not_due : (Due x → ⊥) → due_of x ≡ false
  unfolding due_of
  not_due g = go (eqb x.state AGAIN) (eqb x.state UNANSWERED) (eqb x.receiver.filled x.receiver.end) (ltb x.receiver.end x.receiver.transfer.count) refl refl refl refl
    where
      go : (a b c d : Bool) → eqb x.state AGAIN ≡ a → eqb x.state UNANSWERED ≡ b → eqb x.receiver.filled x.receiver.end ≡ c → ltb x.receiver.end x.receiver.transfer.count ≡ d → (a || (not b && c && d)) ≡ false
      go true b c d p q r u = absurd (g (inl (eqb-true _ _ p)))
      go false true c d p q r u = refl
      go false false false d p q r u = refl
      go false false true false p q r u = refl
      go false false true true p q r u = absurd (g (inr (eqb-false _ _ q, eqb-true _ _ r, ltb-true _ _ u)))

  issued_again : x.state ≡ AGAIN → issued_of x ≡ (x with state≔ UNANSWERED with tptt≔ (issued_of x).tptt with since≔ (x.since + 1))
  unfolding issued_of burst_of pick
  issued_again e = rw (eq-eqb x.state AGAIN e) refl

  issued_next : (x.state ≡ AGAIN → ⊥) → issued_of x ≡ (next_burst x with state≔ UNANSWERED with tptt≔ (issued_of x).tptt with since≔ (x.since + 1))
  unfolding issued_of burst_of pick
  issued_next f = rw (ne_eqb x.state AGAIN f) refl

  tag_is : (issued_of x).tptt ≡ pick (x.stored && leb x.under x.since) (x.since + 1) x.since
  unfolding issued_of
  tag_is = new_tag x.stored x.under x.since

  tag_low : (x.stored ≡ false) ⊎ (x.since < x.under) → (issued_of x).tptt ≡ x.since
  unfolding pick
  tag_low (inl e) = tag_is ∙ ap (λ (b : Bool). pick (b && leb x.under x.since) (x.since + 1) x.since) e
  tag_low (inr l) = tag_is ∙ ap (λ (b : Bool). pick b (x.since + 1) x.since) (ap (λ (b : Bool). x.stored && b) (lt-leb x.under x.since l) ∙ none x.stored)
    where
      none : (b : Bool) → (b && false) ≡ false
      none true = refl
      none false = refl

  tag_high : x.stored ≡ true → x.under ≤ x.since → (issued_of x).tptt ≡ x.since + 1
  unfolding pick
  tag_high e l = tag_is ∙ (λ i. pick (e i && le-leb x.under x.since l i) (x.since + 1) x.since)

  module _ (out : List ℕ) (o : Open x) where
    hands_out : Due x → next_of x out ≡ pick (leb (length (frame_of x)) (length out)) (issued_of x saying Said.frame (length (frame_of x))) (x saying Said.refused 3)
    unfolding next_of hands pick
    hands_out d = rw (open_entry _ _ o.holds o.live, due d) refl

    waits : (Due x → ⊥) → next_of x out ≡ (x saying Said.word Word.wait)
    unfolding next_of pick
    waits d = rw (open_entry _ _ o.holds o.live, not_due d) refl

pub resends : Resends
resends =
    record {
      ack = λ x o u. rw (confirms x o u) refl;
      nak = λ x o u. rw (confirms x o u) (retry x o u 28);
      timeout = λ x o u. rw (confirms x o u) (retry x o u 29);
      cut = λ x o u. cuts x o u;
      ack_at_rest = λ x o r. rw (four x o r) refl;
      nak_at_rest = λ x o r. rw (four x o r) refl;
      timeout_at_rest = λ x o r. rw (four x o r) refl;
      cut_at_rest = λ x o r. rests x o r;
      hands_out = λ x out o d. hands_out x out o d;
      waits = λ x out o d. waits x out o d;
      again = issued_again;
      next = issued_next;
      tag = tag_low;
      tag_behind = tag_high;
    }
