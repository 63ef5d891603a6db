-- With 1 and 2 tested on a write's record, a frame asked for and an ACK are the sending port's steps.
use Prim.Native.Nat.{ℕ, ◌-◌, max}
use mathlib.Core.Bool.{Bool, true, false, not, ◌&&◌, false≢true}
use mathlib.Core.List.{List}
use mathlib.Core.Path.{◌≡◌, refl, sym, ap, ◌∙◌}
use native.Mathlib.Omega.{arith}
use lib.Dec.{eqb}
use lib.ListN.{length}
use Rattle.status.specs.Pick.{pick}
use Rattle.status.specs.Entry.{entry_of, and_some, confirmable_of}
use Rattle.status.specs.Number.{refusal_number}
use Rattle.status.specs.Result.{Result}
use Rattle.status.specs.Answer.{Word, Said, Left, ◌saying◌, refuses, unless}
use Rattle.status.specs.declared.words.Refusal.{Refusal}
use Rattle.status.specs.Entry.{Entry}
use Rattle.std.specs.Prelude.{Ok, Err}
use Rattle.status.specs.declared.words.Refusal.TheVariants.{AnswerWithoutFrame}
use Rattle.status.proofs.Choose.{in_true, in_false}
use Rattle.status.proofs.Leaves.{picked}
use Rattle.status.proofs.OpenedCall.{open_entry, opened, confirmed as confirmable, differ}
use Rattle.frame.specs.Write.{write_answer, answered}
use Rattle.sender.specs.Confirmation as confirmation
use Rattle.sender.specs.Transmit as transmit
use Rattle.sender_steps.specs.Transmit as transmit-step
use Rattle.sender_steps.specs.Transmit.{fits_of, writes_of, frame_step_of}
use Rattle.sender_steps.specs.Confirmation.{ack_step_of}
use Rattle.sender_steps.specs.declared.types.Sender.{Sender}
use Rattle.sender_steps.proofs.Held as core
use Rattle.sender.proofs.Steps.{next_step}
use Rattle.initiator.specs.WriteRecord.{holds_of, starts_of}
use Rattle.initiator.specs.WriteSend.{lifted_of, reached_of, lent_of, held_up, begun_of, kept_of, next_of, counted_of, confirmed_of, served_of, confirms_of, ack_of}
use Rattle.initiator.specs.declared.types.Writer.{Writer}
use Rattle.initiator.proofs.WriteHeld.{held, lent}
use Rattle.initiator.proofs.WriteKept.{starts_well}

-- a step that refuses leaves the sending record
abbrev Same : Sender → Left Sender → Type 0
Same s x = refuses x.says ≡ true → x.left ≡ s

step_same : (s : Sender) (d out : List ℕ) → Same s (frame_step_of s d out)
unfolding frame_step_of
step_same s d out =
    picked (Same s) (fits_of s (length d)) (pick (transmit-step.waits_of s) (s saying Said.word Word.wait) (writes_of s d out)) (s saying Said.refused 1)
    (picked (Same s) (transmit-step.waits_of s) (s saying Said.word Word.wait) (writes_of s d out) (λ e. refl) (go (write_answer (transmit-step.data_header s) (transmit-step.part_of s d) out))) (λ e. refl)
  where
    go : (a : Result ℕ) → Same s (answered s (transmit-step.sent_of s) a)
    go (Result.value n) e = absurd (false≢true e)
    go (Result.number n) e = refl

module _ (w : Writer) (d out : List ℕ) (l : lent_of w (length d) ≡ true) (o : w.sender.ended ≡ false) where
  h : holds_of w ≡ true
  h = (lent w (length d) l).0

  -- the sending record of the burst that was taken
  started : transmit.next_of (starts_of w).sender d out ≡ frame_step_of (starts_of w).sender d out
  started = next_step (starts_of w).sender d out (core.lent_again (starts_of w).sender (length d) (held (starts_of w) (starts_well w h)).holds (lent w (length d) l).1) refl

  serving : transmit.next_of w.sender d out ≡ frame_step_of w.sender d out
  serving = next_step w.sender d out (core.lent_again w.sender (length d) (held w h).holds (lent w (length d) l).1) o

  -- a refusal leaves the furthest offset, which is not below the next one
  kept_same : (x : Left Sender) → Same w.sender x → kept_of w (reached_of w x) ≡ reached_of w x
  unfolding pick
  kept_same x k = go (refuses x.says) refl
    where
      go : (t : Bool) → refuses x.says ≡ t → pick t (w saying x.says) (reached_of w x) ≡ reached_of w x
      go true e =
          let m : w.reached ≡ max w.reached x.left.next = omega (arith, (held w h).marks.reached_least, ap (λ (s : Sender). s.next) (k e)) in
          let n : w.sender ≡ x.left = sym (k e) in
          λ i. record { sender = n i; reached = m i; pending = w.pending; taken = w.taken } saying x.says
      go false e = refl

  asked : held_up w ≡ false → next_of w d out ≡ kept_of w (reached_of (begun_of w) (transmit.next_of (begun_of w).sender d out))
  unfolding next_of pick
  asked u = rw (open_entry _ _ l o, u) refl

  served_by : (v : Writer) → begun_of w ≡ v → kept_of w (reached_of (begun_of w) (transmit.next_of (begun_of w).sender d out)) ≡ kept_of w (reached_of v (transmit.next_of v.sender d out))
  served_by v e = ap (λ (u : Writer). kept_of w (reached_of u (transmit.next_of u.sender d out))) e

  pub begun_starts : w.pending ≡ true → begun_of w ≡ starts_of w
  unfolding begun_of
  begun_starts p = sym (in_true w.pending (starts_of w) (starts_of w) w p refl)

  pub begun_same : w.pending ≡ false → begun_of w ≡ w
  unfolding begun_of
  begun_same p = sym (in_false w.pending w (starts_of w) w p refl)

  pub first_is : held_up w ≡ false → w.pending ≡ true → next_of w d out ≡ kept_of w (reached_of (starts_of w) (frame_step_of (starts_of w).sender d out))
  first_is u p = asked u ∙ served_by (starts_of w) (begun_starts p) ∙ ap (λ (x : Left Sender). kept_of w (reached_of (starts_of w) x)) started

  pub served_is : held_up w ≡ false → w.pending ≡ false → next_of w d out ≡ reached_of w (frame_step_of w.sender d out)
  served_is u p = asked u ∙ served_by w (begun_same p) ∙ ap (λ (x : Left Sender). kept_of w (reached_of w x)) serving ∙ kept_same (frame_step_of w.sender d out) (step_same w.sender d out)

-- ── an ACK ──
none_held_up : (p : Bool) → (p && false) ≡ false
none_held_up true = refl
none_held_up false = refl

module _ (w : Writer) where
  abbrev some : Bool
  some = not (eqb w.sender.unanswered 0)

  entered : entry_of (holds_of w) w.sender.ended ≡ (Ok tt) → ack_of w ≡ pick (held_up w) (counted_of w (w.sender.unanswered - 1)) (lifted_of w (confirmation.ack_of w.sender))
  unfolding confirmed_of
  entered e = rw e refl

  answers : (x : Entry) → entry_of (holds_of w) w.sender.ended ≡ (Ok tt) → and_some (Ok tt) some ≡ x → confirmation.confirms_of w.sender ≡ x
  unfolding confirmation.confirms_of confirmable_of
  answers x e q =
      let o = opened _ _ (sym e) in
      ap (λ (v : Entry). and_some v some) (open_entry _ _ (held w o.0).holds o.1) ∙ q

  ack_closed : (why : Refusal) → confirmable_of (holds_of w) w.sender.ended some ≡ Err why → ack_of w ≡ (w saying Said.refused (refusal_number why))
  unfolding confirmed_of confirmable_of pick
  ack_closed why = go (entry_of (holds_of w) w.sender.ended) refl
    where
      go : (x : Entry) → entry_of (holds_of w) w.sender.ended ≡ x → and_some x some ≡ Err why → ack_of w ≡ (w saying Said.refused (refusal_number why))
      go (Err y) e q = rw e (ap (λ (v : Entry). unless v w (w saying Said.word Word.wait)) q)
      go (Ok tt) e q = zero (eqb w.sender.unanswered 0) refl
        where
          zero : (z : Bool) → eqb w.sender.unanswered 0 ≡ z → ack_of w ≡ (w saying Said.refused (refusal_number why))
          zero false f = differ (cc)
          zero true f =
              let s4 : and_some (Ok tt) some ≡ Err AnswerWithoutFrame = rw f refl in
              let u : held_up w ≡ false = rw f (none_held_up w.pending) in
              let a : confirmation.confirms_of w.sender ≡ Err why = answers (Err why) e q in
              entered e ∙ rw (u, a) refl

  -- what the code tests, at once
  pub acked_is : unless (confirms_of w) w (served_of w (ack_step_of w.sender) (w.sender.unanswered - 1)) ≡ ack_of w
  unfolding confirms_of served_of pick
  acked_is = go (confirmable_of (holds_of w) w.sender.ended some) refl
    where
      go : (x : Entry) → confirmable_of (holds_of w) w.sender.ended some ≡ x → unless x w (pick (held_up w) (counted_of w (w.sender.unanswered - 1)) (lifted_of w (ack_step_of w.sender))) ≡ ack_of w
      go (Err why) e = sym (ack_closed why e)
      go (Ok tt) e =
          let o = confirmable _ _ _ (sym e) in
          let i = open_entry _ _ o.0 o.1 in
          sym (entered i ∙ rw (answers (Ok tt) i (rw o.2 refl)) refl)

  pub ack_counted : confirmable_of (holds_of w) w.sender.ended some ≡ (Ok tt) → held_up w ≡ true → ack_of w ≡ counted_of w (w.sender.unanswered - 1)
  unfolding confirms_of served_of pick
  ack_counted e u = sym acked_is ∙ rw (e, u) refl

  pub ack_lifted : confirmable_of (holds_of w) w.sender.ended some ≡ (Ok tt) → held_up w ≡ false → ack_of w ≡ lifted_of w (ack_step_of w.sender)
  unfolding confirms_of served_of pick
  ack_lifted e u = sym acked_is ∙ rw (e, u) refl
