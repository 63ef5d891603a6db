-- The count in a write's answer is the length of the history of the burst in service, pending or not: each definition of an event keeps it so.
use Prim.Native.Nat.{ℕ}
use mathlib.Core.List.{List, []}
use mathlib.Core.Bool.{Bool, true, false, not, ◌&&◌, ◌||◌, false≢true}
use mathlib.Core.Path.{◌≡◌, refl, sym, ap, subst, ◌∙◌}
use lib.Dec.{eqb}
use lib.ListN.{length}
use mathlib.Core.Logic.{◌⊎◌, inl, inr}
use Rattle.frame.specs.Write.{hands}
use Rattle.status.specs.Pick.{pick, ◌with◌}
use Rattle.status.specs.Entry.{entry_of}
use Rattle.status.specs.Answer.{Word, Taking, Said, Left, ◌saying◌, refuses, unless}
use Rattle.status.specs.Entry.{Entry}
use Rattle.status.proofs.Leaves.{picked, unless_gives, refusing}
use Rattle.sender_steps.specs.Fields.{unanswered≔}
use Rattle.sender_steps.specs.Transmit.{frame_of}
use Rattle.sender_steps.specs.Record.{lent_of as coreLent}
use Rattle.sender.specs.Transmit.{hands_of}
use Rattle.sender.specs.Transmit as transmit
use Rattle.sender_steps.specs.Count.{history, Tells}
use Rattle.sender_steps.specs.Count as core
use Rattle.sender_steps.specs.Record as core-record
use Rattle.sender_steps.specs.Confirmation.{retry_of, settle_of, advance_of}
use Rattle.sender.specs.Confirmation.{confirms_of}
use Rattle.sender.specs.Confirmation as confirmation
use Rattle.sender_steps.specs.Confirmation as confirmation-steps
use Rattle.sender_steps.specs.declared.types.Burst.{Burst}
use Rattle.sender_steps.specs.declared.types.Sender.{Sender}
use Rattle.sender.proofs.Counting as counting
use Rattle.initiator.specs.Fields.{sender≔, pending≔, taken≔}
use Rattle.initiator.specs.WriteRecord.{holds_of, starts_of, begins_of}
use Rattle.initiator.specs.WriteCount.{takes, began, Counts}
use Rattle.initiator.specs.WriteSend.{lifted_of, reached_of, lent_of, held_up, begun_of, kept_of, next_of, counted_of, confirmed_of, ack_of, nak_of, timeout_of, cut_of, loss_of}
use Rattle.initiator.specs.WriteTake.{ended_of, failed_of, asked_of, burst_taken, write_arrival_of}
use Rattle.initiator.specs.declared.types.Writer.{Writer}
use Rattle.initiator.proofs.WriteViews.{Takes, Came, came}

-- a result that equals its definition counts as the definition does
pub both : (w : Writer) (f : List ℕ) {r d : Left Writer} → r ≡ d → Counts w f d → (r ≡ d) × Counts w f r
both w f e k = (e, subst (Counts w f) (sym e) k)

-- no answer of the sending port is an XFER_RDY taken
abbrev Plain : Left Sender → Type 0
Plain x = takes x.says ≡ false

plain_retry : (s : Sender) (c : ℕ) → Plain (retry_of s c)
unfolding retry_of
plain_retry s c = picked Plain _ _ _ refl refl

plain_settle : (s : Sender) → Plain (settle_of s)
unfolding settle_of advance_of
plain_settle s = picked Plain _ _ _ (picked Plain _ _ _ (plain_retry s 28) (picked Plain _ _ _ refl refl)) refl

-- the same record, or one with its burst in service as far on as before: the history goes on
module _ (w : Writer) (f : List ℕ) where
  stays : (p : Bool) → w.pending ≡ p → (t : Bool) → t ≡ false → (not w.pending && (w.pending || t)) ≡ false
  stays true e t z = rw e
  stays false e t z = rw (e, z)

  -- a burst did not start: x has the pending burst that w has
  goes_on : (x : Left Writer) → x.left.pending ≡ w.pending → takes x.says ≡ false → ((h : List (List ℕ)) → length h ≡ w.sender.frames → (length (history x.says f h) ≡ x.left.sender.frames) × Tells x.says (length h)) → Counts w f x
  unfolding pick
  goes_on x same z k h e =
      let b : began w x ≡ false = ap (λ (p : Bool). not p && (w.pending || takes x.says)) same ∙ stays w.pending refl (takes x.says) z in
      rw b (k h e)

  -- a burst started, and nothing of it is handed out
  starts_now : (x : Left Writer) → began w x ≡ true → length (history x.says f []) ≡ x.left.sender.frames → ((h : List (List ℕ)) → length h ≡ w.sender.frames → Tells x.says (length h)) → Counts w f x
  unfolding pick
  starts_now x b k t h e = rw b (k, t h e)

  counts_refused : (n : ℕ) → Counts w f (w saying Said.refused n)
  counts_refused n = goes_on (w saying Said.refused n) refl refl (λ h e. (e, tt))

  counts_unless : (e : Entry) (x : Left Writer) → Counts w f x → Counts w f (unless e w x)
  counts_unless e x = unless_gives (Counts w f) e w x counts_refused

  counts_lifted : (x : Left Sender) → Plain x → core.Counts w.sender f x → Counts w f (lifted_of w x)
  counts_lifted x z k = goes_on (lifted_of w x) refl z k

  counts_counted : w.pending ≡ true → (n : ℕ) → Counts w f (counted_of w n)
  unfolding counted_of pick
  counts_counted p n = go (eqb n 0)
    where
      left : Writer
      left = w with sender≔ (w.sender with unanswered≔ n)

      go : (t : Bool) → Counts w f (pick t (starts_of w) left saying Said.word Word.taken)
      go true = starts_now (starts_of w saying Said.word Word.taken) (rw p) refl (λ h e. tt)
      go false = goes_on (left saying Said.word Word.taken) refl refl (λ h e. (e, tt))

  pub waits_pending : held_up w ≡ true → w.pending ≡ true
  waits_pending = go w.pending refl
    where
      go : (p : Bool) → w.pending ≡ p → (p && not (eqb w.sender.unanswered 0)) ≡ true → w.pending ≡ true
      go true e q = e
      go false e q = absurd (false≢true q)

  counts_answered : (x : Left Sender) (n : ℕ) → Plain x → core.Counts w.sender f x → Counts w f (confirmed_of w x n)
  unfolding confirmed_of pick
  counts_answered x n z k = counts_unless (entry_of (holds_of w) w.sender.ended) _ (go (held_up w) refl)
    where
      go : (t : Bool) → held_up w ≡ t → Counts w f (pick t (counted_of w n) (lifted_of w x))
      go true e = counts_counted (waits_pending e) n
      go false e = counts_lifted x z k

pub ack_counts : (w : Writer) → Counts w [] (ack_of w)
ack_counts w = counts_answered w [] _ _ (unless_gives Plain (confirms_of w.sender) w.sender _ (λ n. refl) (plain_settle _)) (counting.ack_counts w.sender)

pub nak_counts : (w : Writer) → Counts w [] (nak_of w)
nak_counts w = counts_answered w [] _ _ (unless_gives Plain (confirms_of w.sender) w.sender _ (λ n. refl) (plain_settle _)) (counting.nak_counts w.sender)

pub timeout_counts : (w : Writer) → Counts w [] (timeout_of w)
timeout_counts w = counts_answered w [] _ _ (unless_gives Plain (confirms_of w.sender) w.sender _ (λ n. refl) (plain_retry _ _)) (counting.timeout_counts w.sender)

pub cut_counts : (w : Writer) → Counts w [] (cut_of w)
cut_counts w = counts_answered w [] _ _ (unless_gives Plain (entry_of (core-record.holds_of w.sender) w.sender.ended) w.sender _ (λ n. refl) (picked Plain _ _ _ refl (plain_retry _ _))) (counting.cut_counts w.sender)

pub loss_counts : (w : Writer) → Counts w [] (loss_of w)
loss_counts w = counts_unless w [] (entry_of (holds_of w) w.sender.ended) _ (counts_lifted w [] (confirmation.loss_of w.sender) (unless_gives Plain (entry_of (core-record.holds_of w.sender) w.sender.ended) w.sender (confirmation-steps.failed_of w.sender 31) (λ n. refl) refl) (counting.loss_counts w.sender))

-- an XFER_RDY that is taken, its burst started at once or not
burst_counts : (w : Writer) (b : Burst) {a : Said} → Takes w a → Counts w [] (burst_taken w b a)
unfolding burst_taken pick
burst_counts w b {a} t = go (eqb w.sender.unanswered 0) t
  where
    either : (p : Bool) → (p || true) ≡ true
    either true = refl
    either false = refl

    left : Writer
    left = w with pending≔ true with taken≔ b

    go : (u : Bool) {a : Said} → Takes w a → Counts w [] (pick u (begins_of w.sender.transfer b) left saying a)
    go true Takes.next = starts_now w [] (begins_of w.sender.transfer b saying Said.xfer_rdy Taking.next) (either w.pending) refl (λ h e. tt)
    go true Takes.delivers = starts_now w [] (begins_of w.sender.transfer b saying Said.xfer_rdy (Taking.delivers w.sender.frames)) (either w.pending) refl (λ h e. sym e)
    go true Takes.repeats = starts_now w [] (begins_of w.sender.transfer b saying Said.xfer_rdy Taking.repeats) (either w.pending) refl (λ h e. tt)
    go false Takes.next = λ h e. (e, tt)
    go false Takes.delivers = λ h e. (e, sym e)
    go false Takes.repeats = λ h e. (e, tt)

-- ── a frame asked for ──
-- it tells no count, and takes no XFER_RDY
record Silent (x : Left Sender) : Type 0 where
  plain : takes x.says ≡ false
  tells : (k : ℕ) → Tells x.says k

next_silent : (s : Sender) (d out : List ℕ) → Silent (transmit.next_of s d out)
unfolding transmit.next_of hands
next_silent s d out =
    unless_gives Silent (entry_of (coreLent s (length d)) s.ended) s _ (λ n. record { plain = refl; tells = λ k. tt })
    (picked Silent _ _ _ (record { plain = refl; tells = λ k. tt }) (picked Silent _ _ _ (record { plain = refl; tells = λ k. tt }) (record { plain = refl; tells = λ k. tt })))

refused_plain : (a : Said) → refuses a ≡ true → (f : List ℕ) (h : List (List ℕ)) → (history a f h ≡ h) × (takes a ≡ false)
refused_plain a e f h = refusing (λ (b : Said). (history b f h ≡ h) × (takes b ≡ false)) (λ n. (refl, refl)) a e

module _ (w : Writer) (d out : List ℕ) where
  -- by the answer y of the record v that serves the frame: v is w, or w's pending burst, started
  served : (v : Writer) (f : List ℕ) (y : Left Sender) → Silent y → ((h : List (List ℕ)) → length h ≡ v.sender.frames → length (history y.says f h) ≡ y.left.frames) → (v ≡ w) ⊎ ((w.pending ≡ true) × (v.pending ≡ false) × (v.sender.frames ≡ 0)) → Counts w f (kept_of w (reached_of v y))
  unfolding pick
  served v f y s k o = go (refuses y.says) refl o
    where
      go : (t : Bool) → refuses y.says ≡ t → (v ≡ w) ⊎ ((w.pending ≡ true) × (v.pending ≡ false) × (v.sender.frames ≡ 0)) → Counts w f (pick t (w saying y.says) (reached_of v y))
      go true e q = goes_on w f (w saying y.says) refl s.plain (λ h l. (ap length (refused_plain y.says e f h).0 ∙ l, s.tells (length h)))
      go false e (inl q) = goes_on w f (reached_of v y) (ap (λ (u : Writer). u.pending) q) s.plain (λ h l. (k h (l ∙ sym (ap (λ (u : Writer). u.sender.frames) q)), s.tells (length h)))
      go false e (inr q) = starts_now w f (reached_of v y) (rw (q.0, q.1)) (k [] (sym q.2)) (λ h l. s.tells (length h))

  pub next_counts : Counts w (frame_of (begun_of w).sender d) (next_of w d out)
  unfolding next_of begun_of pick
  next_counts = counts_unless w (frame_of (begun_of w).sender d) (entry_of (lent_of w (length d)) w.sender.ended) _ (picked (Counts w (frame_of (begun_of w).sender d)) (held_up w) _ _ (goes_on w (frame_of (begun_of w).sender d) (w saying Said.word Word.wait) refl refl (λ h e. (e, tt))) (served (begun_of w) (frame_of (begun_of w).sender d) (transmit.next_of (begun_of w).sender d out) (next_silent (begun_of w).sender d out) (λ h e. (counting.next_counts (begun_of w).sender d out h e).0) (go w.pending refl)))
    where
      go : (p : Bool) → w.pending ≡ p → (pick p (starts_of w) w ≡ w) ⊎ ((w.pending ≡ true) × ((pick p (starts_of w) w).pending ≡ false) × ((pick p (starts_of w) w).sender.frames ≡ 0))
      go true e = inr (e, refl, refl)
      go false e = inl refl

-- ── an arrival ──
pub arrival_counts : (w : Writer) (f : List ℕ) → Counts w [] (write_arrival_of w f)
arrival_counts w f = go (came w f)
  where
    go : {x : Left Writer} → Came w x → Counts w [] x
    go (Came.refused n) = counts_refused w [] n
    go (Came.failed n) = goes_on w [] (failed_of w n) refl refl (λ h e. (e, sym e))
    go (Came.answered start len o) = goes_on w [] (ended_of w saying Said.response start len o w.sender.frames) refl refl (λ h e. (e, sym e))
    go (Came.taken h x i t) = burst_counts w (asked_of w h x) t
