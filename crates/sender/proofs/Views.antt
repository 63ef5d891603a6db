-- What each event leaves, as a view: later layers go by these cases and see no test any more.
use Prim.Native.Nat.{ℕ, ◌≤◌, ◌<◌}
use mathlib.Core.List.{List}
use mathlib.Core.Bool.{Bool, true, false, not, false≢true}
use mathlib.Core.Logic.{inl, inr}
use mathlib.Core.Path.{◌≡◌, refl}
use native.Mathlib.Omega.{arith}
use lib.Dec.{leb, ltb, eqb}
use lib.ListN.{length}
use borrow.Author.Tests.{leb-true, eqb-true, eqb-false, ltb-true, ltb-false, ne_eqb}
use Rattle.frame.specs.Write.{hands as due-frame}
use Rattle.status.specs.Pick.{pick}
use Rattle.status.specs.Entry.{entry_of, confirmable_of}
use Rattle.status.specs.Answer.{Word, Said, Left, ◌saying◌}
use Rattle.std.specs.Prelude.{Ok, Err}
use Rattle.status.specs.declared.words.Refusal.TheVariants.{AnswerWithoutFrame}
use Rattle.status.proofs.OpenedCall.{open_entry, open_confirmable, confirmed}
use Rattle.sender_steps.specs.Record.{holds_of, lent_of}
use Rattle.sender_steps.specs.Transmit.{waits_of, frame_of, sent_of}
use Rattle.sender.specs.Transmit.{next_of}
use Rattle.sender.specs.Retries.{Waits}
use Rattle.sender_steps.specs.Confirmation.{lowered_of, failed_of, retried_of, retry_of, moved_of, delivered_of, advance_of, settle_of, cause_of}
use Rattle.sender.specs.Confirmation.{confirms_of, ack_of, nak_of, timeout_of, cut_of}
use Rattle.sender_steps.specs.declared.types.Sender.{Sender}
use Rattle.sender_steps.proofs.Due.{Due, due}
use Rattle.sender.proofs.Next.{next_waits, next_due}

-- ── a frame asked for ──
pub data Asked (s : Sender) (d out : List ℕ) : Left Sender → Type 0 where
  waits : Waits s → Asked s d out (s saying Said.word Word.wait)
  short : Asked s d out (s saying Said.refused 3)
  hands : Due s → Asked s d out (sent_of s saying Said.frame (length (frame_of s d)))

module _ (s : Sender) (d out : List ℕ) (l : lent_of s (length d) ≡ true) (o : s.ended ≡ false) where
  pub asked : Asked s d out (next_of s d out)
  unfolding due-frame waits_of pick
  asked = go s.nak (leb s.transfer.window s.unanswered) (eqb s.next s.burst.end) (leb (length (frame_of s d)) (length out)) refl refl refl refl
    where
      opened : entry_of (lent_of s (length d)) s.ended ≡ (Ok tt)
      opened = open_entry _ _ l o

      waiting : waits_of s ≡ true → Waits s → Asked s d out (next_of s d out)
      waiting w f = rw (next_waits s d out opened w) (waits f)

      go : (a b c e : Bool) → s.nak ≡ a → leb s.transfer.window s.unanswered ≡ b → eqb s.next s.burst.end ≡ c → leb (length (frame_of s d)) (length out) ≡ e → Asked s d out (next_of s d out)
      go true b c e p q r u = waiting (rw p refl) (inl p)
      go false true c e p q r u = waiting (rw (p, q) refl) (inr (inl (leb-true _ _ q)))
      go false false true e p q r u = waiting (rw (p, q, r) refl) (inr (inr (eqb-true _ _ r)))
      go false false false true p q r u =
          let w : waits_of s ≡ false = rw (p, q, r) refl in
          rw (next_due s d out opened w, u) (hands (due s w))
      go false false false false p q r u =
          let w : waits_of s ≡ false = rw (p, q, r) refl in
          rw (next_due s d out opened w, u) short

-- ── an answer, once the count is lowered ──
pub data Retried (s : Sender) (c : ℕ) : Left Sender → Type 0 where
  again : s.retries < s.burst.limit → Retried s c (retried_of s saying Said.word Word.retry)
  spent : s.burst.limit ≤ s.retries → Retried s c (failed_of s c)

pub retried : (s : Sender) (c : ℕ) → Retried s c (retry_of s c)
unfolding retry_of pick
retried s c = go (ltb s.retries s.burst.limit) refl
  where
    go : (t : Bool) → ltb s.retries s.burst.limit ≡ t → Retried s c (pick t (retried_of s saying Said.word Word.retry) (failed_of s c))
    go true e = again (ltb-true _ _ e)
    go false e = spent (ltb-false _ _ e)

pub data Settled (s : Sender) : Left Sender → Type 0 where
  more : (s.unanswered ≡ 0 → ⊥) → Settled s (s saying Said.word Word.taken)
  retries : s.unanswered ≡ 0 → s.nak ≡ true → {x : Left Sender} → Retried s 28 x → Settled s x
  moves : s.unanswered ≡ 0 → s.nak ≡ false → (s.next ≡ s.burst.end → ⊥) → Settled s (moved_of s saying Said.word Word.taken)
  delivers : s.unanswered ≡ 0 → s.nak ≡ false → s.next ≡ s.burst.end → Settled s (delivered_of s saying Said.delivered s.frames)

pub settled : (s : Sender) → Settled s (settle_of s)
unfolding settle_of advance_of pick
settled s = go (eqb s.unanswered 0) s.nak (eqb s.next s.burst.end) refl refl refl
  where
    go : (a b c : Bool) → eqb s.unanswered 0 ≡ a → s.nak ≡ b → eqb s.next s.burst.end ≡ c → Settled s (pick a (pick b (retry_of s 28) (pick c (delivered_of s saying Said.delivered s.frames) (moved_of s saying Said.word Word.taken))) (s saying Said.word Word.taken))
    go false b c p q r = more (eqb-false _ _ p)
    go true true c p q r = retries (eqb-true _ _ p) q (retried s 28)
    go true false true p q r = delivers (eqb-true _ _ p) q (eqb-true _ _ r)
    go true false false p q r = moves (eqb-true _ _ p) q (eqb-false _ _ r)

-- what an answer that is taken knows
pub record Answers (s : Sender) : Type 0 where
  pub holds : holds_of s ≡ true
  pub live : s.ended ≡ false
  pub some : 1 ≤ s.unanswered

pub answers : (s : Sender) → (Ok tt) ≡ confirms_of s → Answers s
unfolding confirms_of
answers s e =
    let a = confirmed _ _ _ e in
    record { holds = a.0; live = a.1; some = go (eqb s.unanswered 0) refl a.2 }
  where
    go : (t : Bool) → eqb s.unanswered 0 ≡ t → not t ≡ true → 1 ≤ s.unanswered
    go true p q = absurd (false≢true q)
    go false p q = omega (arith, eqb-false s.unanswered 0 p)

-- an event that is not refused
module _ (s : Sender) (h : holds_of s ≡ true) (o : s.ended ≡ false) where
  module _ (n : s.unanswered ≡ 0 → ⊥) where
    answers_open : confirms_of s ≡ (Ok tt)
    unfolding confirms_of
    answers_open = open_confirmable _ _ _ h o (rw (ne_eqb _ _ n) refl)

    pub acked : Settled (lowered_of s s.nak) (ack_of s)
    acked = rw answers_open (settled (lowered_of s s.nak))

    pub naked : Settled (lowered_of s true) (nak_of s)
    naked = rw answers_open (settled (lowered_of s true))

    pub timed_out_lem : Retried s (cause_of s 29) (timeout_of s)
    timed_out_lem = rw answers_open (retried s (cause_of s 29))

    pub cut_off : Retried s (cause_of s 30) (cut_of s)
    unfolding pick
    cut_off = rw (open_entry _ _ h o, ne_eqb _ _ n) (retried s (cause_of s 30))

  -- with nothing unanswered: 4, and a cut changes nothing
  module _ (z : s.unanswered ≡ 0) where
    four : confirms_of s ≡ Err AnswerWithoutFrame
    unfolding confirms_of confirmable_of pick
    four = rw (open_entry _ _ h o, z) refl

    pub ack_4 : ack_of s ≡ (s saying Said.refused 4)
    ack_4 = rw four refl

    pub nak_4 : nak_of s ≡ (s saying Said.refused 4)
    nak_4 = rw four refl

    pub timeout_4 : timeout_of s ≡ (s saying Said.refused 4)
    timeout_4 = rw four refl

    pub cut_0 : cut_of s ≡ (s saying Said.word Word.unchanged)
    unfolding pick
    cut_0 = rw (open_entry _ _ h o, z) refl
