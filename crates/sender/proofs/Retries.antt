-- The sending port's rules hold (`retries`).
use Prim.Native.Nat.{ℕ, ◌-◌, ◌≤◌, ◌<◌}
use mathlib.Core.List.{List}
use mathlib.Core.Bool.{Bool, true, false, not, ◌||◌}
use mathlib.Core.Logic.{inl, inr}
use mathlib.Core.Path.{◌≡◌, refl, sym, ap, subst, ◌∙◌}
use native.Mathlib.Omega.{arith}
use lib.Dec.{leb, eqb}
use lib.ListN.{length}
use borrow.Author.Tests.{le-leb, lt-leb, leb-true, leb-false, eq-eqb, ne_eqb}
use Rattle.status.specs.Pick.{pick, ◌with◌}
use Rattle.status.specs.Entry.{entry_of}
use Rattle.status.specs.Answer.{Word, Said, Left, ◌saying◌}
use Rattle.std.specs.Prelude.{Ok}
use Rattle.status.proofs.OpenedCall.{differ, open_entry}
use Rattle.frame.specs.Write.{hands}
use Rattle.sender_steps.specs.Fields.{balance≔, unanswered≔, nak≔, retries≔, ended≔}
use Rattle.sender_steps.specs.Record.{lent_of}
use Rattle.sender_steps.specs.Transmit.{waits_of, frame_of, sent_of}
use Rattle.sender_steps.specs.Confirmation.{lowered_of, cause_of}
use Rattle.sender_steps.specs.declared.types.Sender.{Sender}
use Rattle.sender_steps.proofs.Held.{lent_again}
use Rattle.sender.specs.Transmit.{next_of}
use Rattle.sender.specs.Confirmation.{ack_of}
use Rattle.sender.specs.Retries as law
use Rattle.sender.specs.Retries.{Open, Read, Write, Waits, Retry, Retries}
use Rattle.sender.proofs.Next.{next_waits, next_due}
use Rattle.sender.proofs.Views.{Retried, Settled, acked, naked, timed_out_lem, cut_off, ack_4, nak_4, timeout_4, cut_0}

-- a retry or a failure of s with another count and another pending NAK, as the port shows it
module _ (s : Sender) (u : ℕ) (b : Bool) (n : ℕ) where
  abbrev other : Sender
  other = s with unanswered≔ u with nak≔ b

  from_balance : Read s → pick s.transfer.write s.burst.base s.balance ≡ s.balance
  unfolding pick
  from_balance e = rw e refl

  from_base : Write s → pick s.transfer.write s.burst.base s.balance ≡ s.burst.base
  unfolding pick
  from_base e = rw e refl

  retry : {x : Left Sender} → Retried other n x → Retry s n x
  retry (Retried.again l) =
      record {
        read = λ r q. ap (λ (v : ℕ). law.again s v saying Said.word Word.retry) (from_balance r);
        write = λ r q. ap (λ (v : ℕ). law.again s v saying Said.word Word.retry) (from_base r);
        beyond = λ q. absurd (omega (arith, l, q));
      }
  retry (Retried.spent l) = record { read = λ r q. absurd (omega (arith, l, q)); write = λ r q. absurd (omega (arith, l, q)); beyond = λ q. refl }

-- a count that was one is zero, and more is left
gone : (u : ℕ) → u ≡ 1 → u - 1 ≡ 0
gone u e = omega (arith, e)

left : (u : ℕ) → 1 < u → u - 1 ≡ 0 → ⊥
left u l e = omega (arith, l, e)

some : {u : ℕ} → 0 < u → u ≡ 0 → ⊥
some l e = omega (arith, l, e)

one : {u : ℕ} → u ≡ 1 → u ≡ 0 → ⊥
one l e = omega (arith, l, e)

many : {u : ℕ} → 1 < u → u ≡ 0 → ⊥
many l e = omega (arith, l, e)

-- the three reasons to wait, as the port tests them
module _ (s : Sender) where
  by_nak : s.nak ≡ true → waits_of s ≡ true
  unfolding waits_of
  by_nak p = rw p refl

  by_window : s.transfer.window ≤ s.unanswered → waits_of s ≡ true
  unfolding waits_of
  by_window p = rw (le-leb s.transfer.window s.unanswered p) (any s.nak (eqb s.next s.burst.end))
    where
      any : (a b : Bool) → (a || true || b) ≡ true
      any true b = refl
      any false b = refl

  by_end : s.next ≡ s.burst.end → waits_of s ≡ true
  unfolding waits_of
  by_end p = rw (eq-eqb s.next s.burst.end p) (last s.nak (leb s.transfer.window s.unanswered))
    where
      last : (a b : Bool) → (a || b || true) ≡ true
      last true b = refl
      last false true = refl
      last false false = refl

  no_wait : (Waits s → ⊥) → waits_of s ≡ false
  unfolding waits_of
  no_wait f = rw (off s.nak (λ p. f (inl p)), lt-leb s.transfer.window s.unanswered (above (λ p. f (inr (inl p)))), ne_eqb s.next s.burst.end (λ p. f (inr (inr p)))) refl
    where
      off : (b : Bool) → (b ≡ true → ⊥) → b ≡ false
      off true g = absurd (g refl)
      off false g = refl

      above : {i j : ℕ} → (i ≤ j → ⊥) → j < i
      above {i} {j} g = go (leb i j) refl
        where
          go : (b : Bool) → leb i j ≡ b → j < i
          go true e = absurd (g (leb-true i j e))
          go false e = leb-false i j e

module _ (s : Sender) (o : Open s) where
  -- with more than one unanswered
  lowers : (b : Bool) → 1 < s.unanswered → {x : Left Sender} → Settled (lowered_of s b) x → x ≡ (lowered_of s b saying Said.word Word.taken)
  lowers b l (Settled.more m) = refl
  lowers b l (Settled.retries z k r) = absurd (left s.unanswered l z)
  lowers b l (Settled.moves z k m) = absurd (left s.unanswered l z)
  lowers b l (Settled.delivers z k d) = absurd (left s.unanswered l z)

  -- with one, a NAK pending
  settles : (b : Bool) → s.unanswered ≡ 1 → b ≡ true → {x : Left Sender} → Settled (lowered_of s b) x → Retry s 28 x
  settles b e p (Settled.more m) = absurd (m (gone s.unanswered e))
  settles b e p (Settled.retries z k r) = retry s (s.unanswered - 1) b 28 r
  settles b e p (Settled.moves z k m) = differ (cc)
  settles b e p (Settled.delivers z k d) = differ (cc)

  -- with one, no NAK pending: how the record moves
  abbrev moved : Sender
  moved = s with unanswered≔ 0 with balance≔ (pick s.transfer.write s.balance s.next) with retries≔ (pick s.transfer.write s.retries 0)

  moves : s.unanswered ≡ 1 → s.nak ≡ false → (s.next ≡ s.burst.end → ⊥) → {x : Left Sender} → Settled (lowered_of s s.nak) x → x ≡ (moved saying Said.word Word.taken)
  moves e p q (Settled.more m) = absurd (m (gone s.unanswered e))
  moves e p q (Settled.retries z k r) = differ (cc)
  moves e p q (Settled.moves z k m) = ap (λ (u : ℕ). (moved with unanswered≔ u) saying Said.word Word.taken) z
  moves e p q (Settled.delivers z k d) = absurd (q d)

  delivers : s.unanswered ≡ 1 → s.nak ≡ false → s.next ≡ s.burst.end → {x : Left Sender} → Settled (lowered_of s s.nak) x → x ≡ ((moved with ended≔ (not s.transfer.write)) saying Said.delivered s.frames)
  delivers e p q (Settled.more m) = absurd (m (gone s.unanswered e))
  delivers e p q (Settled.retries z k r) = differ (cc)
  delivers e p q (Settled.moves z k m) = absurd (m q)
  delivers e p q (Settled.delivers z k d) = ap (λ (u : ℕ). (moved with unanswered≔ u with ended≔ (not s.transfer.write)) saying Said.delivered s.frames) z

  acks : (s.unanswered ≡ 0 → ⊥) → Settled (lowered_of s s.nak) (ack_of s)
  acks u = acked s o.holds o.live u

  -- in a read and in a write
  read_moved : Read s → moved ≡ (s with unanswered≔ 0 with balance≔ s.next with retries≔ 0)
  unfolding pick
  read_moved e = rw e refl

  write_moved : Write s → moved ≡ (s with unanswered≔ 0)
  unfolding pick
  write_moved e = rw e refl

  cause : (event n : ℕ) (b : Bool) → s.nak ≡ b → pick b 28 event ≡ n → cause_of s event ≡ n
  cause event n b e f = ap (λ (v : Bool). pick v 28 event) e ∙ f

  retries_as : {c n : ℕ} → c ≡ n → {x : Left Sender} → Retried s c x → Retry s n x
  retries_as {c} e {x} v = subst (λ (k : ℕ). Retry s k x) e (retry s s.unanswered s.nak c v)

  -- a frame asked for, with the data buffer that the record needs
  module _ (d out : List ℕ) (e : length d ≡ s.transfer.count) where
    opened : entry_of (lent_of s (length d)) s.ended ≡ (Ok tt)
    opened = open_entry _ _ (lent_again s (length d) o.holds e) o.live

    waits : Waits s → next_of s d out ≡ (s saying Said.word Word.wait)
    waits w = next_waits s d out opened (waiting w)
      where
        waiting : Waits s → waits_of s ≡ true
        waiting (inl p) = by_nak s p
        waiting (inr (inl p)) = by_window s p
        waiting (inr (inr p)) = by_end s p

    hands_out : (Waits s → ⊥) → next_of s d out ≡ pick (leb (length (frame_of s d)) (length out)) (sent_of s saying Said.frame (length (frame_of s d))) (s saying Said.refused 3)
    unfolding hands
    hands_out f = next_due s d out opened (no_wait s f)

pub retries : Retries
unfolding pick sent_of
retries =
    record {
      ack_lowers = λ s o l. lowers s o s.nak l (acks s o (many l));
      read_moves = λ s o r e p q. moves s o e p q (acks s o (one e)) ∙ ap (λ (v : Sender). v saying Said.word Word.taken) (read_moved s o r);
      write_stays = λ s o r e p q. moves s o e p q (acks s o (one e)) ∙ ap (λ (v : Sender). v saying Said.word Word.taken) (write_moved s o r);
      read_delivers = λ s o r e p q. delivers s o e p q (acks s o (one e)) ∙ (λ i. (read_moved s o r i with ended≔ (not (r i))) saying Said.delivered s.frames);
      write_delivers = λ s o r e p q. delivers s o e p q (acks s o (one e)) ∙ (λ i. (write_moved s o r i with ended≔ (not (r i))) saying Said.delivered s.frames) ∙ open_still s o;
      nak_lowers = λ s o l. lowers s o true l (naked s o.holds o.live (many l));
      nak_retries = λ s o e. settles s o true e refl (naked s o.holds o.live (one e));
      ack_retries = λ s o e p. settles s o s.nak e p (acks s o (one e));
      timeout_retries = λ s o l p. retries_as s o (cause s o 29 29 false p refl) (timed_out_lem s o.holds o.live (some l));
      timeout_after_nak = λ s o l p. retries_as s o (cause s o 29 28 true p refl) (timed_out_lem s o.holds o.live (some l));
      cut_retries = λ s o l p. retries_as s o (cause s o 30 30 false p refl) (cut_off s o.holds o.live (some l));
      cut_after_nak = λ s o l p. retries_as s o (cause s o 30 28 true p refl) (cut_off s o.holds o.live (some l));
      cut_at_rest = λ s o z. cut_0 s o.holds o.live z;
      ack_at_rest = λ s o z. ack_4 s o.holds o.live z;
      nak_at_rest = λ s o z. nak_4 s o.holds o.live z;
      timeout_at_rest = λ s o z. timeout_4 s o.holds o.live z;
      waits = λ s o d out e w. waits s o d out e w;
      hands_out = λ s o d out e f. hands_out s o d out e f;
    }
  where
    open_still : (s : Sender) → Open s → ((s with unanswered≔ 0 with ended≔ false) saying Said.delivered s.frames) ≡ ((s with unanswered≔ 0) saying Said.delivered s.frames)
    open_still s o i = (s with unanswered≔ 0 with ended≔ (sym o.live i)) saying Said.delivered s.frames
