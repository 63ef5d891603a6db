-- What each call leaves of the attempt: whether it is a bad event, and the number that it fails with.
use Prim.Native.Nat.{ℕ, ◌≤◌}
use mathlib.Core.List.{List}
use mathlib.Core.Bool.{Bool, true, false, not, ◌&&◌, false≢true}
use mathlib.Core.Path.{◌≡◌, refl, sym, ap, ◌∙◌}
use lib.Dec.{leb, ltb, eqb}
use lib.ListN.{length}
use borrow.Author.Tests.{lt-ltb, eqb-true}
use Rattle.status.specs.Pick.{pick}
use Rattle.status.specs.Entry.{entry_of}
use Rattle.status.specs.Answer.{Word, Said, Left, ◌saying◌, refuses, fails, unless}
use Rattle.status.specs.Entry.{Entry}
use Rattle.std.specs.Prelude.{Ok, Err}
use Rattle.status.proofs.Leaves.{picked, unless_gives}
use Rattle.status.proofs.OpenedCall.{differ}
use Rattle.frame.specs.Write.{hands}
use Rattle.sender_steps.specs.Record.{holds_of, lent_of}
use Rattle.sender_steps.specs.Transmit.{waits_of, frame_of, sent_of}
use Rattle.sender_steps.specs.Confirmation.{lowered_of, cause_of, retry_step_of}
use Rattle.sender_steps.specs.declared.types.Sender.{Sender}
use Rattle.sender.specs.Transmit.{next_of}
use Rattle.sender.specs.Confirmation.{confirms_of, cut_of}
use Rattle.sender.proofs.Views.{Retried, retried, Settled, answers}

-- a call of the number k that answers a is a bad event
abbrev pub bad : ℕ → Sender → Said → Bool
bad k s a = ltb 0 k && ltb 0 s.unanswered && not (refuses a)

-- no failure
abbrev pub Calm : Said → Type 0
Calm a = fails a ≡ false

pub calm_no : (a : Said) (n f : ℕ) → Calm a → a ≡ Said.failed n f → ⊥
calm_no a n f o q = false≢true (sym o ∙ ap (λ (b : Said). fails b) q)

-- what a call of the number k leaves of the attempt
pub data Goes (k : ℕ) (s : Sender) : Left Sender → Type 0 where
  calm : (y : Sender) (a : Said) → y.nak ≡ s.nak → bad k s a ≡ false → Calm a → Goes k s (y saying a)
  naks : (y : Sender) (a : Said) → y.nak ≡ true → bad k s a ≡ true → k ≡ 28 → Calm a → Goes k s (y saying a)
  retries : (y : Sender) → Goes k s (y saying Said.word Word.retry)
  spent : (y : Sender) (n f : ℕ) → y.ended ≡ true → n ≡ pick s.nak 28 k → Goes k s (y saying Said.failed n f)

last_false : (a b : Bool) → (a && b && false) ≡ false
last_false true true = refl
last_false true false = refl
last_false false b = refl

-- a choice, by its test
pub same_28 : (b : Bool) → ◌≡◌ {A = ℕ} (pick b 28 28) 28
unfolding pick
same_28 true = refl
same_28 false = refl

pub no_bad : (m n : ℕ) (b : Bool) → b ≡ false → pick b m n ≡ n
unfolding pick
no_bad m n b e = rw e refl

pub is_bad_lem : (m n : ℕ) (b : Bool) → b ≡ true → pick b m n ≡ m
unfolding pick
is_bad_lem m n b e = rw e refl

module _ (s : Sender) where
  refused : (k n : ℕ) → Goes k s (s saying Said.refused n)
  refused k n = calm s _ refl (last_false (ltb 0 k) (ltb 0 s.unanswered)) refl

  pub asks : (d out : List ℕ) → Goes 0 s (next_of s d out)
  unfolding next_of hands sent_of
  asks d out =
      unless_gives (Goes 0 s) (entry_of (lent_of s (length d)) s.ended) s _ (refused 0)
      (picked (Goes 0 s) (waits_of s) _ _ (calm s _ refl refl refl) (picked (Goes 0 s) (leb (length (frame_of s d)) (length out)) _ _ (calm _ _ refl refl refl) (refused 0 3)))

  -- a retry that begins with cause c, at s with another count and NAK
  pub begins : (k c : ℕ) (t : Sender) → c ≡ pick s.nak 28 k → {x : Left Sender} → Retried t c x → Goes k s x
  begins k c t e (Retried.again l) = retries _
  begins k c t e (Retried.spent l) = spent _ c t.frames refl e

  -- an ACK that is taken
  pub acks : {x : Left Sender} → Settled (lowered_of s s.nak) x → Goes 0 s x
  acks (Settled.more m) = calm _ _ refl refl refl
  acks (Settled.retries z p r) = begins 0 28 (lowered_of s s.nak) (sym (is_bad_lem 28 0 s.nak p)) r
  acks (Settled.moves z p m) = calm _ _ refl refl refl
  acks (Settled.delivers z p d) = calm _ _ refl refl refl

  -- a NAK that is taken
  pub naked : 1 ≤ s.unanswered → {x : Left Sender} → Settled (lowered_of s true) x → Goes 28 s x
  naked l (Settled.more m) = naks _ (Said.word Word.taken) refl (ap (λ (t : Bool). t && true) (lt-ltb 0 s.unanswered l)) refl refl
  naked l (Settled.retries z p r) = begins 28 28 (lowered_of s true) (sym (same_28 s.nak)) r
  naked l (Settled.moves z p m) = differ (cc)
  naked l (Settled.delivers z p d) = differ (cc)

  -- answers: what is refused leaves the record
  pub by_entry : (k : ℕ) (x : Left Sender) → (1 ≤ s.unanswered → Goes k s x) → Goes k s (unless (confirms_of s) s x)
  by_entry k x f = go (confirms_of s) refl
    where
      go : (e : Entry) → confirms_of s ≡ e → Goes k s (unless e s x)
      go (Ok tt) e = f (answers s (sym e)).some
      go (Err why) e = refused k _

  pub cuts : Goes 30 s (cut_of s)
  unfolding pick
  cuts = unless_gives (Goes 30 s) (entry_of (holds_of s) s.ended) s _ (refused 30) (go (eqb s.unanswered 0) refl)
    where
      go : (b : Bool) → eqb s.unanswered 0 ≡ b → Goes 30 s (pick b (s saying Said.word Word.unchanged) (retry_step_of s 30))
      go true e = calm s (Said.word Word.unchanged) refl (ap (λ (u : ℕ). ltb 0 u && true) (eqb-true s.unanswered 0 e)) refl
      go false e = begins 30 (cause_of s 30) s refl (retried s (cause_of s 30))
