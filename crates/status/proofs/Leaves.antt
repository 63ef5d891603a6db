-- What a call leaves, by what it answers: a refusal, "wait" and a cut with nothing unanswered leave the record as it was, a failure and a RESPONSE end it. Said of
-- any record: End is what it is for it to have ended.
use Prim.Native.Nat.{ℕ}
use mathlib.Core.Bool.{Bool, true, false, false≢true}
use mathlib.Core.Path.{◌≡◌, refl, subst}
use Rattle.status.specs.Pick.{pick}
use Rattle.status.specs.Answer.{Word, Said, Left, ◌saying◌, stores, refuses, unless}
use Rattle.status.specs.Entry.{Entry}
use Rattle.std.specs.Prelude.{Ok, Err}

-- what holds of both holds of the one that is picked
pub picked : {A : Type 0} (P : A → Type 0) (t : Bool) (a b : A) → P a → P b → P (pick t a b)
unfolding pick
picked P true a b p q = p
picked P false a b p q = q

-- what holds of each refusal and of what is done else
pub unless_gives : {X : Type 0} (P : Left X → Type 0) (e : Entry) (x : X) (r : Left X) → ((n : ℕ) → P (x saying Said.refused n)) → P r → P (unless e x r)
unless_gives P (Ok tt) x r f p = p
unless_gives P (Err why) x r f p = f _

abbrev pub AfterWord : {X : Type 0} → Word → X → X → Type 0
AfterWord Word.wait x y = y ≡ x
AfterWord Word.unchanged x y = y ≡ x
AfterWord Word.taken x y = Unit {0}
AfterWord Word.retry x y = Unit {0}
AfterWord Word.acknowledged x y = Unit {0}
AfterWord Word.discarded x y = Unit {0}

abbrev pub After : {X : Type 0} → (X → Type 0) → Said → X → X → Type 0
After End (Said.refused n) x y = y ≡ x
After End (Said.failed n k) x y = End y
After End (Said.response start len o n) x y = End y
After End (Said.word w) x y = AfterWord w x y
After End (Said.frame n) x y = Unit {0}
After End (Said.delivered n) x y = Unit {0}
After End Said.stored x y = Unit {0}
After End Said.received x y = Unit {0}
After End (Said.xfer_rdy t) x y = Unit {0}

-- what holds of each refusal holds of an answer that refuses
pub refusing : (P : Said → Type 0) → ((n : ℕ) → P (Said.refused n)) → (a : Said) → refuses a ≡ true → P a
refusing P p (Said.refused n) e = p n
refusing P p (Said.failed n k) e = absurd (false≢true e)
refusing P p (Said.response start len o n) e = absurd (false≢true e)
refusing P p (Said.word w) e = absurd (false≢true e)
refusing P p (Said.frame n) e = absurd (false≢true e)
refusing P p (Said.delivered n) e = absurd (false≢true e)
refusing P p Said.stored e = absurd (false≢true e)
refusing P p Said.received e = absurd (false≢true e)
refusing P p (Said.xfer_rdy t) e = absurd (false≢true e)

abbrev pub Leaves : {X : Type 0} → (X → Type 0) → X → Left X → Type 0
Leaves End x r = After End r.says x r.left

module _ {X : Type 0} (End : X → Type 0) (x : X) where
  pub leaves_pick : (t : Bool) (a b : Left X) → Leaves End x a → Leaves End x b → Leaves End x (pick t a b)
  leaves_pick = picked (Leaves End x)

  pub leaves_unless : (e : Entry) (r : Left X) → Leaves End x r → Leaves End x (unless e x r)
  leaves_unless (Ok tt) r p = p
  leaves_unless (Err why) r p = refl

  pub refusal_same : (r : Left X) → Leaves End x r → (n : ℕ) → r.says ≡ Said.refused n → r.left ≡ x
  refusal_same r l n e = subst (λ (a : Said). After End a x r.left) e l

  pub failure_ends : (r : Left X) → Leaves End x r → (n k : ℕ) → r.says ≡ Said.failed n k → End r.left
  failure_ends r l n k e = subst (λ (a : Said). After End a x r.left) e l

  pub refused_same : (r : Left X) → Leaves End x r → refuses r.says ≡ true → r.left ≡ x
  refused_same r l e = refusing (λ (a : Said). After End a x r.left → r.left ≡ x) (λ n h. h) r.says e l

-- a refusal stores nothing
pub refused_stores : (a : Said) → refuses a ≡ true → stores a ≡ false
refused_stores = refusing (λ (a : Said). stores a ≡ false) (λ n. refl)
