-- What a report of time comes to at the target: 33 exactly where the sum reaches the timeout in its span, and nothing outside it.
use Prim.Native.Nat.{ℕ, ◌+◌}
use mathlib.Core.Bool.{Bool, true, false, false≢true}
use mathlib.Core.Path.{◌≡◌, refl, sym, ◌∙◌}
use native.Mathlib.Omega.{arith}
use lib.Dec.{leb}
use borrow.Author.Tests.{leb-true, leb-false, le-leb}
use Rattle.status.specs.Entry.{entry_of}
use Rattle.status.specs.Pick.{pick, ◌with◌}
use Rattle.status.specs.Answer.{Word, Said, Left, ◌saying◌, unless}
use Rattle.status.specs.Entry.{Entry}
use Rattle.std.specs.Prelude.{Ok, Err}
use Rattle.status.proofs.OpenedCall.{differ, opened, open_entry}
use Rattle.target.specs.Fields.{elapsed≔}
use Rattle.target.specs.Record.{holds_of, failed_of}
use Rattle.target.specs.Time.{runs_of, elapsed_of, time_of}
use Rattle.target.specs.declared.types.Target.{Target}
use Rattle.target.proofs.InSpan.{InSpan, Reaches, Below, runs_only, runs_there}

pub data Timed (x : Target) (ms : ℕ) : Left Target → Type 0 where
  refused : (n : ℕ) → (holds_of x ≡ true → x.receiver.ended ≡ false → ⊥) → Timed x ms (x saying Said.refused n)
  -- the timeout is off, no XFER_RDY waits for its DATA, or the burst is filled
  outside : (InSpan x → (x.receiver.transfer.irt ≡ 0 → ⊥) → ⊥) → Timed x ms (x saying Said.word Word.unchanged)
  expires : Reaches x ms → Timed x ms (failed_of x 33)
  counts : Below x ms → Timed x ms ((x with elapsed≔ (x.elapsed + ms)) saying Said.word Word.taken)

module _ (x : Target) (ms : ℕ) where
  pub timed : Timed x ms (time_of x ms)
  unfolding time_of elapsed_of pick
  timed = go (entry_of (holds_of x) x.receiver.ended) (runs_of x) (leb x.receiver.transfer.irt (x.elapsed + ms)) refl refl refl
    where
      go : (e : Entry) (c t : Bool) → e ≡ entry_of (holds_of x) x.receiver.ended → runs_of x ≡ c → leb x.receiver.transfer.irt (x.elapsed + ms) ≡ t → Timed x ms (unless e x (pick c (pick t (failed_of x 33) ((x with elapsed≔ (x.elapsed + ms)) saying Said.word Word.taken)) (x saying Said.word Word.unchanged)))
      go (Err why) c t p q r = refused _ (λ h o. let z : Err why ≡ (Ok tt) = p ∙ open_entry _ _ h o in differ (cc))
      go (Ok tt) false t p q r = outside (λ s n. false≢true (sym q ∙ runs_there x s n))
      go (Ok tt) true true p q r = let s = runs_only x (opened _ _ p).1 q in expires (record { span = s.0; on = s.1; reached = omega (arith, leb-true) })
      go (Ok tt) true false p q r = let s = runs_only x (opened _ _ p).1 q in counts (record { span = s.0; below = omega (arith, leb-false) })

  -- 33 there, and there only
  pub fails_there : holds_of x ≡ true → Reaches x ms → time_of x ms ≡ failed_of x 33
  unfolding time_of elapsed_of pick
  fails_there h e = rw (open_entry _ _ h e.span.going, runs_there x e.span e.on, le-leb _ _ e.reached)
