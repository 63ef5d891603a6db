-- The receiving port's sentences: each arrival is one of the paper's cases, which exclude one another.
use Prim.Native.Nat.{ℕ}
use mathlib.Core.Bool.{Bool, true, false, false≢true}
use mathlib.Core.Logic.{◌⊎◌, inl, inr, ◌≢◌}
use mathlib.Core.Path.{◌≡◌, refl, sym, ap, subst, ◌∙◌}
use native.Mathlib.Omega.{arith}
use borrow.Author.Tests.{eqb-true}
use Rattle.status.specs.Pick.{pick}
use Rattle.status.specs.Answer.{Word, Said, Left, ◌saying◌, stores}
use Rattle.status.proofs.OpenedCall.{differ}
use Rattle.status.proofs.Choose.{in_true, in_false, choose}
use Rattle.receiver_steps.specs.DataFrame.{stored_by}
use Rattle.receiver_steps.specs.declared.types.Receiver.{Receiver}
use Rattle.receiver_steps.proofs.Judged.{Misplaced, Placed, Inside, OutOfStep, InStep}
use Rattle.receiver.specs.Marks.{OffsetError, Fails, Passes, Discards, Case, marked, ReceivingPort, Marks}
use Rattle.receiver.proofs.Views.{Arrived, arrived}

module _ (r : Receiver) (offset : ℕ) (cdp : Bool) (n : ℕ) where
  -- ── the conditions ──
  error : Misplaced r offset cdp → OffsetError r offset cdp
  error (Misplaced.under p) = OffsetError.below_base p
  error (Misplaced.beyond p) = OffsetError.not_below_end p
  error (Misplaced.unexpected z p) = OffsetError.not_expected z p
  error (Misplaced.ahead z c p) = OffsetError.above_filled z c p

  placed : Placed r offset cdp → ¬ OffsetError r offset cdp
  placed w (OffsetError.below_base p) = omega (arith, w.low)
  placed w (OffsetError.not_below_end p) = omega (arith, w.high)
  placed w (OffsetError.not_expected z p) = p (w.off z)
  placed w (OffsetError.above_filled z c p) = omega (arith, w.on z c)

  passing : Inside r offset n → ¬ OffsetError r offset cdp → {k : ℕ} → ¬ Fails r offset cdp n k
  passing i e (Fails.offset_error p) = e p
  passing i e (Fails.too_much c p) = omega (arith, i.high)
  passing i e (Fails.no_data c h p) = omega (arith, i.some)

  out_placed : Inside r offset n → OutOfStep r offset cdp → ¬ OffsetError r offset cdp
  out_placed i s (OffsetError.below_base p) = omega (arith, i.low)
  out_placed i s (OffsetError.not_below_end p) = omega (arith, i.high, i.some)
  out_placed i s (OffsetError.not_expected z p) = omega (arith, s.retries)
  out_placed i s (OffsetError.above_filled z c p) = let q = s.plain in differ (cc)

  in_placed : Inside r offset n → InStep r offset cdp → ¬ OffsetError r offset cdp
  in_placed i s (OffsetError.below_base p) = omega (arith, i.low)
  in_placed i s (OffsetError.not_below_end p) = omega (arith, i.high, i.some)
  in_placed i (InStep.off z e) (OffsetError.not_expected y p) = p e
  in_placed i (InStep.pointed z c b) (OffsetError.not_expected y p) = omega arith
  in_placed i (InStep.next z c w e) (OffsetError.not_expected y p) = omega arith
  in_placed i (InStep.off z e) (OffsetError.above_filled y c p) = omega arith
  in_placed i (InStep.pointed z c b) (OffsetError.above_filled y d p) = omega arith
  in_placed i (InStep.next z c w e) (OffsetError.above_filled y d p) = differ (cc)

  in_step : InStep r offset cdp → ¬ Discards r offset cdp
  in_step (InStep.off z e) d = omega (arith, d.retries_on)
  in_step (InStep.pointed z c b) d = let q = d.cdp_zero in differ (cc)
  in_step (InStep.next z c w e) d = go d.why
    where
      go : (r.waiting ≡ true) ⊎ (offset ≢ r.expected) → ⊥
      go (inl v) = differ (cc)
      go (inr o) = o e

  -- at most one number applies
  same : {j k : ℕ} → Fails r offset cdp n j → Fails r offset cdp n k → j ≡ k
  same (Fails.offset_error e) (Fails.offset_error f) = refl
  same (Fails.offset_error e) (Fails.too_much f l) = absurd (f e)
  same (Fails.offset_error e) (Fails.no_data f h z) = absurd (f e)
  same (Fails.too_much e l) (Fails.offset_error f) = absurd (e f)
  same (Fails.too_much e l) (Fails.too_much f m) = refl
  same (Fails.too_much e l) (Fails.no_data f h z) = absurd (omega arith)
  same (Fails.no_data e h z) (Fails.offset_error f) = absurd (e f)
  same (Fails.no_data e h z) (Fails.too_much f l) = absurd (omega arith)
  same (Fails.no_data e h z) (Fails.no_data f g y) = refl

  -- ── each arrival is one of the cases ──
  abbrev failing : ℕ → Left Receiver
  failing k = marked r r.expected r.filled r.waiting true saying Said.failed k 0

  abbrev skipping : Left Receiver
  skipping = marked r r.expected r.filled true r.ended saying Said.word Word.discarded

  data Seen : Left Receiver → Type 0 where
    filled : r.filled ≡ r.end → Seen (r saying Said.word Word.discarded)
    fails : r.filled ≢ r.end → (k : ℕ) → Fails r offset cdp n k → Seen (failing k)
    discards : r.filled ≢ r.end → Passes r offset cdp n → Discards r offset cdp → Seen skipping
    stored : r.filled ≢ r.end → Passes r offset cdp n → ¬ Discards r offset cdp → Seen (stored_by r offset n)

  seen : {x : Left Receiver} → Arrived r offset cdp n x → Seen x
  seen (Arrived.full p) = filled p
  seen (Arrived.misplaced u p) = fails u 20 (Fails.offset_error (error p))
  seen (Arrived.long w p) = fails w.unfilled 21 (Fails.too_much (placed w) p)
  seen (Arrived.empty w p) = fails w.unfilled 22 (Fails.no_data (placed w) (omega (arith, w.high)) p)
  seen (Arrived.skipped i s) = discards i.unfilled (λ k. passing i (out_placed i s)) (record { retries_on = s.retries; cdp_zero = s.plain; why = s.why })
  seen (Arrived.stored i s) = stored i.unfilled (λ k. passing i (in_placed i s)) (in_step s)

  said : {x y : Left Receiver} → x ≡ y → x.says ≡ y.says
  said e = ap (λ (z : Left Receiver). z.says) e

  -- what is stored is neither a failure nor discarded
  puts : (t : Bool) → stores (pick t Said.received Said.stored) ≡ true
  unfolding pick
  puts true = refl
  puts false = refl

  not_put : (a : Said) → stores a ≡ false → (stored_by r offset n).says ≡ a → ⊥
  not_put a z e = false≢true (sym z ∙ ap stores (sym e) ∙ puts _)

  fills : (t : Bool) → pick t Said.received Said.stored ≡ Said.received → t ≡ true
  unfolding pick
  fills true e = refl
  fills false e = differ (cc)

  -- ── what each case says of every field ──
  port : {x : Left Receiver} → Seen x → ReceivingPort r offset cdp n x
  port (filled p) =
      record {
        filled = λ q. refl;
        fails = λ k. (λ q. absurd (q.0 p), λ e. let s = said e in differ (cc));
        discards = λ v. absurd (v p);
        stores = λ v q o. absurd (v p);
        received = (λ q. absurd (q.0 p), λ e. differ (cc));
        stored = λ v q o l. absurd (v p);
        covers = Case.filled p;
      }
  port (fails u k f) =
      record {
        filled = λ q. absurd (u q);
        fails = λ j. (λ q. ap failing (same f q.1), λ e. let s = said e in (u, subst (Fails r offset cdp n) (cc) f));
        discards = λ v. (λ q. absurd (q.0 k f), λ e. let s = said e in differ (cc));
        stores = λ v q o. absurd (q k f);
        received = (λ q. absurd (u q.1), λ e. differ (cc));
        stored = λ v q o l. absurd (q k f);
        covers = Case.fails u k f;
      }
  port (discards u p d) =
      record {
        filled = λ q. absurd (u q);
        fails = λ k. (λ q. absurd (p k q.1), λ e. let s = said e in differ (cc));
        discards = λ v. (λ q. refl, λ e. (p, d));
        stores = λ v q o. absurd (o d);
        received = (λ q. absurd (u q.1), λ e. differ (cc));
        stored = λ v q o l. absurd (o d);
        covers = Case.discards u p d;
      }
  port (stored u p o) =
      record {
        filled = λ q. absurd (u q);
        fails = λ k. (λ q. absurd (p k q.1), λ e. absurd (not_put _ refl (said e)));
        discards = λ v. (λ q. absurd (o q.1), λ e. absurd (not_put _ refl (said e)));
        stores = λ v q d. refl;
        received = (λ q. let f = q.1 in sym (in_true _ _ _ _ (search choose) refl), λ e. (u, eqb-true _ _ (fills _ e)));
        stored = λ v q d l. sym (in_false _ _ _ _ (search choose) refl);
        covers = Case.stores u p o;
      }

pub marks : Marks
marks r offset cdp n m l o = port r offset cdp n (seen r offset cdp n (arrived r offset cdp n m l o))
