-- A timeout or a cut, while nothing is reported.
use Prim.Native.Nat.{ℕ, ◌+◌, ◌≤◌, ◌<◌}
use mathlib.Core.List.{List, []}
use mathlib.Core.Bool.{Bool, true, false}
use mathlib.Core.Logic.{◌⊎◌, inl, inr}
use mathlib.Core.Path.{◌≡◌, refl, sym, ap, subst, ◌∙◌}
use native.Mathlib.Decide.{ℕ_discrete}
use native.Mathlib.Omega.{arith}
use borrow.Author.Tests.{ne_eqb}
use Rattle.status.specs.Pick.{pick}
use Rattle.sender_steps.specs.Confirmation.{cause_of}
use Rattle.sender.specs.Confirmation.{timeout_of, cut_of}
use Rattle.sender_steps.specs.declared.types.Sender.{Sender}
use Rattle.sender.proofs.Views.{Retried, timed_out_lem, cut_off, timeout_4, cut_0}
use Rattle.status.specs.Answer.{Said, Left}
use Rattle.link.specs.Ports.{Signal, Ports}
use Rattle.link.specs.Calls.{signalled}
use Rattle.link.specs.Tally.{cut_fault, timeout_fault}
use Rattle.link.specs.World.{World, Event, noted, closes, step}
use Rattle.link.proofs.Setting.{Setting, piece}
use Rattle.link.proofs.Simulates.{Simulates}
use Rattle.link.proofs.Flight.{Flight, SomeNak}
use Rattle.link.proofs.Invariant.{Standing, InStep, Live, Inv, live}
use Rattle.link.proofs.Answering.{empty}
use Rattle.link.proofs.Retrying.{emptied, retried_keeps}

-- "28, 29 or 30, by the first bad event of the attempt"
cause_within : (s : Sender) (f : ℕ) → 28 ≤ f → f ≤ 30 → (28 ≤ cause_of s f) × (cause_of s f ≤ 30)
unfolding pick
cause_within s f lo hi = go s.nak
  where
    go : (t : Bool) → (28 ≤ pick t 28 f) × (pick t 28 f ≤ 30)
    go true = (omega arith, omega arith)
    go false = (lo, hi)

module _ {P : Ports} (S : Setting) (M : Simulates P S.tptt) (w : World P) (l : Live S M w) where
  open l use {s, r, c, k, m, j, R, ported, stored, reached, marked, linked, pending, counted, standing, silent}

  -- with nothing unanswered the link is empty already, and nothing happens
  module _ (z : s.unanswered ≡ 0) (fault : ℕ) (y : P.Sending) (h : M.SendsAs y s) where
    no_frames : w.frames ≡ []
    no_frames = empty w.frames (omega (arith, linked.conserved))

    no_answers : w.confirmations ≡ []
    no_answers = empty w.confirmations (omega (arith, linked.conserved))

    in_step : Standing S w.confirmations s.nak w.tally.lost c k r.waiting r.expected r.filled R w.tally.faults → (s.nak ≡ false) × InStep S c k r.waiting r.expected r.filled
    in_step (Standing.clean a b d i) = (b, i)
    in_step (Standing.dirty (inl q) p) = absurd (subst SomeNak no_answers q)
    in_step (Standing.dirty (inr (inl q)) p) = absurd (omega (arith, pending.nak_owed q))
    in_step (Standing.dirty (inr (inr q)) p) = absurd (omega (arith, linked.conserved))

    nothing : Inv S M (emptied w y (w.tally.faults + fault) w.report)
    nothing =
        let i = in_step standing in
        inl
        (live S M s r c k m j R h ported stored reached marked
        (record { flight = subst (λ (fs : List (List ℕ)). Flight (piece S) c k s.cdp j fs) no_frames linked.flight; pointed = linked.pointed; from = linked.from; conserved = sym z; same = sym z })
        pending
        (record { frames_are = counted.frames_are; most = counted.most; since = counted.since; ever = counted.ever; paid = omega (arith, counted.paid) })
        (Standing.clean tt i.0 refl i.1) silent)

  -- a retry that an event begins is paid for by that event or by an earlier fault
  charged : (fault : ℕ) → (w.tally.lost ≡ 0 → fault ≡ 1) → R < w.tally.faults + fault
  charged fault e = go standing
    where
      go : Standing S w.confirmations s.nak w.tally.lost c k r.waiting r.expected r.filled R w.tally.faults → R < w.tally.faults + fault
      go (Standing.clean a b d i) = omega (arith, e d, counted.paid)
      go (Standing.dirty q p) = omega arith

  -- the port's state after the signal g, by what the sending core says
  closing : (g : Signal) → (fault : ℕ) (f : ℕ) → (28 ≤ f) × (f ≤ 30) →
      ((s.unanswered ≡ 0) × ((signalled g s).left ≡ s) × (noted (signalled g s).says w.report ≡ w.report)) ⊎ (Retried s f (signalled g s) × (w.tally.lost ≡ 0 → fault ≡ 1)) →
      Inv S M (closes w g fault)
  closing g fault f q v =
      let a = M.signals_as g w.sending s l.sends ported.s_holds in
      let y = (P.signal g w.sending).left in
      subst (λ (t : Said). Inv S M (emptied w y (w.tally.faults + fault) (noted t w.report))) (sym a.1) (go a.0 v)
    where
      go : {y : P.Sending} → M.SendsAs y (signalled g s).left →
          ((s.unanswered ≡ 0) × ((signalled g s).left ≡ s) × (noted (signalled g s).says w.report ≡ w.report)) ⊎ (Retried s f (signalled g s) × (w.tally.lost ≡ 0 → fault ≡ 1)) →
          Inv S M (emptied w y (w.tally.faults + fault) (noted (signalled g s).says w.report))
      go {y} h (inl e) = rw e.2 (nothing e.0 fault y (subst (M.SendsAs y) e.1 h))
      go {y} h (inr e) =
          retried_keeps S M w y (w.tally.faults + fault) s r m j R ported stored reached marked counted silent (charged fault e.1) (omega arith) f q.0 q.1 e.0 h

  cut_charge : (w.tally.unanswered ≡ 0 → ⊥) → cut_fault w.tally ≡ 1
  unfolding cut_fault pick
  cut_charge n = rw (ne_eqb _ _ n) refl

  timeout_charge : (w.tally.unanswered ≡ 0 → ⊥) → w.tally.lost ≡ 0 → timeout_fault w.tally ≡ 1
  unfolding timeout_fault cut_fault pick
  timeout_charge n e = rw e (cut_charge n)

  pub cutting : Inv S M (step w Event.cut)
  cutting = closing Signal.cut (cut_fault w.tally) (cause_of s 30) (cause_within s 30 (omega arith) (omega arith)) (go (ℕ_discrete s.unanswered 0))
    where
      go : Dec (s.unanswered ≡ 0) → ((s.unanswered ≡ 0) × ((cut_of s).left ≡ s) × (noted (cut_of s).says w.report ≡ w.report)) ⊎ (Retried s (cause_of s 30) (cut_of s) × (w.tally.lost ≡ 0 → cut_fault w.tally ≡ 1))
      go (yes z) =
          let e = cut_0 s ported.s_holds ported.s_open z in
          inl (z, ap (λ (x : Left Sender). x.left) e, ap (λ (x : Left Sender). noted x.says w.report) e)
      go (no n) = inr (cut_off s ported.s_holds ported.s_open n, λ e. cut_charge (λ q. n (sym linked.same ∙ q)))

  pub timing_out : Inv S M (step w Event.timeout)
  timing_out = closing Signal.timeout (timeout_fault w.tally) (cause_of s 29) (cause_within s 29 (omega arith) (omega arith)) (go (ℕ_discrete s.unanswered 0))
    where
      go : Dec (s.unanswered ≡ 0) → ((s.unanswered ≡ 0) × ((timeout_of s).left ≡ s) × (noted (timeout_of s).says w.report ≡ w.report)) ⊎ (Retried s (cause_of s 29) (timeout_of s) × (w.tally.lost ≡ 0 → timeout_fault w.tally ≡ 1))
      go (yes z) =
          let e = timeout_4 s ported.s_holds ported.s_open z in
          inl (z, ap (λ (x : Left Sender). x.left) e, ap (λ (x : Left Sender). noted x.says w.report) e)
      go (no n) = inr (timed_out_lem s ported.s_holds ported.s_open n, λ e. timeout_charge (λ q. n (sym linked.same ∙ q)) e)
