-- The delivery claim for any pair of ports that simulate the two cores: the invariant is kept by every allowed event, and gives the claim.
use Prim.Native.Nat.{ℕ, ◌+◌, ◌-◌, ◌≤◌, ◌<◌}
use mathlib.Core.List.{List, [], ◌∷◌}
use mathlib.Core.Logic.{◌⊎◌, inl, inr, ⊎_elim}
use mathlib.Core.Path.{◌≡◌, refl, sym, ap, ap₂, subst, ◌∙◌}
use native.Mathlib.Omega.{arith}
use lib.ListN.{length, get_or}
use Rattle.sender_steps.specs.Transmit.{frame_of}
use Rattle.sender_steps.specs.declared.types.Sender.{Sender}
use Rattle.sender_steps.proofs.Held.{held}
use Rattle.sender.proofs.Views.{Asked, asked}
use Rattle.receiver_steps.proofs.Held as receiver
use Rattle.status.specs.Answer.{Word, Said, Left}
use Rattle.status.proofs.OpenedCall.{differ}
use Rattle.link.specs.Ports.{Ports}
use Rattle.link.specs.World.{World, Report, Event, step, run, Allows, Allowed}
use Rattle.link.specs.Delivers.{BurstParameters, Concluded, Delivered, LinkFailed, Delivers}
use Rattle.link.proofs.Setting.{Setting}
use Rattle.link.proofs.Simulates.{Simulates}
use Rattle.link.proofs.Others.{idle_same}
use Rattle.link.proofs.Late.{late_keeps}
use Rattle.link.proofs.Passing.{passing_keeps}
use Rattle.link.proofs.Invariant.{Live, Done, Reported, Inv}
use Rattle.link.proofs.Numbers.{j_most, within_bound}
use Rattle.link.proofs.Asking as live-asking
use Rattle.link.proofs.Arriving as live-arriving
use Rattle.link.proofs.Answering as live-answering
use Rattle.link.proofs.Closing as live-closing
use Rattle.link.proofs.Resting as done
use Rattle.link.proofs.Onward as onward

module _ {P : Ports} (S : Setting) (M : Simulates P S.tptt) where
  -- ── every allowed event keeps the invariant ──
  step_keeps : (w : World P) (e : Event P) → Inv S M w → Allows w e → Inv S M (step w e)
  step_keeps w (Event.ask out) (inl l) a = live-asking.asking S M w l out
  step_keeps w (Event.ask out) (inr d) a = done.asking S M w d out
  step_keeps w Event.arrives (inl l) a = live-arriving.arriving S M w l
  step_keeps w Event.arrives (inr d) a = done.arriving S M w d
  step_keeps w Event.damaged (inl l) a = live-arriving.damaging S M w l
  step_keeps w Event.damaged (inr d) a = done.damaging S M w d
  step_keeps w Event.frame_lost (inl l) a = live-arriving.losing S M w l
  step_keeps w Event.frame_lost (inr d) a = done.losing S M w d
  step_keeps w Event.confirmed (inl l) a = live-answering.answering S M w l
  step_keeps w Event.confirmed (inr d) a = done.answering S M w d
  step_keeps w Event.confirmation_lost (inl l) a = live-answering.missing_answer S M w l
  step_keeps w Event.confirmation_lost (inr d) a = done.missing_answer S M w d
  step_keeps w Event.timeout (inl l) a = live-closing.timing_out S M w l
  step_keeps w Event.timeout (inr d) a = done.timing_out S M w d
  step_keeps w Event.cut (inl l) a = live-closing.cutting S M w l
  step_keeps w Event.cut (inr d) a = done.cutting S M w d
  step_keeps w (Event.other k) i (inl a) = subst (Inv S M) (sym (idle_same M.steady w k a)) i
  step_keeps w (Event.other k) (inl l) (inr (inl a)) = absurd (a.0 l.silent)
  step_keeps w (Event.other k) (inr d) (inr (inl a)) = late_keeps S M w d k a.1
  step_keeps w (Event.other k) i (inr (inr a)) = passing_keeps S M w i k a

  pub run_keeps : (w : World P) (es : List (Event P)) → Inv S M w → Allowed w es → Inv S M (run w es)
  run_keeps w [] i a = i
  run_keeps w (e ∷ es) i a = run_keeps (step w e) es (step_keeps w e i a.0) a.1

  -- ── the invariant gives the claim ──
  abbrev pub burst : BurstParameters
  burst = record { start = S.start; base = S.base; end = S.end; size = S.t.size; limit = S.limit }

  -- while nothing is reported a frame is due whenever none is unanswered
  never_stuck : (w : World P) → Live S M w → Concluded w → ⊥
  never_stuck w l (inl n) = n l.silent
  never_stuck w l (inr (z, (out, e))) =
      let p = l.ported in
      let n = live-asking.lent S M w l in
      let a = M.asks_as w.sending l.s w.sent out l.sends n in
      go (asked l.s w.sent out n p.s_open) (sym a.1 ∙ e)
    where
      zero : l.s.unanswered ≡ 0
      zero = sym l.linked.same ∙ z

      go : {x : Left Sender} → Asked l.s w.sent out x → x.says ≡ Said.word Word.wait → ⊥
      go (Asked.waits (inl h)) q = omega (arith, zero, l.pending.nak_owed h)
      go (Asked.waits (inr (inl h))) q = omega (arith, zero, (held l.s l.ported.s_holds).limits.window_least)
      go (Asked.waits (inr (inr h))) q = l.pending.undone zero (h ∙ l.ported.send_for.end)
      go Asked.short q = differ (cc)
      go (Asked.hands v) q = differ (cc)

  none_told : {A : Type 0} (q : Report) → q ≡ Report.none → (n : ℕ) → q ≡ Report.delivered n → A
  none_told q e n f = differ (cc)

  none_failed : {A : Type 0} (q : Report) → q ≡ Report.none → (f : ℕ) (n : ℕ) → q ≡ Report.failed f n → A
  none_failed q e f n g = differ (cc)

  module _ (start : World P) (from : (start.sent ≡ S.source) × (start.received ≡ S.before)) where
    live_claims : (w : World P) → Live S M w → Delivers burst start w
    live_claims w l =
        let st = l.stored in
        let f = (receiver.held l.r l.ported.r_holds).filled_end in
        let e = l.ported.take_for.end in
        record {
          stored = λ q. none_told w.report l.silent q.0 q.1;
          untouched = (
            λ i. ⊎_elim (λ h. st.rest i (inl h) ∙ ap (λ (b : List ℕ). get_or b i 0) (sym from.1)) (λ h. st.rest i (inr (omega arith)) ∙ ap (λ (b : List ℕ). get_or b i 0) (sym from.1)),
            st.size ∙ ap length (sym from.1),
            st.source ∙ sym from.0,
          );
          bounded = within_bound S l.counted (j_most S l.j l.marked.all_in);
          counted = λ f n. ⊎_elim (λ h. none_told w.report l.silent n h) (λ h. none_failed w.report l.silent f n h);
          concluded = λ h. absurd (never_stuck w l h);
          succeeds = λ h. absurd (never_stuck w l h);
          once = λ q. absurd (q l.silent);
          goes_on = λ q z. let b = onward.long S M w l z in (length (frame_of l.s w.sent), b.0, b.1, onward.due S M w l z);
        }

    -- what was reported says all
    module _ (w : World P) where
      said_right : {q : Report} → Reported S M w.received w.handed w.tally.faults q → (n : ℕ) → q ≡ Report.delivered n → (i : ℕ) → S.base ≤ i → i < S.end → get_or w.received i 0 ≡ get_or S.source (i - S.start) 0
      said_right (Reported.delivers h) n e = h
      said_right (Reported.fails f lo hi p) n e = differ (cc)

      said_count : {q : Report} → Reported S M w.received w.handed w.tally.faults q → (f : ℕ) (n : ℕ) → (q ≡ Report.delivered n) ⊎ (q ≡ Report.failed f n) → n ≡ length w.handed
      said_count (Reported.delivers h) f n (inl e) = cc
      said_count (Reported.delivers h) f n (inr e) = differ (cc)
      said_count (Reported.fails g lo hi p) f n (inl e) = differ (cc)
      said_count (Reported.fails g lo hi p) f n (inr e) = cc

      said_report : {q : Report} → Reported S M w.received w.handed w.tally.faults q → w.report ≡ q → Delivered w ⊎ (LinkFailed w × (S.limit < w.tally.faults))
      said_report (Reported.delivers h) e = inl (length w.handed, e)
      said_report (Reported.fails f lo hi p) e = inr ((f, (length w.handed, e, lo, hi)), p)

    was_told : (w : World P) {q : Report} → Reported S M w.received w.handed w.tally.faults q → q ≡ Report.none → ⊥
    was_told w (Reported.delivers h) e = differ (cc)
    was_told w (Reported.fails f lo hi p) e = differ (cc)

    back : (i : ℕ) → (S.start + i) - S.start ≡ i
    back i = omega arith

    done_claims : (w : World P) → Done S M w → Delivers burst start w
    done_claims w d =
        record {
          stored = λ q i lo hi. said_right w d.reported q.0 q.1 (S.start + i) lo hi ∙ ap₂ (λ (b : List ℕ) (k : ℕ). get_or b k 0) (sym from.0) (back i);
          untouched =
              (λ i h. d.rest i h ∙ ap (λ (b : List ℕ). get_or b i 0) (sym from.1), d.size ∙ ap length (sym from.1), d.source ∙ sym from.0);
          bounded = d.bounded;
          counted = said_count w d.reported;
          concluded = λ h. ⊎_elim (λ a. inl a) (λ a. inr a.0) (said_report w d.reported refl);
          succeeds = λ h few. ⊎_elim (λ a. a) (λ a. absurd (omega (arith, a.1))) (said_report w d.reported refl);
          once = λ q. (M.asks_quiet w.sending, onward.signals_once S M w d);
          goes_on = λ q. absurd (was_told w d.reported q);
        }

    -- from a start that is Live, after every allowed list of events
    pub delivers : Inv S M start → (es : List (Event P)) → Allowed start es → Delivers burst start (run start es)
    delivers i es a = ⊎_elim (live_claims (run start es)) (done_claims (run start es)) (run_keeps start es i a)
