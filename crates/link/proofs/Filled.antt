-- When delivery is reported the receiving port's filled mark is the burst's end: only an answer reports it, while the receiving record is still the receiving core's.
use Prim.Native.Nat.{ℕ, ◌+◌, ◌-◌, ◌<◌}
use mathlib.Core.List.{List, [], ◌∷◌}
use mathlib.Core.Bool.{Bool, true}
use mathlib.Core.Logic.{◌⊎◌, inl, inr}
use mathlib.Core.Path.{◌≡◌, refl, sym, ap, subst, ◌∙◌}
use native.Mathlib.Decide.{ℕ_discrete}
use native.Mathlib.Omega.{arith}
use lib.ListN.{length}
use Rattle.status.specs.Answer.{Said, Left}
use Rattle.status.proofs.OpenedCall.{differ}
use Rattle.sender_steps.specs.Confirmation.{lowered_of}
use Rattle.sender.specs.Confirmation.{timeout_of}
use Rattle.sender_steps.specs.declared.types.Sender.{Sender}
use Rattle.sender.proofs.Views.{Settled, Retried, acked, naked, timed_out_lem, timeout_4}
use Rattle.receiver_steps.specs.declared.types.Receiver.{Receiver}
use Rattle.receiver_steps.proofs.Held as receiver
use Rattle.link.specs.Ports.{Signal, Ports}
use Rattle.link.specs.Tally.{Confirmation}
use Rattle.link.specs.World.{World, Report, Event, noted, confirms, step, run, Allowed}
use Rattle.link.proofs.Setting.{Setting, place}
use Rattle.link.proofs.Simulates.{Simulates}
use Rattle.link.proofs.Invariant.{Standing, Live, Reported, Inv}
use Rattle.link.proofs.Answering.{all_there, ack_off, nak_off}
use Rattle.link.proofs.Delivery.{run_keeps}

-- from start, after every allowed list: the event that reports delivery finds the mark at the end
abbrev pub Fills : {P : Ports} → (P.Receiving → ℕ) → ℕ → World P → Type 0
Fills {P} mark end start =
    (es : List (Event P)) → Allowed start es → (run start es).report ≡ Report.none → (n : ℕ) →
    ((step (run start es) Event.confirmed).report ≡ Report.delivered n) ⊎ ((step (run start es) Event.timeout).report ≡ Report.delivered n) → mark (run start es).receiving ≡ end

-- a first report, and it is of delivery
abbrev Delivers : ℕ → Said → Type 0
Delivers n a = noted a Report.none ≡ Report.delivered n

none_told : {A : Type 0} (q : Report) → q ≡ Report.none → (n : ℕ) → q ≡ Report.delivered n → A
none_told q e n f = differ (cc)

retry_delivers_not : {A : Type 0} {s : Sender} {c : ℕ} {z : Left Sender} → Retried s c z → (n : ℕ) → Delivers n z.says → A
retry_delivers_not (Retried.again h) n e = differ (cc)
retry_delivers_not (Retried.spent h) n e = differ (cc)

module _ {P : Ports} (S : Setting) (M : Simulates P S.tptt) (w : World P) (l : Live S M w) where
  open l use {s, r, c, k, m, j, R, ported, marked, linked, standing, silent}

  module _ (rest : List Confirmation) (nak : Bool) (n : length w.frames + length rest + w.tally.lost ≡ s.unanswered - 1) (some : 0 < s.unanswered)
      (st : Standing S rest nak w.tally.lost c k r.waiting r.expected r.filled R w.tally.faults) where
    settled_fills : {z : Left Sender} → Settled (lowered_of s nak) z → (i : ℕ) → Delivers i z.says → r.filled ≡ S.end
    settled_fills (Settled.more left) i e = differ (cc)
    settled_fills (Settled.retries z q v) i e = retry_delivers_not v i e
    settled_fills (Settled.moves z q u) i e = differ (cc)
    settled_fills (Settled.delivers z q d) i e =
        let to_end : place S j ≡ S.end = sym marked.next_at ∙ d ∙ ported.send_for.end in
        let f = (receiver.held r ported.r_holds).filled_end in
        let re = ported.take_for.end in
        let a = all_there S M w l rest nak n some st w.sending z q in
        omega arith

  reaching_fills : (a : List Confirmation) → length w.frames + length a + w.tally.lost ≡ s.unanswered → Standing S a s.nak w.tally.lost c k r.waiting r.expected r.filled R w.tally.faults →
      (i : ℕ) → (confirms w a).report ≡ Report.delivered i → r.filled ≡ S.end
  reaching_fills [] n g i e = none_told w.report silent i e
  reaching_fills (Confirmation.ack ∷ rest) n g i e =
      let a = M.signals_as Signal.ack w.sending s l.sends ported.s_holds in
      settled_fills rest s.nak (omega arith) (omega arith) (ack_off S M w l g) (acked s ported.s_holds ported.s_open (λ z. omega arith)) i
      (subst (Delivers i) a.1 (ap (noted (P.signal Signal.ack w.sending).says) (sym silent) ∙ e))
  reaching_fills (Confirmation.nak ∷ rest) n g i e =
      let a = M.signals_as Signal.nak w.sending s l.sends ported.s_holds in
      settled_fills rest true (omega arith) (omega arith) (nak_off S M w l g) (naked s ported.s_holds ported.s_open (λ z. omega arith)) i
      (subst (Delivers i) a.1 (ap (noted (P.signal Signal.nak w.sending).says) (sym silent) ∙ e))

  answered_fills : (i : ℕ) → (step w Event.confirmed).report ≡ Report.delivered i → r.filled ≡ S.end
  answered_fills = reaching_fills w.confirmations linked.conserved standing

  timeout_delivers_not : {A : Type 0} (i : ℕ) → (step w Event.timeout).report ≡ Report.delivered i → A
  timeout_delivers_not i e = go (ℕ_discrete s.unanswered 0) (subst (Delivers i) a.1 (ap (noted (P.signal Signal.timeout w.sending).says) (sym silent) ∙ e))
    where
      a : M.SendsAs (P.signal Signal.timeout w.sending).left (timeout_of s).left × ((P.signal Signal.timeout w.sending).says ≡ (timeout_of s).says)
      a = M.signals_as Signal.timeout w.sending s l.sends ported.s_holds

      go : {A : Type 0} → Dec (s.unanswered ≡ 0) → Delivers i (timeout_of s).says → A
      go (yes z) q = let f = ap (λ (x : Left Sender). x.says) (timeout_4 s ported.s_holds ported.s_open z) in none_told Report.none refl i (subst (Delivers i) f q)
      go (no n) q = retry_delivers_not (timed_out_lem s ported.s_holds ported.s_open n) i q

reported_not : {A : Type 0} {P : Ports} {S : Setting} {M : Simulates P S.tptt} {received : List ℕ} {handed : List (List ℕ)} {faults : ℕ} {q : Report} → Reported S M received handed faults q → q ≡ Report.none → A
reported_not (Reported.delivers h) e = differ (cc)
reported_not (Reported.fails f lo hi p) e = differ (cc)

-- the mark by which the receiving record stands for the receiving core's
module _ {P : Ports} (S : Setting) (M : Simulates P S.tptt) (mark : P.Receiving → ℕ) (reads : (y : P.Receiving) (r : Receiver) → M.TakesAs y r → mark y ≡ r.filled) (start : World P) (i : Inv S M start) where
  pub fills : Fills mark S.end start
  fills es a silent n = go (run_keeps S M start es i a)
    where
      go : Inv S M (run start es) → ((step (run start es) Event.confirmed).report ≡ Report.delivered n) ⊎ ((step (run start es) Event.timeout).report ≡ Report.delivered n) → mark (run start es).receiving ≡ S.end
      go (inl l) (inl e) = reads _ l.r l.ported.takes ∙ answered_fills S M (run start es) l n e
      go (inl l) (inr e) = timeout_delivers_not S M (run start es) l n e
      go (inr d) e = reported_not d.reported silent
