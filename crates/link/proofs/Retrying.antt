-- A retry begins on an empty link, or the port fails with more faults than its limit.
use Prim.Native.Nat.{ℕ, suc, ◌+◌, ◌*◌, ◌≤◌, ◌<◌}
use mathlib.Core.List.{[]}
use mathlib.Core.Bool.{Bool, true, false, false≢true}
use mathlib.Core.Logic.{inl, inr, ⊎_elim}
use mathlib.Core.Path.{◌≡◌, refl, sym, ap, subst, ◌∙◌}
use native.Mathlib.Nat.{suc-mul, mul-le-mul_left}
use native.Mathlib.Omega.{arith}
use lib.ListN.{length}
use Rattle.status.specs.Pick.{pick}
use Rattle.sender_steps.specs.Confirmation.{restart_of, retried_of, ended_of}
use Rattle.sender_steps.specs.declared.types.Sender.{Sender}
use Rattle.sender_steps.proofs.Held.{held}
use Rattle.sender.proofs.Kept.{retried_holds, ended_holds}
use Rattle.sender.proofs.Views.{Retried}
use Rattle.receiver_steps.specs.declared.types.Receiver.{Receiver}
use Rattle.receiver_steps.proofs.Held as receiver
use Rattle.status.specs.Answer.{Left}
use Rattle.link.specs.Ports.{Ports}
use Rattle.link.specs.World.{World, Report, noted}
use Rattle.link.proofs.Grid.{at_first, at_below, inside_mono}
use Rattle.link.proofs.Setting.{Setting, place, enough, sized}
use Rattle.link.proofs.Simulates.{Simulates}
use Rattle.link.proofs.Flight.{Flight}
use Rattle.link.proofs.Invariant.{Stored, Marked, Counted, Standing, Ported, Reported, Inv, ported_as, live, done}
use Rattle.link.proofs.Numbers.{j_most, within_bound}

-- where a retry goes on: the base of a write is its frame 0
pub restart_at : (S : Setting) (s : Sender) (m j : ℕ) → s.burst.base ≡ S.base → Marked S s.transfer.write s.next s.balance m j → restart_of s ≡ place S m
unfolding pick
restart_at S s m j b k = go s.transfer.write refl
  where
    go : (t : Bool) → s.transfer.write ≡ t → pick t s.burst.base s.balance ≡ place S m
    go true e = b ∙ sym (at_first S.base S.end S.t.size (sized S) (omega (arith, S.some))) ∙ ap (place S) (sym (k.from_base e))
    go false e = k.balance_at

-- the world w with an empty link, its other fields as they were
abbrev pub emptied : {P : Ports} → World P → P.Sending → ℕ → Report → World P
emptied w y faults q =
    record {
      sending = y;
      receiving = w.receiving;
      sent = w.sent;
      received = w.received;
      frames = [];
      confirmations = [];
      tally = record { unanswered = 0; lost = 0; faults = faults };
      handed = w.handed;
      report = q;
    }

-- s is the sending record that begins the retry
module _ {P : Ports} (S : Setting) (M : Simulates P S.tptt) (w : World P) (y : P.Sending) (faults : ℕ) (s : Sender) (r : Receiver) (m j R : ℕ)
    (ported : Ported S M w.receiving s r) (stored : Stored S w.sent w.received r.filled) (reached : place S m ≤ r.filled)
    (marked : Marked S s.transfer.write s.next s.balance m j)
    (counted : Counted S s.frames s.retries w.handed w.tally.faults R m j) (silent : w.report ≡ Report.none)
    (paid : R < faults) (grows : w.tally.faults ≤ faults) where
  retry_keeps : s.retries < s.burst.limit → M.SendsAs y (retried_of s) → Inv S M (emptied w y faults w.report)
  retry_keeps less h =
      let at : restart_of s ≡ place S m = restart_at S s m j ported.send_for.base marked in
      let jm = j_most S j marked.all_in in
      let e = suc-mul R (enough S) in
      let c₁ = counted.most in
      let c₂ = counted.since in
      let c₃ = counted.ever in
      inl
      (live S M (retried_of s) r true m m m (suc R) h
      (ported_as S M ported ported.send_for (retried_holds s (held s ported.s_holds) less) ported.s_open)
      stored reached
      (record { next_at = at; balance_at = at; restart_in = marked.restart_in; all_in = λ i q. inside_mono S.base S.end S.t.size (sized S) i m (omega arith) marked.restart_in; from_base = marked.from_base })
      (record { flight = Flight.none; pointed = λ q. refl; from = omega arith; conserved = refl; same = refl })
      (record { nak_owed = λ q. absurd (false≢true q); begun = λ q. absurd (omega arith); undone = λ q e. omega (arith, at, at_below S.base S.end S.t.size (sized S) m marked.restart_in) })
      (record { frames_are = counted.frames_are; most = omega arith; since = omega arith; ever = omega arith; paid = omega arith })
      (Standing.clean tt refl refl (inr (inl refl))) silent)

  fail_keeps : (f : ℕ) → s.burst.limit ≤ s.retries → 28 ≤ f → f ≤ 30 → M.SendsAs y (ended_of s) → Inv S M (emptied w y faults (Report.failed f s.frames))
  fail_keeps f spent lo hi h =
      let c₂ = counted.since in
      let c₃ = counted.paid in
      let li = ported.send_for.limit in
      let e = receiver.held r ported.r_holds in
      let re = ported.take_for.end in
      inr
      (done S M (ended_of s) h ported.send_for (ended_holds s (held s ported.s_holds)) (inl refl) refl refl refl stored.source stored.size
      (λ i. ⊎_elim (λ q. stored.rest i (inl q)) (λ q. stored.rest i (inr (omega (arith, e.filled_end)))))
      (more (within_bound S counted (j_most S j marked.all_in)))
      (subst (λ (n : ℕ). Reported S M w.received w.handed faults (Report.failed f n)) (sym counted.frames_are) (Reported.fails f lo hi (omega arith))))
    where
      more : length w.handed ≤ enough S * (1 + w.tally.faults) → length w.handed ≤ enough S * (1 + faults)
      more q = omega (arith, mul-le-mul_left {m = 1 + w.tally.faults} {n = 1 + faults} (enough S) (omega arith))

  pub retried_keeps : (f : ℕ) → 28 ≤ f → f ≤ 30 → {z : Left Sender} → Retried s f z → M.SendsAs y z.left → Inv S M (emptied w y faults (noted z.says w.report))
  retried_keeps f lo hi (Retried.again less) h = retry_keeps less h
  retried_keeps f lo hi (Retried.spent spent) h = rw silent (fail_keeps f spent lo hi h)
