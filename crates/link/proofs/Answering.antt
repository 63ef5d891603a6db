-- The first answer reaches the sending port or is lost, while nothing is reported.
use Prim.Native.Nat.{ℕ, suc, ◌+◌, ◌-◌, ◌*◌, ◌≤◌, ◌<◌}
use mathlib.Core.List.{List, [], ◌∷◌}
use mathlib.Core.Bool.{Bool, true, false, false≢true, not}
use mathlib.Core.Logic.{◌⊎◌, inl, inr, ⊎_elim}
use mathlib.Core.Path.{◌≡◌, refl, sym, ap, subst, ◌∙◌}
use native.Mathlib.Nat.{mul-le-mul_left, mul-suc}
use native.Mathlib.Omega.{arith}
use lib.ListN.{length}
use Rattle.status.specs.Pick.{pick}
use Rattle.sender_steps.specs.Confirmation.{lowered_of, moved_of, delivered_of}
use Rattle.sender_steps.specs.declared.types.Sender.{Sender}
use Rattle.sender_steps.proofs.Held.{held}
use Rattle.sender.proofs.Kept.{lowered_holds, moved_holds, delivered_holds}
use Rattle.sender.proofs.Views.{Settled, acked, naked}
use Rattle.receiver_steps.proofs.Held as receiver
use Rattle.status.specs.Answer.{Said, Left}
use Rattle.link.specs.Ports.{Signal, Ports}
use Rattle.link.specs.Tally.{Confirmation, confirmation_fault}
use Rattle.link.specs.World.{World, Report, Event, noted, confirms, loses_confirmation, step}
use Rattle.link.proofs.Grid.{at_most, inside_at}
use Rattle.link.proofs.Setting.{Setting, place, within, piece, sized}
use Rattle.link.proofs.Simulates.{Simulates}
use Rattle.link.proofs.Flight.{Flight, landed, AllAck, SomeNak}
use Rattle.link.proofs.Invariant.{Standing, InStep, Ported, Live, Reported, Inv, ported_as, live, done}
use Rattle.link.proofs.Numbers.{j_most, within_bound, retries_most}
use Rattle.link.proofs.Retrying.{emptied, retried_keeps}

-- a list of no length
pub empty : {A : Type 0} (l : List A) → length l ≡ 0 → l ≡ []
empty [] e = refl
empty (x ∷ l) e = absurd (omega arith)

module _ {P : Ports} (S : Setting) (M : Simulates P S.tptt) (w : World P) (l : Live S M w) where
  open l use {s, r, c, k, m, j, R, ported, stored, reached, marked, linked, pending, counted, standing, silent}

  -- an answer less on the way; y is the port's state then and q its report
  abbrev lowered : List Confirmation → P.Sending → Report → World P
  lowered rest y q =
      record {
        sending = y;
        receiving = w.receiving;
        sent = w.sent;
        received = w.received;
        frames = w.frames;
        confirmations = rest;
        tally = record { unanswered = w.tally.unanswered - 1; lost = w.tally.lost; faults = w.tally.faults };
        handed = w.handed;
        report = q;
      }

  module _ (rest : List Confirmation) (nak : Bool) (n : length w.frames + length rest + w.tally.lost ≡ s.unanswered - 1) (some : 0 < s.unanswered)
      (st : Standing S rest nak w.tally.lost c k r.waiting r.expected r.filled R w.tally.faults) (y : P.Sending) where
    ported' : Ported S M w.receiving (lowered_of s nak) r
    ported' =
        ported_as S M ported ported.send_for (lowered_holds s (held s ported.s_holds) nak) ported.s_open

    -- at zero the link is empty
    module _ (z : s.unanswered - 1 ≡ 0) where
      no_frames : w.frames ≡ []
      no_frames = empty w.frames (omega arith)

      no_answers : rest ≡ []
      no_answers = empty rest (omega arith)

      none_lost : w.tally.lost ≡ 0
      none_lost = omega arith

      none_open : w.tally.unanswered - 1 ≡ 0
      none_open = omega (arith, linked.same)

      as_emptied : (q : Report) → emptied w y w.tally.faults q ≡ lowered rest y q
      as_emptied q i =
          record {
            sending = y;
            receiving = w.receiving;
            sent = w.sent;
            received = w.received;
            frames = sym no_frames i;
            confirmations = sym no_answers i;
            tally = record { unanswered = sym none_open i; lost = sym none_lost i; faults = w.tally.faults };
            handed = w.handed;
            report = q;
          }

      -- the frames handed out have all landed
      at_next : (c ≡ false) × (k ≡ j)
      at_next =
          let f = landed (subst (λ (fs : List (List ℕ)). Flight (piece S) c k s.cdp j fs) no_frames linked.flight) in
          (f.0 ∙ (pending.begun some).1, f.1)

      -- with no NAK pending the attempt was clean, and the receiving port has it all
      module _ (quiet : nak ≡ false) where
        in_step : InStep S c k r.waiting r.expected r.filled
        in_step = go st
          where
            go : Standing S rest nak w.tally.lost c k r.waiting r.expected r.filled R w.tally.faults → InStep S c k r.waiting r.expected r.filled
            go (Standing.clean a b d i) = i
            go (Standing.dirty (inl h) p) = absurd (subst SomeNak no_answers h)
            go (Standing.dirty (inr (inl h)) p) = absurd (false≢true (sym quiet ∙ h))
            go (Standing.dirty (inr (inr h)) p) = absurd (omega (arith, none_lost))

        pub all_there : place S j ≤ r.filled
        all_there = go in_step
          where
            go : InStep S c k r.waiting r.expected r.filled → place S j ≤ r.filled
            go (inl e) = omega (arith, at_most S.base S.end S.t.size (sized S) j)
            go (inr (inl e)) = absurd (false≢true (sym at_next.0 ∙ e))
            go (inr (inr e)) =
                let h = receiver.held r ported.r_holds in
                let p : r.expected ≡ place S j = e.1 ∙ ap (place S) at_next.1 in
                omega (arith, h.expected_filled)

        still_clean : Standing S rest nak w.tally.lost c k r.waiting r.expected r.filled R w.tally.faults
        still_clean = Standing.clean (subst AllAck (sym no_answers) tt) quiet none_lost in_step

        -- the balance point is frame m' now
        module _ (unfinished : s.next ≡ s.burst.end → ⊥) (h : M.SendsAs y (moved_of (lowered_of s nak))) where
          moved_live : (m' : ℕ) → (moved_of (lowered_of s nak)).balance ≡ place S m' → within S m' → (s.transfer.write ≡ true → m' ≡ 0) → m' ≤ k → place S m' ≤ r.filled →
              (moved_of (lowered_of s nak)).retries ≤ R → R ≤ S.limit * m' + (moved_of (lowered_of s nak)).retries → Inv S M (lowered rest y w.report)
          moved_live m' at inside write from reach since ever =
              inl
              (live S M (moved_of (lowered_of s nak)) r c k m' j R h
              (ported_as S M ported ported.send_for (moved_holds (lowered_of s nak) (held (lowered_of s nak) ported'.s_holds)) ported.s_open)
              stored reach (record { next_at = marked.next_at; balance_at = at; restart_in = inside; all_in = marked.all_in; from_base = write })
              (record { flight = linked.flight; pointed = λ q. absurd (false≢true (sym at_next.0 ∙ q)); from = from; conserved = n; same = ap (λ (v : ℕ). v - 1) linked.same })
              (record { nak_owed = λ q. absurd (false≢true (sym quiet ∙ q)); begun = λ q. absurd (omega arith); undone = λ q e. unfinished (e ∙ sym ported.send_for.end) })
              (record { frames_are = counted.frames_are; most = counted.most; since = since; ever = ever; paid = counted.paid }) still_clean silent)

          moves : Inv S M (lowered rest y w.report)
          unfolding pick
          moves = go s.transfer.write refl
            where
              go : (t : Bool) → s.transfer.write ≡ t → Inv S M (lowered rest y w.report)
              go true e =
                  let b : (moved_of (lowered_of s nak)).balance ≡ s.balance = ap (λ (v : Bool). pick v s.balance s.next) e in
                  let q : (moved_of (lowered_of s nak)).retries ≡ s.retries = ap (λ (v : Bool). pick v s.retries 0) e in
                  moved_live m (b ∙ marked.balance_at) marked.restart_in marked.from_base linked.from reached (omega (arith, counted.since)) (omega (arith, counted.ever))
              go false e =
                  let b : (moved_of (lowered_of s nak)).balance ≡ s.next = ap (λ (v : Bool). pick v s.balance s.next) e in
                  let q : (moved_of (lowered_of s nak)).retries ≡ 0 = ap (λ (v : Bool). pick v s.retries 0) e in
                  let inside : within S j =
                  inside_at S.base S.end S.t.size (sized S) j (λ v. unfinished (marked.next_at ∙ v ∙ sym ported.send_for.end)) in
                  let more : S.limit * suc m ≤ S.limit * j = mul-le-mul_left S.limit (pending.begun some).0 in
                  let rm = retries_most S s ported.s_holds ported.send_for in
                  moved_live j (b ∙ marked.next_at) inside (λ v. absurd (false≢true (sym e ∙ v))) (omega (arith, at_next.1)) all_there (omega arith)
                  (omega (arith, counted.ever, mul-suc S.limit m))

        delivers : s.next ≡ s.burst.end → M.SendsAs y (delivered_of (lowered_of s nak)) → Inv S M (lowered rest y (Report.delivered s.frames))
        delivers at_end h =
            let to_end : place S j ≡ S.end = sym marked.next_at ∙ at_end ∙ ported.send_for.end in
            let f = (receiver.held r ported.r_holds).filled_end in
            let re = ported.take_for.end in
            inr
            (done S M (delivered_of (lowered_of s nak)) h ported.send_for (delivered_holds (lowered_of s nak) (held (lowered_of s nak) ported'.s_holds))
            (rests s.transfer.write refl) no_frames no_answers none_open stored.source stored.size
            (λ i. ⊎_elim (λ q. stored.rest i (inl q)) (λ q. stored.rest i (inr (omega arith)))) (within_bound S counted (j_most S j marked.all_in))
            (subst (λ (v : ℕ). Reported S M w.received w.handed w.tally.faults (Report.delivered v)) (sym counted.frames_are) (Reported.delivers (λ i lo hi. stored.right i lo (omega (arith, all_there))))))
          where
            rests : (t : Bool) → s.transfer.write ≡ t → (not s.transfer.write ≡ true) ⊎ ((not s.transfer.write ≡ false) × (s.unanswered - 1 ≡ 0) × (s.next ≡ s.burst.end))
            rests true e = inr (ap not e, z, at_end)
            rests false e = inl (ap not e)

    -- some are still unanswered
    more : (s.unanswered - 1 ≡ 0 → ⊥) → M.SendsAs y (lowered_of s nak) → Inv S M (lowered rest y w.report)
    more left h =
        inl
        (live S M (lowered_of s nak) r c k m j R h ported' stored reached marked
        (record { flight = linked.flight; pointed = linked.pointed; from = linked.from; conserved = n; same = ap (λ (v : ℕ). v - 1) linked.same })
        (record { nak_owed = λ q. omega arith; begun = λ q. pending.begun some; undone = λ q. absurd (left q) }) counted st silent)

    -- a retry for a NAK is paid for: the attempt was not clean
    owed : nak ≡ true → R < w.tally.faults
    owed e = go st
      where
        go : Standing S rest nak w.tally.lost c k r.waiting r.expected r.filled R w.tally.faults → R < w.tally.faults
        go (Standing.clean a b d i) = absurd (false≢true (sym b ∙ e))
        go (Standing.dirty h p) = p

    settle_keeps : {z : Left Sender} → Settled (lowered_of s nak) z → M.SendsAs y z.left → Inv S M (lowered rest y (noted z.says w.report))
    settle_keeps (Settled.more left) h = more left h
    settle_keeps (Settled.retries z e {x} v) h =
        subst (Inv S M) (as_emptied z (noted x.says w.report))
        (retried_keeps S M w y w.tally.faults (lowered_of s nak) r m j R ported' stored reached marked counted silent (owed e) (omega arith) _ (omega arith) (omega arith) v h)
    settle_keeps (Settled.moves z q u) h = moves z q u h
    settle_keeps (Settled.delivers z q d) h = rw silent (delivers z q d h)

  unreported : {rest : List Confirmation} (x : Left P.Sending) {t : Said} → x.says ≡ t → Inv S M (lowered rest x.left (noted t w.report)) → Inv S M (lowered rest x.left (noted x.says w.report))
  unreported {rest} x e h = subst (λ (v : Said). Inv S M (lowered rest x.left (noted v w.report))) (sym e) h

  -- how the attempt stands once the first answer is off the way
  pub ack_off : {rest : List Confirmation} → Standing S (Confirmation.ack ∷ rest) s.nak w.tally.lost c k r.waiting r.expected r.filled R w.tally.faults → Standing S rest s.nak w.tally.lost c k r.waiting r.expected r.filled R w.tally.faults
  ack_off (Standing.clean a b d i) = Standing.clean a b d i
  ack_off (Standing.dirty (inl h) p) = Standing.dirty (inl h) p
  ack_off (Standing.dirty (inr h) p) = Standing.dirty (inr h) p

  pub nak_off : {rest : List Confirmation} → Standing S (Confirmation.nak ∷ rest) s.nak w.tally.lost c k r.waiting r.expected r.filled R w.tally.faults → Standing S rest true w.tally.lost c k r.waiting r.expected r.filled R w.tally.faults
  nak_off (Standing.clean a b d i) = absurd a
  nak_off (Standing.dirty h p) = Standing.dirty (inr (inl refl)) p

  -- the first answer reaches the port
  reaching : (a : List Confirmation) → length w.frames + length a + w.tally.lost ≡ s.unanswered → Standing S a s.nak w.tally.lost c k r.waiting r.expected r.filled R w.tally.faults → Inv S M (confirms w a)
  reaching [] n g = inl l
  reaching (Confirmation.ack ∷ rest) n g =
      let a = M.signals_as Signal.ack w.sending s l.sends ported.s_holds in
      unreported (P.signal Signal.ack w.sending) a.1
      (settle_keeps rest s.nak (omega arith) (omega arith) (ack_off g) _ (acked s ported.s_holds ported.s_open (λ e. omega arith)) a.0)
  reaching (Confirmation.nak ∷ rest) n g =
      let a = M.signals_as Signal.nak w.sending s l.sends ported.s_holds in
      unreported (P.signal Signal.nak w.sending) a.1
      (settle_keeps rest true (omega arith) (omega arith) (nak_off g) _ (naked s ported.s_holds ported.s_open (λ e. omega arith)) a.0)

  pub answering : Inv S M (step w Event.confirmed)
  answering = reaching w.confirmations linked.conserved standing

  -- the first answer is lost: a fault, unless its frame was counted when it was damaged
  missing : (a : List Confirmation) → length w.frames + length a + w.tally.lost ≡ s.unanswered → Standing S a s.nak w.tally.lost c k r.waiting r.expected r.filled R w.tally.faults → Inv S M (loses_confirmation w a)
  missing [] n g = inl l
  missing (a ∷ rest) n g =
      inl
      (live S M s r c k m j R l.sends ported stored reached marked
      (record { flight = linked.flight; pointed = linked.pointed; from = linked.from; conserved = omega arith; same = linked.same }) pending
      (record { frames_are = counted.frames_are; most = counted.most; since = counted.since; ever = counted.ever; paid = omega (arith, counted.paid) })
      (Standing.dirty (inr (inr (omega arith))) (charged a g)) silent)
    where
      charged : (b : Confirmation) → Standing S (b ∷ rest) s.nak w.tally.lost c k r.waiting r.expected r.filled R w.tally.faults → R < w.tally.faults + confirmation_fault b
      charged Confirmation.ack v = omega (arith, counted.paid)
      charged Confirmation.nak (Standing.clean q b d i) = absurd q
      charged Confirmation.nak (Standing.dirty h p) = omega arith

  pub missing_answer : Inv S M (step w Event.confirmation_lost)
  missing_answer = missing w.confirmations linked.conserved standing
