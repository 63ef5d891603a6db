-- The first frame arrives whole, damaged or not at all, while nothing is reported.
use Prim.Native.Nat.{ℕ, suc, ◌+◌, ◌-◌, max, ◌≤◌, ◌<◌}
use mathlib.Core.List.{List, [], ◌∷◌, ◌++◌}
use mathlib.Core.Bool.{Bool, true, false, false≢true}
use mathlib.Core.Logic.{◌⊎◌, inl, inr, ⊎_elim}
use mathlib.Core.Path.{◌≡◌, refl, sym, ap, subst, ◌∙◌}
use native.Mathlib.Decide.{dec_lt}
use native.Mathlib.Omega.{arith}
use lib.ListN.{length, get_or, drop, length-append}
use lib.Seq.{get_or-take, get_or-drop}
use Rattle.transfer.specs.declared.Transfer.{Transfer}
use Rattle.frame.specs.Write.{placed}
use Rattle.receiver_steps.specs.Record.{holds_of, lent_of}
use Rattle.status.specs.Answer.{Left}
use Rattle.receiver_steps.specs.DataFrame.{waiting_of, stored_of, storing}
use Rattle.receiver.specs.DataFrame.{arrival_of}
use Rattle.receiver_steps.specs.declared.types.Receiver.{Receiver}
use Rattle.receiver_steps.proofs.Held.{Held, held, lent_again}
use Rattle.receiver_steps.proofs.Buffer.{put_down, placed_length}
use Rattle.receiver.proofs.Kept.{waiting_holds, stored_holds}
use Rattle.receiver.proofs.Views.{Kept, never_fails, reaches}
use Rattle.link.specs.Ports.{Ports}
use Rattle.link.specs.Tally.{Confirmation}
use Rattle.link.specs.World.{World, Event, arrives_whole, arrives_damaged, loses_frame, step}
use Rattle.link.proofs.Grid.{at_next, room_some, room_fits}
use Rattle.link.proofs.Setting.{Setting, Takes, place, within, space, header, data_of, low, begin_least, data_length, in_range, can_write, piece, sized}
use Rattle.link.proofs.Simulates.{Simulates, Addressed}
use Rattle.link.proofs.Flight.{Flight, uncons, ordered, ack_joins, nak_stays, nak_joins}
use Rattle.link.proofs.Placed.{placed_under, placed_in, placed_over}
use Rattle.link.proofs.Invariant.{Stored, Linked, Counted, Standing, InStep, Live, Inv, live}

-- the two orders of two numbers
pub by_lt : (a b : ℕ) → (a < b) ⊎ (b ≤ a)
by_lt a b = go (dec_lt a b)
  where
    go : Dec (a < b) → (a < b) ⊎ (b ≤ a)
    go (yes h) = inl h
    go (no h) = inr (omega arith)

-- a byte of a frame that begins at p, counted from o
from : (o p i : ℕ) → o ≤ p → p ≤ i → (p - o) + (i - p) ≡ i - o
from o p i a b = omega arith

module _ {P : Ports} (S : Setting) (M : Simulates P S.tptt) (w : World P) (l : Live S M w) where
  open l use {s, r, c, k, m, j, R, sends, ported, stored, reached, marked, linked, pending, counted, standing, silent}

  -- the first frame on the way is frame k, the rest follows
  module _ (fs : List (List ℕ)) (x : Flight (piece S) false (suc k) s.cdp j fs) (n : suc (length fs) + length w.confirmations + w.tally.lost ≡ s.unanswered) where
    first_in : within S k
    first_in = marked.all_in k (ordered x)

    -- one frame less, one answer or loss more
    unlinked : (a : List Confirmation) (lost : ℕ) → length a + lost ≡ suc (length w.confirmations + w.tally.lost) → Linked S fs a w.tally.unanswered lost s.unanswered s.cdp false (suc k) m j
    unlinked a lost e =
        let f = linked.from in
        record { flight = x; pointed = λ q. absurd (false≢true q); from = omega arith; conserved = omega arith; same = linked.same }

    -- a fault more
    faulted : Counted S s.frames s.retries w.handed (w.tally.faults + 1) R m j
    faulted =
        let p = counted.paid in
        record { frames_are = counted.frames_are; most = counted.most; since = counted.since; ever = counted.ever; paid = omega arith }

    pub is_damaged : Inv S M (arrives_damaged w (piece S c k ∷ fs))
    is_damaged =
        let p = counted.paid in
        let a = length-append w.confirmations (Confirmation.nak ∷ []) in
        inl
        (live S M s r false (suc k) m j R sends ported stored reached marked (unlinked (w.confirmations ++ (Confirmation.nak ∷ [])) w.tally.lost (omega arith)) pending
        faulted (Standing.dirty (inl (nak_joins w.confirmations)) (omega arith)) silent)

    pub is_lost : Inv S M (loses_frame w (piece S c k ∷ fs))
    is_lost =
        let p = counted.paid in
        inl
        (live S M s r false (suc k) m j R sends ported stored reached marked (unlinked w.confirmations (w.tally.lost + 1) (omega arith)) pending faulted
        (Standing.dirty (inr (inr (omega arith))) (omega arith)) silent)

    -- frame k's data
    iu : List ℕ
    iu = data_of S k

    r_held : Held r
    r_held = held r ported.r_holds

    r_base : r.base ≡ S.base
    r_base = ported.take_for.base

    r_end : r.end ≡ S.end
    r_end = ported.take_for.end

    lent : lent_of r (length w.received) ≡ true
    lent = lent_again r (length w.received) ported.r_holds (rw (ported.take_for.transfer, stored.size) S.long)

    iu_size : length iu ≡ space S k
    unfolding iu
    iu_size = data_length S k first_in

    high : place S k + length iu ≤ S.end
    high = omega (arith, iu_size, room_fits S.base S.end S.t.size (sized S) k first_in)

    kept : Kept r (place S k) c (length iu) (arrival_of r (place S k) c (length iu) (length w.received))
    kept =
        never_fails r (place S k) c (length iu) (length w.received) lent ported.r_open
        (rw ported.take_for.transfer S.u_on)
        (omega (arith, low S k, r_base))
        (omega (arith, high, r_end))
        (omega (arith, iu_size, room_some S.base S.end S.t.size (sized S) k first_in))
        (λ e. rw (linked.pointed e) reached)

    -- a record r' that the frame left, with the buffer b
    Left-by : Receiver → List ℕ → P.Receiving → Type 0
    Left-by r' b y =
        Inv S M
        (record {
          sending = w.sending;
          receiving = y;
          sent = w.sent;
          received = b;
          frames = fs;
          confirmations = w.confirmations ++ (Confirmation.ack ∷ []);
          tally = record { unanswered = w.tally.unanswered; lost = w.tally.lost; faults = w.tally.faults };
          handed = w.handed;
          report = w.report;
        })

    acknowledged : (r' : Receiver) (b : List ℕ) (y : P.Receiving) → M.TakesAs y r' → Takes S r' → holds_of r' ≡ true → r'.ended ≡ false →
        Stored S w.sent b r'.filled → r.filled ≤ r'.filled →
        Standing S (w.confirmations ++ (Confirmation.ack ∷ [])) s.nak w.tally.lost false (suc k) r'.waiting r'.expected r'.filled R w.tally.faults → Left-by r' b y
    unfolding Left-by
    acknowledged r' b y t tf h o st more g =
        let a = length-append w.confirmations (Confirmation.ack ∷ []) in
        let q = reached in
        inl
        (live S M s r' false (suc k) m j R sends
        (record { takes = t; send_for = ported.send_for; take_for = tf; s_holds = ported.s_holds; s_open = ported.s_open; r_holds = h; r_open = o }) st
        (omega arith) marked (unlinked (w.confirmations ++ (Confirmation.ack ∷ [])) w.tally.lost (omega arith)) pending counted g silent)

    -- the answers with the ACK behind them; what is clean is still in step by e
    stands : {waiting : Bool} {expected filled : ℕ} → (InStep S c k r.waiting r.expected r.filled → InStep S false (suc k) waiting expected filled) →
        Standing S (w.confirmations ++ (Confirmation.ack ∷ [])) s.nak w.tally.lost false (suc k) waiting expected filled R w.tally.faults
    stands {waiting} {expected} {filled} e = go standing
      where
        go : Standing S w.confirmations s.nak w.tally.lost c k r.waiting r.expected r.filled R w.tally.faults →
            Standing S (w.confirmations ++ (Confirmation.ack ∷ [])) s.nak w.tally.lost false (suc k) waiting expected filled R w.tally.faults
        go (Standing.clean a n z i) = Standing.clean (ack_joins w.confirmations a) n z (e i)
        go (Standing.dirty (inl a) p) = Standing.dirty (inl (nak_stays w.confirmations Confirmation.ack a)) p
        go (Standing.dirty (inr b) p) = Standing.dirty (inr b) p

    -- the buffer with frame k's data in it
    module _ (reach : place S k ≤ r.filled) where
      b' : List ℕ
      b' = placed w.received (place S k) iu

      fits : place S k + length iu ≤ length w.received
      fits = omega (arith, high, S.reach, stored.size)

      stored_more : Stored S w.sent b' (max r.filled (place S k + length iu))
      unfolding b' iu
      stored_more =
          record {
            source = stored.source;
            size = placed_length w.received (place S k) iu fits ∙ stored.size;
            right = λ i lo hi. right i lo hi (by_lt i (place S k)) (by_lt i (place S k + length iu));
            rest = λ i. ⊎_elim (λ h. under i h) (λ h. beyond i h);
          }
        where
          right : (i : ℕ) → S.base ≤ i → i < max r.filled (place S k + length iu) → (i < place S k) ⊎ (place S k ≤ i) → (i < place S k + length iu) ⊎ (place S k + length iu ≤ i) → get_or b' i 0 ≡ get_or S.source (i - S.start) 0
          right i lo hi (inl p) q = placed_under w.received iu (place S k) fits i p ∙ stored.right i lo (omega arith)
          right i lo hi (inr p) (inl q) =
              let n : i - place S k < space S k = omega (arith, iu_size) in
              placed_in w.received iu (place S k) fits i p q
              ∙ get_or-take (space S k) (drop (place S k - S.start) S.source) (i - place S k) 0 n
              ∙ get_or-drop (place S k - S.start) S.source (i - place S k) 0
              ∙ ap (λ (v : ℕ). get_or S.source v 0) (from S.start (place S k) i (begin_least S k) p)
          right i lo hi (inr p) (inr q) = placed_over w.received iu (place S k) fits i q ∙ stored.right i lo (omega arith)

          under : (i : ℕ) → i < S.base → get_or b' i 0 ≡ get_or S.before i 0
          under i h = placed_under w.received iu (place S k) fits i (omega (arith, low S k)) ∙ stored.rest i (inl h)

          beyond : (i : ℕ) → max r.filled (place S k + length iu) ≤ i → get_or b' i 0 ≡ get_or S.before i 0
          beyond i h = placed_over w.received iu (place S k) fits i (omega arith) ∙ stored.rest i (inr (omega arith))

    whole_keeps : (y : P.Receiving) (b : List ℕ) {z : Left Receiver} → Kept r (place S k) c (length iu) z → M.TakesAs y z.left → b ≡ storing z.says (place S k) iu w.received → Left-by z.left b y
    unfolding b'
    whole_keeps y b (Kept.full e) t q =
        subst (λ (v : List ℕ). Left-by r v y) (sym q)
        (acknowledged r w.received y t ported.take_for ported.r_holds ported.r_open stored (omega arith) (stands (λ i. inl (e ∙ r_end))))
    whole_keeps y b (Kept.skipped inside out) t q =
        subst (λ (v : List ℕ). Left-by (waiting_of r) v y) (sym q)
        (acknowledged (waiting_of r) w.received y t ported.take_for (waiting_holds r ported.r_holds) ported.r_open stored (omega arith)
        (stands (λ i. absurd (never i))))
      where
        never : InStep S c k r.waiting r.expected r.filled → ⊥
        never (inl e) = inside.unfilled (e ∙ sym r_end)
        never (inr (inl e)) = false≢true (sym out.plain ∙ e)
        never (inr (inr e)) = ⊎_elim (λ a. false≢true (sym e.0 ∙ a)) (λ a. a (sym e.1)) out.why
    whole_keeps y b (Kept.stored inside stp) t q =
        let reach : place S k ≤ r.filled = reaches r_held stp in
        let q' : b ≡ b' reach = q ∙ put_down _ (place S k) iu w.received in
        subst (λ (v : List ℕ). Left-by (stored_of r (place S k) (length iu)) v y) (sym q')
        (acknowledged (stored_of r (place S k) (length iu)) (b' reach) y t ported.take_for
        (stored_holds r (place S k) (length iu) ported.r_holds inside.low inside.high) ported.r_open (stored_more reach) (omega arith)
        (stands (λ i. inr (inr (refl, next)))))
      where
        next : place S k + length iu ≡ place S (suc k)
        next = ap (λ (v : ℕ). place S k + v) iu_size ∙ sym (at_next S.base S.end S.t.size (sized S) k first_in)

    addressed : Addressed S.tptt (header S c k) r
    addressed =
        let e = ported.take_for.transfer in
        record {
          frametype = refl;
          dest = S.there ∙ sym (ap (λ (u : Transfer). u.local) e);
          source = S.back ∙ sym (ap (λ (u : Transfer). u.remote) e);
          tag = S.tag ∙ sym (ap (λ (u : Transfer). u.tag) e);
          tptt = refl;
          range = in_range S c k;
        }

    is_whole : Inv S M (arrives_whole w (piece S c k ∷ fs))
    unfolding piece Left-by iu
    is_whole =
        let a = M.arrives_as w.receiving r (header S c k) (data_of S k) w.received ported.takes lent ported.r_open addressed (can_write S c k first_in) in
        whole_keeps _ _ kept a.0 a.1

  -- by the frames on the way
  module _ (E : List (List ℕ) → World P) (same : E [] ≡ w)
      (first : (fs : List (List ℕ)) → Flight (piece S) false (suc k) s.cdp j fs → suc (length fs) + length w.confirmations + w.tally.lost ≡ s.unanswered → Inv S M (E (piece S c k ∷ fs))) where
    by_frames : (fs : List (List ℕ)) → Flight (piece S) c k s.cdp j fs → length fs + length w.confirmations + w.tally.lost ≡ s.unanswered → Inv S M (E fs)
    by_frames [] x n = subst (Inv S M) (sym same) (inl l)
    by_frames (g ∷ fs) x n =
        let u = uncons x in
        subst (λ (v : List ℕ). Inv S M (E (v ∷ fs))) (sym u.0) (first fs u.1 n)

  pub arriving : Inv S M (step w Event.arrives)
  arriving = by_frames (arrives_whole w) refl is_whole w.frames linked.flight linked.conserved

  pub damaging : Inv S M (step w Event.damaged)
  damaging = by_frames (arrives_damaged w) refl is_damaged w.frames linked.flight linked.conserved

  pub losing : Inv S M (step w Event.frame_lost)
  losing = by_frames (loses_frame w) refl is_lost w.frames linked.flight linked.conserved
