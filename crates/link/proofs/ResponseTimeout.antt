-- The Initiator Response Timeout over any list of calls: the laws of specs/ResponseTimeout.antt, from the target's own (its proofs Moved, Within and Timed).
use Prim.Native.Nat.{ℕ}
use mathlib.Core.List.{List, [], ◌∷◌}
use mathlib.Core.Bool.{Bool, true, false≢true}
use mathlib.Core.Path.{◌≡◌, refl, sym, ap, ◌∙◌}
use native.Mathlib.Omega.{arith}
use lib.Dec.{leb, ltb, eqb}
use lib.ListN.{length}
use Rattle.status.specs.Entry.{entry_of}
use Rattle.status.specs.Answer.{Said, Left, ◌saying◌, unless, fails}
use Rattle.status.proofs.Leaves.{picked, unless_gives}
use Rattle.status.proofs.OpenedCall.{differ}
use Rattle.frame.specs.Write.{hands}
use Rattle.transfer.specs.declared.Transfer.{Transfer}
use Rattle.receiver_steps.specs.Record.{lent_of}
use Rattle.receiver_steps.specs.declared.types.Receiver.{Receiver}
use Rattle.receiver.specs.DataFrame.{arrival_of}
use Rattle.receiver.proofs.Views as receiver
use Rattle.target.specs.Record.{UNANSWERED, holds_of}
use Rattle.target.specs.Confirmation.{confirms_of, retry_of}
use Rattle.target.specs.Arrival.{write_arrival_of}
use Rattle.target.specs.Transmit.{due_of, issued_of, frame_of, next_of}
use Rattle.target.specs.Time.{time_of}
use Rattle.target.specs.declared.types.Target.{Target}
use Rattle.target.proofs.Held.{held}
use Rattle.target.proofs.Views.{Came, came}
use Rattle.target.proofs.InSpan.{Span}
use Rattle.target.proofs.Timed.{Timed}
use Rattle.target.proofs.Timed as timed
use Rattle.target.proofs.TimedOnly as timed-only
use Rattle.target.proofs.Moved.{Moved}
use Rattle.target.proofs.Moved as moved
use Rattle.target.proofs.Within.{Within}
use Rattle.target.proofs.Within as within
use Rattle.link.specs.Ports.{Signal}
use Rattle.link.specs.Calls.{target_signalled, TargetCall, target_call}
use Rattle.link.specs.ResponseTimeout.{Clock, stopped, heard, added, ticked, after, clock_of, Expires, FailsExactly, TimeOnly, OutsideStays}

-- the clock runs exactly while the record is in its span, and then their sums agree, where the timeout is on
record Ticks (k : Clock) (on : Type 0) (ended : Bool) (state filled end elapsed : ℕ) : Type 0 where
  span : k.runs ≡ true → Span ended state filled end
  runs : Span ended state filled end → k.runs ≡ true
  sum : k.runs ≡ true → on → k.sum ≡ elapsed

abbrev TicksAt : Type 0 → Clock → Target → Type 0
TicksAt on k y = Ticks k on y.receiver.ended y.state y.receiver.filled y.receiver.end y.elapsed

-- a clock that does not run, at a record outside the span
at_rest : {k : Clock} {on : Type 0} {ended : Bool} {state filled end elapsed : ℕ} → (k.runs ≡ true → ⊥) → (Span ended state filled end → ⊥) → Ticks k on ended state filled end elapsed
at_rest n m = record { span = λ r. absurd (n r); runs = λ s. absurd (m s); sum = λ r. absurd (n r) }

ticks_after : (on : Type 0) (x : Target) (k : Clock) {z : Left Target} → Moved x 0 z → TicksAt on k x → TicksAt on (heard z.says k) z.left
unfolding issued_of
ticks_after on x k (Moved.refused n) i = i
ticks_after on x k Moved.waits i = i
ticks_after on x k Moved.unchanged i = i
ticks_after on x k (Moved.discarded w) i = i
ticks_after on x k (Moved.issued g d n) i = at_rest (λ r. moved.due_outside x d (i.span r)) (λ s. omega (arith, s.ready))
ticks_after on x k (Moved.acknowledged g u) i =
    let h = held x g.holds in
    record { span = λ r. record { going = g.going; ready = refl; unfilled = h.some (λ z. omega arith) }; runs = λ s. refl; sum = λ r o. refl }
ticks_after on x k (Moved.retried g u l) i = at_rest (λ r. omega (arith, (i.span r).ready)) (λ s. omega (arith, s.ready))
ticks_after on x k (Moved.stored s offset n l) i = record { span = λ r. record { going = s.going; ready = s.ready; unfilled = l }; runs = λ v. i.runs s; sum = λ r o. refl }
ticks_after on x k (Moved.received s offset n e) i = at_rest false≢true (λ v. omega (arith, v.unfilled))
ticks_after on x k (Moved.counts b) i = record { span = i.span; runs = i.runs; sum = λ r o. omega (arith, i.sum r o) }
ticks_after on x k (Moved.fails c e t) i = at_rest false≢true (λ v. false≢true (sym v.going ∙ e))

time_ticks : (x : Target) (k : Clock) (ms : ℕ) {z : Left Target} → holds_of x ≡ true → Timed x ms z → TicksAt (x.receiver.transfer.irt ≡ 0 → ⊥) k x → TicksAt (x.receiver.transfer.irt ≡ 0 → ⊥) (added ms (fails z.says) k) z.left
time_ticks x k ms h (Timed.refused n c) i = record { span = i.span; runs = i.runs; sum = λ r o. absurd (c h (i.span r).going) }
time_ticks x k ms h (Timed.outside c) i = record { span = i.span; runs = i.runs; sum = λ r o. absurd (c (i.span r) o) }
time_ticks x k ms h (Timed.expires e) i = at_rest false≢true (λ v. false≢true (sym v.going))
time_ticks x k ms h (Timed.counts b) i = record { span = i.span; runs = i.runs; sum = λ r o. omega (arith, i.sum r o) }

-- record and clock after some calls at a target that was set up with t
record Agrees (t : Transfer) (k : Clock) (y : Target) : Type 0 where
  transfer : y.receiver.transfer ≡ t
  within : Within y
  ticks : TicksAt (y.receiver.transfer.irt ≡ 0 → ⊥) k y

signal_moved : (g : Signal) (y : Target) → Moved y 0 (target_signalled g y)
signal_moved Signal.ack y = moved.ack_moved y 0
signal_moved Signal.nak y = moved.nak_moved y 0
signal_moved Signal.timeout y = moved.timeout_moved y 0
signal_moved Signal.cut y = moved.cut_moved y 0
signal_moved Signal.loss y = moved.loss_moved y 0

call_within : (c : TargetCall) (y : Target) (b : List ℕ) → Within y → Within (target_call c y b).left
call_within (TargetCall.bytes f) y b w = within.arrival_within y w f (length b)
call_within TargetCall.asking y b w = within.next_within y w b
call_within (TargetCall.signals Signal.ack) y b w = within.ack_within y w
call_within (TargetCall.signals Signal.nak) y b w = within.nak_within y w
call_within (TargetCall.signals Signal.timeout) y b w = within.timeout_within y w
call_within (TargetCall.signals Signal.cut) y b w = within.cut_within y w
call_within (TargetCall.signals Signal.loss) y b w = within.loss_within y w
call_within (TargetCall.time ms) y b w = within.time_within y w ms

same : (c : TargetCall) (y : Target) (b : List ℕ) → (target_call c y b).left.receiver.transfer ≡ y.receiver.transfer
same (TargetCall.bytes f) y b = moved.same_transfer y 0 (moved.arrival_moved y 0 f (length b))
same TargetCall.asking y b = moved.same_transfer y 0 (moved.next_moved y 0 b)
same (TargetCall.signals g) y b = moved.same_transfer y 0 (signal_moved g y)
same (TargetCall.time ms) y b = moved.same_transfer y ms (moved.time_moved y ms)

call_ticks : (c : TargetCall) (y : Target) (b : List ℕ) (k : Clock) → holds_of y ≡ true → TicksAt (y.receiver.transfer.irt ≡ 0 → ⊥) k y → let x = target_call c y b in TicksAt (y.receiver.transfer.irt ≡ 0 → ⊥) (ticked c x.says k) x.left
call_ticks (TargetCall.bytes f) y b k h i = ticks_after _ y k (moved.arrival_moved y 0 f (length b)) i
call_ticks TargetCall.asking y b k h i = ticks_after _ y k (moved.next_moved y 0 b) i
call_ticks (TargetCall.signals g) y b k h i = ticks_after _ y k (signal_moved g y) i
call_ticks (TargetCall.time ms) y b k h i = time_ticks y k ms h (timed.timed y ms) i

agrees_after : (t : Transfer) (k : Clock) (y : Target) (cs : List (TargetCall × List ℕ)) → Agrees t k y → Agrees t (clock_of k y cs) (after y cs)
agrees_after t k y [] s = s
agrees_after t k y (c ∷ cs) s =
    let x = target_call c.0 y c.1 in
    let q = same c.0 y c.1 in
    let u = call_ticks c.0 y c.1 k s.within.holds s.ticks in
    agrees_after t (ticked c.0 x.says k) x.left cs
    (record { transfer = q ∙ s.transfer; within = call_within c.0 y c.1 s.within; ticks = record { span = u.span; runs = u.runs; sum = λ r o. u.sum r (λ e. o (ap (λ (v : Transfer). v.irt) q ∙ e)) } })

pub fails_exactly : FailsExactly
fails_exactly t y e cs ms = (fail, expires)
  where
    begins : Agrees t stopped y
    begins =
        let s = (within.set_up t y e).1 in
        record { transfer = ap (λ (v : Target). v.receiver.transfer) s; within = within.start_within t y e; ticks = at_rest false≢true (λ v. omega (arith, ap (λ (v : Target). v.state) s, v.ready)) }

    s : Agrees t (clock_of stopped y cs) (after y cs)
    s = agrees_after t stopped y cs begins

    irt : (after y cs).receiver.transfer.irt ≡ t.irt
    irt = ap (λ (v : Transfer). v.irt) s.transfer

    fail : fails (time_of (after y cs) ms).says ≡ true → Expires t (clock_of stopped y cs) ms
    fail f =
        let r = timed-only.fails_only (after y cs) ms f in
        let u = s.ticks.runs r.span in
        (u, λ o. r.on (irt ∙ o), omega (arith, r.reached, irt, s.ticks.sum u r.on))

    expires : Expires t (clock_of stopped y cs) ms → (time_of (after y cs) ms).says ≡ Said.failed 33 0
    expires x =
        let c = s.ticks in
        let n : ((after y cs).receiver.transfer.irt ≡ 0 → ⊥) = λ o. x.1 (sym irt ∙ o) in
        ap (λ (v : Left Target). v.says) (timed.fails_there (after y cs) ms s.within.holds (record { span = c.span x.0; on = n; reached = omega (arith, x.2, irt, c.sum x.0 n) }))

-- ── no other call answers 33 ──
abbrev Other : {X : Type 0} → Left X → Type 0
Other z = (n : ℕ) → z.says ≡ Said.failed 33 n → ⊥

module _ (y : Target) where
  retry_other : (cause : ℕ) → (cause ≡ 33 → ⊥) → Other (retry_of y cause)
  unfolding retry_of
  retry_other cause f = picked Other (ltb y.retries y.receiver.transfer.limit) _ _ (λ n e. differ (cc)) (λ n e. f (cc))

  answer_other : (x : Left Target) → Other x → Other (unless (confirms_of y) y x)
  answer_other x f = unless_gives Other (confirms_of y) y x (λ k n e. differ (cc)) f

  event_other : (x : Left Target) → Other x → Other (unless (entry_of (holds_of y) y.receiver.ended) y x)
  event_other x f = unless_gives Other (entry_of (holds_of y) y.receiver.ended) y x (λ k n e. differ (cc)) f

  signal_other : (g : Signal) → Other (target_signalled g y)
  signal_other Signal.ack = answer_other _ (λ n e. differ (cc))
  signal_other Signal.nak = answer_other _ (retry_other 28 (λ e. omega arith))
  signal_other Signal.timeout = answer_other _ (retry_other 29 (λ e. omega arith))
  signal_other Signal.cut = event_other _ (picked Other (eqb y.state UNANSWERED) _ _ (retry_other 30 (λ e. omega arith)) (λ n e. differ (cc)))
  signal_other Signal.loss = event_other _ (λ n e. let z : ◌≡◌ {A = ℕ} 31 33 = cc in omega arith)

  next_other : (out : List ℕ) → Other (next_of y out)
  unfolding next_of hands
  next_other out = event_other _ (picked Other (due_of y) _ _ (picked Other (leb (length (frame_of y)) (length out)) (issued_of y saying Said.frame (length (frame_of y))) (y saying Said.refused 3) (λ n e. differ (cc)) (λ n e. differ (cc))) (λ n e. differ (cc)))

  arrival_other : (f : List ℕ) (m : ℕ) → Other (write_arrival_of y f m)
  unfolding arrival_of
  arrival_other f m = go (came y f m)
    where
      judged : {offset : ℕ} {cdp : Bool} {n : ℕ} {z : Left Receiver} → receiver.Arrived y.receiver offset cdp n z → Other z
      judged (receiver.Arrived.full p) n e = differ (cc)
      judged (receiver.Arrived.misplaced o p) n e = let z : ◌≡◌ {A = ℕ} 20 33 = cc in omega arith
      judged (receiver.Arrived.long o p) n e = let z : ◌≡◌ {A = ℕ} 21 33 = cc in omega arith
      judged (receiver.Arrived.empty o p) n e = let z : ◌≡◌ {A = ℕ} 22 33 = cc in omega arith
      judged (receiver.Arrived.skipped i s) n e = differ (cc)
      judged (receiver.Arrived.stored i s) n e = picked (λ (a : Said). a ≡ Said.failed 33 n → ⊥) _ Said.received Said.stored (λ e. differ (cc)) (λ e. differ (cc)) e

      go : {z : Left Target} → Came y m z → Other z
      go (Came.refused k) n e = differ (cc)
      go (Came.early k) n e = differ (cc)
      go (Came.taken t offset cdp k) n e = unless_gives Other (entry_of (lent_of y.receiver m) y.receiver.ended) y.receiver _ (λ k n e. differ (cc)) (judged (receiver.judges y.receiver offset cdp k)) n e

pub time_only : TimeOnly
time_only (TargetCall.time ms) y b n e = (ms, refl)
time_only (TargetCall.bytes f) y b n e = absurd (arrival_other y f (length b) n e)
time_only TargetCall.asking y b n e = absurd (next_other y b n e)
time_only (TargetCall.signals g) y b n e = absurd (signal_other y g n e)

pub outside_stays : OutsideStays
outside_stays x o ms = timed-only.outside_stays x ms o
