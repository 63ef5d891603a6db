-- Once the sending port has reported, no event moves anything any more.
use Prim.Native.Nat.{ℕ, ◌+◌}
use mathlib.Core.List.{List, []}
use mathlib.Core.Bool.{true, false}
use mathlib.Core.Logic.{◌⊎◌, inl, inr}
use mathlib.Core.Path.{◌≡◌, refl, sym, ap, subst, ◌∙◌}
use native.Mathlib.Nat.{mul-le-mul_left}
use native.Mathlib.Omega.{arith}
use lib.ListN.{length}
use Rattle.transfer.specs.declared.Transfer.{Transfer}
use Rattle.status.specs.Answer.{Said, Left}
use Rattle.frame.specs.Write.{handing}
use Rattle.sender_steps.specs.Record.{lent_of}
use Rattle.sender_steps.specs.Transmit.{frame_of}
use Rattle.sender.specs.Transmit.{next_of}
use Rattle.sender_steps.specs.declared.types.Sender.{Sender}
use Rattle.sender_steps.proofs.Held.{lent_again}
use Rattle.sender.proofs.Views.{Asked, asked, timeout_4, cut_0}
use Rattle.sender.proofs.Ended.{next_ended, timeout_ended, cut_ended}
use Rattle.link.specs.Ports.{Called, Signal, Ports}
use Rattle.link.specs.Calls.{signalled}
use Rattle.link.specs.Tally.{Confirmation, cut_fault, timeout_fault}
use Rattle.link.specs.World.{World, Report, Event, noted, asks, arrives_whole, arrives_damaged, loses_frame, confirms, loses_confirmation, closes, step}
use Rattle.link.proofs.Setting.{Setting, enough}
use Rattle.link.proofs.Simulates.{Simulates}
use Rattle.link.proofs.Invariant.{Done, Reported, Inv, done}
use Rattle.link.proofs.Asking.{outcome}
use Rattle.link.proofs.Retrying.{emptied}

module _ {P : Ports} (S : Setting) (M : Simulates P S.tptt) (w : World P) (d : Done S M w) where
  open d use {s, sends, send_for, s_holds, rests, no_frames, no_answers, none_open, source, size, rest, bounded, reported}

  -- the same world with another port state that stands for the record, an empty link, and faults that no longer count
  still : (y : P.Sending) (fault : ℕ) → M.SendsAs y s → Inv S M (emptied w y (w.tally.faults + fault) w.report)
  still y fault h =
      inr
      (done S M s h send_for s_holds rests refl refl refl source size rest
      (omega (arith, bounded, mul-le-mul_left {m = 1 + w.tally.faults} {n = 1 + (w.tally.faults + fault)} (enough S) (omega arith))) (more reported))
    where
      more : {q : Report} → Reported S M w.received w.handed w.tally.faults q → Reported S M w.received w.handed (w.tally.faults + fault) q
      more (Reported.delivers h) = Reported.delivers h
      more (Reported.fails f lo hi p) = Reported.fails f lo hi (omega arith)

  -- a call on the sending port that leaves its record and reports nothing new
  same : (y : P.Sending) → M.SendsAs y s → Inv S M (record { sending = y; receiving = w.receiving; sent = w.sent; received = w.received; frames = w.frames; confirmations = w.confirmations; tally = record { unanswered = w.tally.unanswered; lost = w.tally.lost; faults = w.tally.faults }; handed = w.handed; report = w.report })
  same y h =
      inr
      (done S M s h send_for s_holds rests no_frames no_answers none_open source size rest bounded reported)

  lent : lent_of s (length w.sent) ≡ true
  lent = lent_again s (length w.sent) s_holds (ap length source ∙ S.source_length ∙ sym (ap (λ (x : Transfer). x.count) send_for.transfer))

  -- asked for a frame, it refuses or says "wait"
  asked_again : (out : List ℕ) (y : P.Sending) {z : Left Sender} → Asked s w.sent out z → (s.next ≡ s.burst.end) → M.SendsAs y z.left → Inv S M (asks w (record { left = y; says = z.says; lent = handing z.says (frame_of s w.sent) out }))
  asked_again out y (Asked.waits f) e h = same y h
  asked_again out y Asked.short e h = same y h
  asked_again out y (Asked.hands v) e h = absurd (v.next e)

  pub asking : (out : List ℕ) → Inv S M (step w (Event.ask out))
  asking out =
      let x = P.ask w.sending w.sent out in
      let a = M.asks_as w.sending s w.sent out sends lent in
      subst (λ (v : Called P.Sending). Inv S M (asks w v)) (sym (outcome x a.1 a.2)) (go x.left a.0 rests)
    where
      go : (y : P.Sending) → M.SendsAs y (next_of s w.sent out).left → (s.ended ≡ true) ⊎ ((s.ended ≡ false) × (s.unanswered ≡ 0) × (s.next ≡ s.burst.end)) →
          Inv S M (asks w (record { left = y; says = (next_of s w.sent out).says; lent = handing (next_of s w.sent out).says (frame_of s w.sent) out }))
      go y h (inl e) =
          let q = next_ended s e w.sent out in
          rw q.1 (same y (subst (λ (v : Left Sender). M.SendsAs y v.left) q.1 h))
      go y h (inr e) = asked_again out y (asked s w.sent out lent e.0) e.2 h

  -- a timeout or a cut finds nothing unanswered
  closing : (g : Signal) → (fault : ℕ) → ((signalled g s).left ≡ s) × (noted (signalled g s).says w.report ≡ w.report) → Inv S M (closes w g fault)
  closing g fault e =
      let a = M.signals_as g w.sending s sends s_holds in
      let y = (P.signal g w.sending).left in
      let n : noted (P.signal g w.sending).says w.report ≡ w.report = ap (λ (t : Said). noted t w.report) a.1 ∙ e.1 in
      subst (λ (q : Report). Inv S M (emptied w y (w.tally.faults + fault) q)) (sym n) (still y fault (subst (M.SendsAs y) e.0 a.0))

  pub timing_out : Inv S M (step w Event.timeout)
  timing_out = closing Signal.timeout (timeout_fault w.tally) (go rests)
    where
      go : (s.ended ≡ true) ⊎ ((s.ended ≡ false) × (s.unanswered ≡ 0) × (s.next ≡ s.burst.end)) → ((signalled Signal.timeout s).left ≡ s) × (noted (signalled Signal.timeout s).says w.report ≡ w.report)
      go (inl e) = let q = timeout_ended s e in rw q.1 (refl, refl)
      go (inr e) = rw (timeout_4 s s_holds e.0 e.1) (refl, refl)

  pub cutting : Inv S M (step w Event.cut)
  cutting = closing Signal.cut (cut_fault w.tally) (go rests)
    where
      go : (s.ended ≡ true) ⊎ ((s.ended ≡ false) × (s.unanswered ≡ 0) × (s.next ≡ s.burst.end)) → ((signalled Signal.cut s).left ≡ s) × (noted (signalled Signal.cut s).says w.report ≡ w.report)
      go (inl e) = let q = cut_ended s e in rw q.1 (refl, refl)
      go (inr e) = rw (cut_0 s s_holds e.0 e.1) (refl, refl)

  -- nothing is on the way
  no_frame : (E : List (List ℕ) → World P) → E [] ≡ w → Inv S M (E w.frames)
  no_frame E e = rw no_frames (subst (Inv S M) (sym e) (inr d))

  no_answer : (E : List Confirmation → World P) → E [] ≡ w → Inv S M (E w.confirmations)
  no_answer E e = rw no_answers (subst (Inv S M) (sym e) (inr d))

  pub arriving : Inv S M (step w Event.arrives)
  arriving = no_frame (arrives_whole w) refl

  pub damaging : Inv S M (step w Event.damaged)
  damaging = no_frame (arrives_damaged w) refl

  pub losing : Inv S M (step w Event.frame_lost)
  losing = no_frame (loses_frame w) refl

  pub answering : Inv S M (step w Event.confirmed)
  answering = no_answer (confirms w) refl

  pub missing_answer : Inv S M (step w Event.confirmation_lost)
  missing_answer = no_answer (loses_confirmation w) refl
