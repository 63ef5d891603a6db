-- After the report a nexus loss or a RESPONSE may come, at either end, and a report of time: the port's record may end, and nothing else moves but the sum of milliseconds.
use Prim.Native.Nat.{ℕ}
use mathlib.Core.List.{List}
use mathlib.Core.Bool.{true, false}
use mathlib.Core.Logic.{◌⊎◌, inl, inr, ⊎_elim}
use mathlib.Core.Path.{◌≡◌, refl, sym, ap, subst}
use Rattle.status.specs.Answer.{Said, view, Left}
use Rattle.status.proofs.OpenedCall.{open_entry}
use Rattle.sender_steps.specs.Confirmation.{ended_of}
use Rattle.sender.specs.Confirmation.{loss_of}
use Rattle.sender_steps.specs.declared.types.Sender.{Sender}
use Rattle.sender_steps.proofs.Held.{held}
use Rattle.sender.proofs.Kept.{ended_holds}
use Rattle.sender.proofs.Ended.{loss_ended}
use Rattle.link.specs.Ports.{Signal, Ports}
use Rattle.link.specs.World.{World, Report, Call, first, next, noted, called, Late}
use Rattle.link.proofs.Setting.{Setting}
use Rattle.link.proofs.Simulates.{Simulates}
use Rattle.link.proofs.Invariant.{Done, Reported, Inv, done}

module _ {P : Ports} (S : Setting) (M : Simulates P S.tptt) (w : World P) (d : Done S M w) where
  open d use {s, sends, send_for, s_holds, rests, no_frames, no_answers, none_open, source, size, rest, bounded, reported}

  -- the report was given, so it stays
  first_stays : {q : Report} → Reported S M w.received w.handed w.tally.faults q → (new : Report) → first q new ≡ q
  first_stays (Reported.delivers h) new = refl
  first_stays (Reported.fails f lo hi p) new = refl

  stays : {q : Report} → Reported S M w.received w.handed w.tally.faults q → (a : Said) → noted a q ≡ q
  stays {q} r a = go (view a).report
    where
      go : (new : Report) → next new q ≡ q
      go Report.none = refl
      go (Report.delivered n) = first_stays r (Report.delivered n)
      go (Report.failed f n) = first_stays r (Report.failed f n)

  -- another state of the sending port that stands for s, or for s ended
  sending_moves : (y : P.Sending) (a : Said) → M.SendsAs y s ⊎ M.SendsAs y (ended_of s) → Inv S M (record { sending = y; receiving = w.receiving; sent = w.sent; received = w.received; frames = w.frames; confirmations = w.confirmations; tally = w.tally; handed = w.handed; report = noted a w.report })
  sending_moves y a (inl h) =
      rw (stays reported a)
      (inr
      (done S M s h send_for s_holds rests no_frames no_answers none_open source size rest bounded reported))
  sending_moves y a (inr h) =
      rw (stays reported a)
      (inr
      (done S M (ended_of s) h send_for (ended_holds s (held s s_holds)) (inl refl) no_frames no_answers none_open source size rest bounded reported))

  pub receiving_moves : (y : P.Receiving) (b : List ℕ) → b ≡ w.received → Inv S M (record { sending = w.sending; receiving = y; sent = w.sent; received = b; frames = w.frames; confirmations = w.confirmations; tally = w.tally; handed = w.handed; report = w.report })
  receiving_moves y b e =
      subst (λ (v : List ℕ). Inv S M (record { sending = w.sending; receiving = y; sent = w.sent; received = v; frames = w.frames; confirmations = w.confirmations; tally = w.tally; handed = w.handed; report = w.report })) (sym e)
      (inr
      (done S M s sends send_for s_holds rests no_frames no_answers none_open source size rest bounded reported))

  -- a nexus loss ends the sending record, or finds it ended
  lost : ((loss_of s).left ≡ s) ⊎ ((loss_of s).left ≡ ended_of s)
  lost = go rests
    where
      go : (s.ended ≡ true) ⊎ ((s.ended ≡ false) × (s.unanswered ≡ 0) × (s.next ≡ s.burst.end)) → ((loss_of s).left ≡ s) ⊎ ((loss_of s).left ≡ ended_of s)
      go (inl e) = inl (ap (λ (x : Left Sender). x.left) (loss_ended s e).1)
      go (inr e) = inr (rw (open_entry _ _ s_holds e.0))

  pub late_keeps : (k : Call P) → Late k → Inv S M (called w k)
  late_keeps (Call.asking a b) l = absurd l
  late_keeps (Call.signals Signal.loss) l =
      let a = M.signals_as Signal.loss w.sending s sends s_holds in
      let y = (P.signal Signal.loss w.sending).left in
      sending_moves y (P.signal Signal.loss w.sending).says (⊎_elim (λ e. inl (subst (M.SendsAs y) e a.0)) (λ e. inr (subst (M.SendsAs y) e a.0)) lost)
  late_keeps (Call.signals Signal.ack) l = absurd l
  late_keeps (Call.signals Signal.nak) l = absurd l
  late_keeps (Call.signals Signal.timeout) l = absurd l
  late_keeps (Call.signals Signal.cut) l = absurd l
  late_keeps (Call.at_sender c) l = sending_moves _ (P.send_call c w.sending).says (M.late_sends c l w.sending s sends s_holds)
  late_keeps (Call.at_receiver c) l = receiving_moves _ _ (M.late_receives c l w.receiving w.received)
  late_keeps (Call.at_receiver_in c b) l = receiving_moves _ w.received refl
