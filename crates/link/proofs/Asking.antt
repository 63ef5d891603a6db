-- A frame asked for, while nothing is reported.
use Prim.Native.Nat.{ℕ, suc, ◌+◌, ◌-◌, min, ◌≤◌}
use mathlib.Core.List.{List, [], ◌∷◌, ◌++◌}
use mathlib.Core.Bool.{true, false}
use mathlib.Core.Logic.{inl}
use mathlib.Core.Path.{◌≡◌, refl, sym, ap, subst, ◌∙◌}
use native.Mathlib.Omega.{arith}
use lib.ListN.{length, take, length-append}
use Rattle.frame.specs.Write.{over, handing}
use Rattle.frame.proofs.Hands.{over_front}
use Rattle.transfer.specs.declared.Transfer.{Transfer}
use Rattle.status.specs.Answer.{Said, Left}
use Rattle.sender_steps.specs.Record.{lent_of}
use Rattle.sender_steps.specs.Transmit.{lesser, frame_of, sent_of}
use Rattle.sender.specs.Transmit.{next_of}
use Rattle.sender_steps.specs.declared.types.Sender.{Sender}
use Rattle.sender_steps.proofs.Held.{held, lent_again}
use Rattle.sender_steps.proofs.Due.{Due}
use Rattle.sender.proofs.Kept.{sent_holds}
use Rattle.sender.proofs.Views.{Asked, asked}
use Rattle.link.specs.Ports.{Called, Ports}
use Rattle.link.specs.World.{World, Event, asks, step}
use Rattle.link.proofs.Grid.{inside_at, inside_mono, at_next}
use Rattle.link.proofs.Setting.{Setting, place, within, piece, frame_is, sized}
use Rattle.link.proofs.Simulates.{Simulates}
use Rattle.link.proofs.Flight.{Flight, joins, ordered}
use Rattle.link.proofs.Invariant.{Marked, Ported, Live, Inv, ported_as, live}
use Rattle.link.proofs.Numbers.{few, j_most, retries_most}

-- a call's outcome with its answer and buffer as they are known to be
pub outcome : {X : Type 0} (x : Called X) {t : Said} {b : List ℕ} → x.says ≡ t → x.lent ≡ b → x ≡ record { left = x.left; says = t; lent = b }
outcome x p q i = record { left = x.left; says = p i; lent = q i }

module _ {P : Ports} (S : Setting) (M : Simulates P S.tptt) (w : World P) (l : Live S M w) where
  open l use {s, r, c, k, m, j, R, sends, ported, stored, reached, marked, linked, pending, counted, standing, silent}

  -- the same record, another port state that stands for it
  again : (y : P.Sending) → M.SendsAs y s → Inv S M (record { sending = y; receiving = w.receiving; sent = w.sent; received = w.received; frames = w.frames; confirmations = w.confirmations; tally = record { unanswered = w.tally.unanswered; lost = w.tally.lost; faults = w.tally.faults }; handed = w.handed; report = w.report })
  again y h =
      inl
      (live S M s r c k m j R h ported stored reached marked linked pending counted standing silent)

  -- frame j is handed out
  module _ (d : Due s) (y : P.Sending) (h : M.SendsAs y (sent_of s)) where
    due_in : within S j
    due_in =
        let n = marked.next_at in
        let e = ported.send_for.end in
        inside_at S.base S.end S.t.size (sized S) j (λ q. d.next (n ∙ q ∙ sym e))

    sent_next : (sent_of s).next ≡ place S (suc j)
    unfolding sent_of
    sent_next =
        let f = ported.send_for in
        ap (λ (x : ℕ). x + lesser s) marked.next_at
        ∙ (λ i. place S j + min (f.transfer i).size (f.end i - marked.next_at i))
        ∙ sym (at_next S.base S.end S.t.size (sized S) j due_in)

    sent_ported : Ported S M w.receiving (sent_of s) r
    unfolding sent_of
    sent_ported =
        let p = ported in
        ported_as S M p p.send_for
        (sent_holds s (held s p.s_holds) d (few S counted (retries_most S s p.s_holds p.send_for) marked.restart_in (j_most S j marked.all_in))) p.s_open

    sent_marked : Marked S s.transfer.write (sent_of s).next s.balance m (suc j)
    sent_marked =
        record {
          next_at = sent_next;
          balance_at = marked.balance_at;
          restart_in = marked.restart_in;
          all_in = λ i q. upto i (omega arith);
          from_base = marked.from_base;
        }
      where
        upto : (i : ℕ) → i ≤ j → within S i
        upto i q = inside_mono S.base S.end S.t.size (sized S) i j q due_in

    below_next : m ≤ j
    below_next = let a = ordered linked.flight in let b = linked.from in omega arith

    handed : (out : List ℕ) → Inv S M (asks w (record { left = y; says = Said.frame (length (frame_of s w.sent)); lent = over (frame_of s w.sent) out }))
    unfolding sent_of
    handed out =
        let f = frame_of s w.sent in
        let g = take (length f) (over f out) in
        let e : piece S s.cdp j ≡ g =
        sym (over_front f out ∙ ap (frame_of s) stored.source ∙ frame_is S s j ported.send_for marked.next_at) in
        let fl : Flight (piece S) c k false (suc j) (w.frames ++ (g ∷ [])) =
        subst (λ (x : List ℕ). Flight (piece S) c k false (suc j) (w.frames ++ (x ∷ []))) e (joins linked.flight) in
        let a = length-append w.frames (g ∷ []) in
        let b = length-append w.handed (g ∷ []) in
        let n = linked.conserved in
        let q = linked.same in
        let t = counted.frames_are in
        let v = counted.most in
        let x = below_next in
        inl
        (live S M (sent_of s) r c k m (suc j) R h sent_ported stored reached sent_marked
        (record { flight = fl; pointed = linked.pointed; from = linked.from; conserved = omega arith; same = omega arith })
        (record { nak_owed = λ z. omega arith; begun = λ z. (omega arith, refl); undone = λ z. absurd (omega arith) })
        (record { frames_are = omega arith; most = omega arith; since = counted.since; ever = counted.ever; paid = counted.paid }) standing silent)

  pub ask_keeps : (out : List ℕ) (y : P.Sending) {z : Left Sender} → Asked s w.sent out z → M.SendsAs y z.left → Inv S M (asks w (record { left = y; says = z.says; lent = handing z.says (frame_of s w.sent) out }))
  ask_keeps out y (Asked.waits f) h = again y h
  ask_keeps out y Asked.short h = again y h
  ask_keeps out y (Asked.hands d) h = handed d y h out

  pub lent : lent_of s (length w.sent) ≡ true
  lent =
      lent_again s (length w.sent) ported.s_holds
      (ap length stored.source ∙ S.source_length ∙ sym (ap (λ (x : Transfer). x.count) ported.send_for.transfer))

  pub asking : (out : List ℕ) → Inv S M (step w (Event.ask out))
  asking out =
      let x = P.ask w.sending w.sent out in
      let z = next_of s w.sent out in
      let a = M.asks_as w.sending s w.sent out sends lent in
      subst (λ (v : Called P.Sending). Inv S M (asks w v)) (sym (outcome x a.1 a.2))
      (ask_keeps out x.left (asked s w.sent out lent ported.s_open) a.0)
