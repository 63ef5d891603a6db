-- The report is the only one (`once`), and before it the port goes on (`goes_on`).
use Prim.Native.Nat.{ℕ, ◌+◌, ◌≤◌, ◌<◌}
use mathlib.Core.List.{List}
use mathlib.Core.Bool.{Bool, true, false}
use mathlib.Core.Logic.{◌⊎◌, inl, inr}
use mathlib.Core.Path.{◌≡◌, refl, sym, ap, ◌∙◌}
use native.Mathlib.Omega.{arith}
use lib.Dec.{leb}
use lib.ListN.{length}
use borrow.Author.Tests.{lt-leb, ne_eqb}
use Rattle.status.specs.Pick.{pick}
use Rattle.status.specs.Answer.{Said, view, Left, ◌saying◌}
use Rattle.status.proofs.OpenedCall.{open_entry}
use Rattle.frame.specs.Format.{fill_of}
use Rattle.frame.specs.Write.{hands}
use Rattle.frame.proofs.Writer.{encode_length}
use Rattle.sender_steps.specs.Record.{lent_of}
use Rattle.sender_steps.specs.Transmit.{waits_of, frame_of, sent_of, data_header, part_of}
use Rattle.sender_steps.specs.declared.types.Sender.{Sender}
use Rattle.sender_steps.proofs.Held.{held, lent_holds}
use Rattle.sender_steps.proofs.Due.{part_length}
use Rattle.sender.proofs.Next.{next_due}
use Rattle.sender.proofs.Views.{ack_4, nak_4, timeout_4, cut_0}
use Rattle.sender.proofs.Ended.{ack_ended, nak_ended, timeout_ended, cut_ended}
use Rattle.link.specs.Ports.{Signal, Ports}
use Rattle.link.specs.Calls.{signalled}
use Rattle.link.specs.World.{World}
use Rattle.link.proofs.Setting.{Setting}
use Rattle.link.proofs.Simulates.{Simulates}
use Rattle.link.proofs.Quiet.{Quiet}
use Rattle.link.proofs.Invariant.{Live, Done}
use Rattle.link.proofs.Asking as live-asking

not-true : (b : Bool) → (b ≡ true → ⊥) → b ≡ false
not-true true f = absurd (f refl)
not-true false f = refl

module _ {P : Ports} (S : Setting) (M : Simulates P S.tptt) (w : World P) where
  -- ── after the report ──
  module _ (d : Done S M w) where
    open d use {s, sends, s_holds, rests}

    told : (g : Signal) → (g ≡ Signal.loss → ⊥) → (s.ended ≡ true) ⊎ ((s.ended ≡ false) × (s.unanswered ≡ 0) × (s.next ≡ s.burst.end)) → Quiet (signalled g s).says
    told Signal.ack f (inl e) = rw (ack_ended s e).1 refl
    told Signal.ack f (inr e) = rw (ack_4 s s_holds e.0 e.1) refl
    told Signal.nak f (inl e) = rw (nak_ended s e).1 refl
    told Signal.nak f (inr e) = rw (nak_4 s s_holds e.0 e.1) refl
    told Signal.timeout f (inl e) = rw (timeout_ended s e).1 refl
    told Signal.timeout f (inr e) = rw (timeout_4 s s_holds e.0 e.1) refl
    told Signal.cut f (inl e) = rw (cut_ended s e).1 refl
    told Signal.cut f (inr e) = rw (cut_0 s s_holds e.0 e.1) refl
    told Signal.loss f e = absurd (f refl)

    pub signals_once : (g : Signal) → (g ≡ Signal.loss → ⊥) → Quiet (P.signal g w.sending).says
    signals_once g f = ap (λ (a : Said). (view a).report) (M.signals_as g w.sending s sends s_holds).1 ∙ told g f rests

  -- ── before it ──
  module _ (l : Live S M w) (zero : w.tally.unanswered ≡ 0) where
    open l use {s, sends, ported, linked, pending}

    none_owed : s.unanswered ≡ 0
    none_owed = sym linked.same ∙ zero

    no_wait : waits_of s ≡ false
    unfolding waits_of
    no_wait =
        rw (not-true s.nak (λ h. omega (arith, none_owed, pending.nak_owed h)), lt-leb s.transfer.window s.unanswered (omega (arith, none_owed, (held s ported.s_holds).limits.window_least)), ne_eqb s.next s.burst.end (λ h. pending.undone none_owed (h ∙ ported.send_for.end))) refl

    said : (n : ℕ) (out : List ℕ) → (pick (leb n (length out)) (sent_of s saying Said.frame n) (s saying Said.refused 3)).says ≡ pick (leb n (length out)) (Said.frame n) (Said.refused 3)
    unfolding pick
    said n out = go (leb n (length out))
      where
        go : (t : Bool) → (pick t (sent_of s saying Said.frame n) (s saying Said.refused 3)).says ≡ pick t (Said.frame n) (Said.refused 3)
        go true = refl
        go false = refl

    lent : lent_of s (length w.sent) ≡ true
    lent = live-asking.lent S M w l

    pub due : (out : List ℕ) → (P.ask w.sending w.sent out).says ≡ pick (leb (length (frame_of s w.sent)) (length out)) (Said.frame (length (frame_of s w.sent))) (Said.refused 3)
    unfolding hands
    due out = (M.asks_as w.sending s w.sent out sends lent).1 ∙ ap (λ (x : Left Sender). x.says) (next_due s w.sent out (open_entry _ _ lent ported.s_open) no_wait) ∙ said (length (frame_of s w.sent)) out

    pub long : (24 < length (frame_of s w.sent)) × (length (frame_of s w.sent) ≤ 1_048)
    unfolding frame_of
    long =
        let h = held s ported.s_holds in
        let e = encode_length (data_header s) (part_of s w.sent) in
        let p = part_length s w.sent h (lent_holds s _ lent).1 in
        let n : s.next < s.burst.end = below h.marks.next_most (λ q. pending.undone none_owed (q ∙ ported.send_for.end)) in
        let a = h.limits.size_least in
        let b = h.limits.size_most in
        bounds (length (part_of s w.sent)) (omega (arith, p, n, a)) (omega (arith, p, b)) e
      where
        below : {i j : ℕ} → i ≤ j → (i ≡ j → ⊥) → i < j
        below {i} {j} h f = omega (arith, f)

        bounds : {m : ℕ} (k : ℕ) → 0 < k → k ≤ 1_024 → m ≡ 24 + k + fill_of k → (24 < m) × (m ≤ 1_048)
        bounds k lo hi e = (omega (arith, e), omega (arith, e))
