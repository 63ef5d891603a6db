-- In the common case a definition gives this: what the short paths of a write's initiator test, leave and tell is what its definitions say.
use Prim.Native.Nat.{ℕ, ◌+◌, ◌-◌, max}
use mathlib.Core.List.{List, [], ◌∷◌}
use mathlib.Core.Path.{◌≡◌, refl, sym, ap, subst, ◌∙◌}
use mathlib.Core.Bool.{Bool, true, false, not, ◌&&◌}
use native.Mathlib.Omega.{arith}
use lib.Dec.{leb, eqb}
use lib.ListN.{length}
use borrow.Author.Tests.{leb-true, eqb-true, ne_eqb, eq-eqb}
use Rattle.status.specs.Pick.{pick, all, ◌with◌}
use Rattle.status.specs.Entry.{confirmable_of}
use Rattle.status.specs.Answer.{Word, Said, Left, ◌saying◌}
use Rattle.std.specs.Prelude.{Ok}
use Rattle.status.proofs.Choose.{in_true, in_false, each}
use Rattle.status.proofs.OpenedCall.{open_entry, open_confirmable}
use Rattle.frame.specs.Write.{over, handing}
use Rattle.sender_steps.specs.Record as sender
use Rattle.sender_steps.specs.Confirmation.{lowered_of}
use Rattle.sender_steps.specs.Fields.{balance≔, unanswered≔, retries≔, ended≔}
use Rattle.sender_steps.specs.Transmit.{frame_of, sent_of}
use Rattle.sender_steps.specs.declared.types.Sender.{Sender}
use Rattle.sender_steps.proofs.Held as core
use Rattle.sender.specs.Transmit as transmit
use Rattle.sender.proofs.Next.{next_waits}
use Rattle.sender.proofs.Steps.{next_step}
use Rattle.sender.proofs.Views.{Settled, more, retries, moves, delivers, settled}
use Rattle.initiator.specs.Fields.{sender≔, reached≔}
use Rattle.initiator.specs.WriteRecord.{holds_of}
use Rattle.initiator.specs.WriteSend.{held_up, begun_of, reached_of, lifted_of, counted_of, lent_of, ack_of, next_of}
use Rattle.initiator.specs.declared.types.Writer.{Writer}
use Rattle.initiator.proofs.WriteHeld.{Marks, held, holds_again, lent, lent_again}
use Rattle.initiator.proofs.WriteSteps.{ack_counted, ack_lifted, begun_same, served_is}
use Rattle.ssp.specs.CAnswer.{Leaves, answer_with, word}
use Rattle.ssp.specs.ShortSend.{Full, last_told}
use Rattle.ssp.specs.ShortWrite.{WriteOpen, OneOfMany, LastOne, count_left, WriteLent, FullFrame, handed_out, WaitDue}
use Rattle.ssp.specs.declared.types.CAnswer.{CAnswer}
use Rattle.ssp.proofs.Cases.{no, second}
use Rattle.ssp.proofs.FullFrame.{fitting}
use Rattle.ssp.proofs.FrameCases.{hands_full}

-- ── the tests, as the code joins them ──
-- core: the sending record is in order
abbrev hold_tests : Bool → Writer → List Bool
hold_tests core w = core ∷ leb w.sender.next w.reached ∷ leb w.reached w.sender.burst.end ∷ leb w.taken.base w.taken.end ∷ leb w.taken.end w.sender.transfer.count ∷ leb w.taken.limit w.sender.transfer.limit ∷ []

pub holds_well : (w : Writer) {core : Bool} → core ≡ sender.holds_of w.sender → all (hold_tests core w) ≡ true → w.sender.transfer.write ≡ true → holds_of w ≡ true
holds_well w {core} e a t =
    let h = each (hold_tests core w) a in
    let m : Marks w = omega (arith, leb-true) in
    holds_again w (sym e ∙ h.0) t m

pub lent_well : (w : Writer) (n : ℕ) {ok : Bool} → (ok ≡ true → holds_of w ≡ true) → (ok && eqb n w.sender.transfer.count) ≡ true → lent_of w n ≡ true
lent_well w n {ok} h a = let e = each (ok ∷ eqb n w.sender.transfer.count ∷ []) a in lent_again w n (h e.0) (eqb-true _ _ e.1.0)

-- ── an ACK ──
opens : (h : Writer) → (h.sender.unanswered ≡ 0 → ⊥) → WriteOpen h → confirmable_of (holds_of h) h.sender.ended (not (eqb h.sender.unanswered 0)) ≡ (Ok tt)
opens h n o = open_confirmable _ _ _ o.1 o.0 (ap not (ne_eqb _ _ n))

-- frames stay unanswered
pub one_of_many : (h x : Writer) (r : CAnswer) → OneOfMany h → r ≡ word 4 → x ≡ count_left h (h.sender.unanswered - 1) → Leaves (ack_of h) x r
unfolding counted_of
one_of_many h x r q s l = by (held_up h) refl
  where
    entered : confirmable_of (holds_of h) h.sender.ended (not (eqb h.sender.unanswered 0)) ≡ (Ok tt)
    entered = opens h (λ e. omega (arith, q.0)) q.1

    go : (y : Left Sender) → Settled (lowered_of h.sender h.sender.nak) y → Leaves (lifted_of h y) x r
    go _ (more n) = (l, s)
    go _ (retries z n a) = absurd (omega (arith, q.0, z))
    go _ (moves z n e) = absurd (omega (arith, q.0, z))
    go _ (delivers z n e) = absurd (omega (arith, q.0, z))

    by : (t : Bool) → held_up h ≡ t → Leaves (ack_of h) x r
    by true u = subst (λ (y : Left Writer). Leaves y x r) (sym (ack_counted h entered u)) (in_false _ x _ _ (ne_eqb (h.sender.unanswered - 1) 0 (λ e. omega (arith, q.0))) l, s)
    by false u = subst (λ (y : Left Writer). Leaves y x r) (sym (ack_lifted h entered u)) (go _ (settled (lowered_of h.sender h.sender.nak)))

-- no burst is taken
served : (h : Writer) → h.pending ≡ false → held_up h ≡ false
served h p = λ i. p i && not (eqb h.sender.unanswered 0)

same : (h : Writer) {b c u v m n : ℕ} {e f : Bool} → b ≡ c → u ≡ v → m ≡ n → e ≡ f
    → (h with sender≔ (h.sender with balance≔ b with unanswered≔ u with retries≔ m with ended≔ e)) ≡ (h with sender≔ (h.sender with balance≔ c with unanswered≔ v with retries≔ n with ended≔ f))
same h p q r t = λ i. h with sender≔ (h.sender with balance≔ (p i) with unanswered≔ (q i) with retries≔ (r i) with ended≔ (t i))

-- where the test holds it is the first
first : {X : Type 0} {t : Bool} (a b : X) → t ≡ true → pick t a b ≡ a
first {t = t} a b e = sym (in_true t a a b e refl)

-- the last one: a write's balance point and retries stay, and its delivery ends nothing
pub last_one : (h x : Writer) (r : CAnswer) → LastOne h → r ≡ last_told h.sender → x ≡ count_left h 0 → Leaves (ack_of h) x r
unfolding last_told
last_one h x r q s l = subst (λ (y : Left Writer). Leaves y x r) (sym (ack_lifted h entered (served h q.2))) (go _ (settled (lowered_of h.sender h.sender.nak)))
  where
    entered : confirmable_of (holds_of h) h.sender.ended (not (eqb h.sender.unanswered 0)) ≡ (Ok tt)
    entered = opens h (λ e. omega (arith, q.0)) q.3

    write : h.sender.transfer.write ≡ true
    write = (held h q.3.1).write

    balance : h.sender.balance ≡ pick h.sender.transfer.write h.sender.balance h.sender.next
    balance = sym (first _ _ write)

    kept : h.sender.retries ≡ pick h.sender.transfer.write h.sender.retries 0
    kept = sym (first _ _ write)

    go : (y : Left Sender) → Settled (lowered_of h.sender h.sender.nak) y → Leaves (lifted_of h y) x r
    go _ (more n) = absurd (n (omega (arith, q.0)))
    go _ (retries z n a) = no (sym q.1 ∙ n)
    go _ (moves z n e) = (l ∙ same h balance (omega (arith, q.0)) kept refl, s ∙ second _ _ (ne_eqb _ _ e))
    go _ (delivers z n e) = (l ∙ same h balance (omega (arith, q.0)) kept (q.3.0 ∙ sym (ap not write)), s ∙ first _ _ (eq-eqb _ _ e))

-- ── a frame asked for ──
lent_sender : (h : Writer) (n : ℕ) → lent_of h n ≡ true → sender.lent_of h.sender n ≡ true
lent_sender h n l = let e = lent h n l in core.lent_again h.sender n (held h e.0).holds e.1

-- of number 1 what the frame leans on
pub full_of : (h : Writer) (n room : ℕ) → FullFrame h n room → Full h.sender n room
full_of h n room q = (q.1, lent_sender h n q.2.1)

-- the record once the frame is handed out
pub handed_is : (h : Writer) {s : Sender} {m : ℕ} (n room : ℕ) → FullFrame h n room → s ≡ sent_of h.sender → m ≡ max h.reached s.next → (h with sender≔ s with reached≔ m) ≡ handed_out h
unfolding sent_of
handed_is h n room q e p =
    let k = (fitting h.sender n room (full_of h n room q)).whole in
    λ i. h with sender≔ (e i) with reached≔ ((p ∙ ap (λ (s : Sender). max h.reached s.next) e ∙ ap (λ (k : ℕ). max h.reached (h.sender.next + k)) k) i)

module _ (h : Writer) (d w : List ℕ) (x : Writer) (r : CAnswer) (zs : List ℕ) where
  abbrev Gives : Left Writer → Sender → Type 0
  Gives y s = Leaves y x r × (zs ≡ handing y.says (frame_of s d) w)

  -- what the sending port gives
  serves : (y : Left Sender) → WriteLent h (length d) → h.pending ≡ false → transmit.next_of h.sender d w ≡ y → Gives (reached_of h y) h.sender → Gives (next_of h d w) (begun_of h).sender
  serves y o p e g =
      let k : next_of h d w ≡ reached_of h y = served_is h d w o.1 o.0 (served h p) p ∙ ap (reached_of h) (sym (next_step h.sender d w (lent_sender h (length d) o.1) o.0) ∙ e) in
      subst (λ (v : Writer). Gives (next_of h d w) v.sender) (sym (begun_same h d w o.1 o.0 p)) (subst (λ (z : Left Writer). Gives z h.sender) (sym k) g)

  pub full_frame : FullFrame h (length d) (length w) → (r ≡ answer_with 0 3 0 0 (24 + h.sender.transfer.size)) × (zs ≡ over (frame_of h.sender d) w) → x ≡ handed_out h → Leaves (next_of h d w) x r × (zs ≡ handing (next_of h d w).says (frame_of (begun_of h).sender d) w)
  unfolding sent_of
  full_frame q s l =
      let f = full_of h (length d) (length w) q in
      let k = fitting h.sender (length d) (length w) f in
      serves (sent_of h.sender saying Said.frame (24 + h.sender.transfer.size)) q.2 q.0 (hands_full h.sender d w f q.2.0)
      ((l ∙ ap (λ (n : ℕ). h with sender≔ (sent_of h.sender) with reached≔ (max h.reached (h.sender.next + n))) (sym k.whole), s.0), s.1)

  pub waiting : WaitDue h (length d) → (r ≡ word 2) × (zs ≡ w) → x ≡ h → Leaves (next_of h d w) x r × (zs ≡ handing (next_of h d w).says (frame_of (begun_of h).sender d) w)
  waiting q s l =
      let e = lent h (length d) q.2.1 in
      let m : h.reached ≡ max h.reached h.sender.next = omega (arith, (held h e.0).marks.reached_least) in
      serves (h.sender saying Said.word Word.wait) q.2 q.0 (next_waits h.sender d w (open_entry _ _ (lent_sender h (length d) q.2.1) q.2.0) q.1)
      ((l ∙ ap (λ (n : ℕ). h with reached≔ n) m, s.0), s.1)
