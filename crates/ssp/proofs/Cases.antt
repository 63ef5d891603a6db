-- In the common case a definition gives this: what the short paths of a read's target leave and tell is what its definitions say.
use Prim.Native.Nat.{ℕ}
use mathlib.Core.Path.{◌≡◌, refl, sym, ap, subst, ◌∙◌}
use mathlib.Core.Bool.{Bool, true, false, not, false≢true}
use native.Mathlib.Omega.{arith}
use borrow.Author.Tests.{ne_eqb, eq-eqb}
use Rattle.status.specs.Pick.{pick, ◌with◌}
use Rattle.status.specs.Answer.{Said, Left, ◌saying◌}
use Rattle.status.proofs.Choose.{in_true, in_false}
use Rattle.sender_steps.specs.Confirmation.{lowered_of}
use Rattle.sender_steps.specs.Fields.{balance≔, unanswered≔, retries≔, ended≔}
use Rattle.sender.specs.Confirmation.{ack_of}
use Rattle.sender.proofs.Views.{Settled, more, retries, moves, delivers, acked}
use Rattle.sender_steps.specs.declared.types.Sender.{Sender}
use Rattle.target.specs.ReadSend.{read_ack_of}
use Rattle.ssp.specs.CAnswer.{Leaves, word}
use Rattle.ssp.specs.ShortSend.{ReadOpen, OneOfMany, LastOne, last_told, last_left}
use Rattle.ssp.specs.declared.types.CAnswer.{CAnswer}

pub no : {A : Type 0} → false ≡ true → A
no e = absurd (false≢true e)

-- where the test fails it is the second
pub second : {X : Type 0} {t : Bool} (a b : X) → t ≡ false → pick t a b ≡ b
second {t = t} a b e = sym (in_false t b a b e refl)

-- a read's event
reads : (s : Sender) (y : Left Sender) (x : Sender) (r : CAnswer) → ReadOpen s → Leaves y x r → Leaves (pick s.transfer.write (s saying Said.refused 1) y) x r
reads s y x r o l = subst (λ (z : Left Sender). Leaves z x r) (in_false s.transfer.write y _ y o.0 refl) l

-- frames stay unanswered
pub one_of_many : (h x : Sender) (r : CAnswer) → OneOfMany h → r ≡ word 4 → x ≡ lowered_of h h.nak → Leaves (read_ack_of h) x r
one_of_many h x r q s l = reads h (ack_of h) x r q.1 (go (ack_of h) (acked h q.1.2 q.1.1 (λ e. absurd (omega (arith, q.0)))))
  where
    go : (y : Left Sender) → Settled (lowered_of h h.nak) y → Leaves y x r
    go _ (more n) = (l, s)
    go _ (retries z n a) = absurd (omega (arith, q.0, z))
    go _ (moves z n e) = absurd (omega (arith, q.0, z))
    go _ (delivers z n e) = absurd (omega (arith, q.0, z))

same : (h : Sender) {b c u v m n : ℕ} {e f : Bool} → b ≡ c → u ≡ v → m ≡ n → e ≡ f
    → (h with balance≔ b with unanswered≔ u with retries≔ m with ended≔ e) ≡ (h with balance≔ c with unanswered≔ v with retries≔ n with ended≔ f)
same h p q r t = λ i. h with balance≔ (p i) with unanswered≔ (q i) with retries≔ (r i) with ended≔ (t i)

-- the last one: the balance point moves, and at the end the read is delivered
pub last_one : (h x : Sender) (r : CAnswer) → LastOne h → r ≡ last_told h → x ≡ last_left h → Leaves (read_ack_of h) x r
unfolding last_told
last_one h x r q s l = reads h (ack_of h) x r q.2 (go (ack_of h) (acked h q.2.2 q.2.1 (λ e. absurd (omega (arith, q.0)))))
  where
    go : (y : Left Sender) → Settled (lowered_of h h.nak) y → Leaves y x r
    go _ (more n) = absurd (n (omega (arith, q.0)))
    go _ (retries z n a) = no (sym q.1 ∙ n)
    go _ (moves z n e) = (l ∙ same h (sym (second h.balance h.next q.2.0)) (omega (arith, q.0)) (sym (second h.retries 0 q.2.0)) (ne_eqb _ _ e ∙ sym q.2.1), s ∙ second _ _ (ne_eqb _ _ e))
    go _ (delivers z n e) = (l ∙ same h (sym (second h.balance h.next q.2.0)) (omega (arith, q.0)) (sym (second h.retries 0 q.2.0)) (eq-eqb _ _ e ∙ sym (ap not q.2.0)), s ∙ sym (in_true _ _ _ _ (eq-eqb _ _ e) refl))
