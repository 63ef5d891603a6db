-- An XFER_RDY that is handed out: its record, and what the writer makes of it.
use Prim.Native.Nat.{ℕ, ◌≤◌, ◌<◌}
use mathlib.Core.Bool.{Bool, true, false, ◌&&◌, ◌||◌, not}
use mathlib.Core.List.{List}
use mathlib.Core.Path.{◌≡◌, refl, ap, ◌∙◌}
use native.Mathlib.Omega.{arith}
use lib.Dec.{ltb, eqb}
use lib.ListN.{length}
use borrow.Author.Tests.{eqb-true, eqb-false, ltb-true, lt-ltb, eq-eqb, ne_eqb}
use Rattle.std.specs.Prelude.{Result}
use Rattle.status.specs.Pick.{pick}
use Rattle.status.specs.Answer.{Left}
use Rattle.status.specs.Result.{or_refusal}
use Rattle.status.specs.declared.words.Refusal.{Refusal}
use Rattle.status.proofs.OpenedCall.{differ}
use Rattle.status.proofs.Leaves.{picked}
use Rattle.frame.specs.Format.{encode}
use Rattle.frame.specs.Write.{writable, write_answer, answered, put, handing}
use Rattle.frame.specs.XferRdy.{xfer_rdy_bytes}
use Rattle.frame.specs.declared.types.Header.{Header}
use Rattle.frame.proofs.Hands.{handed}
use Rattle.target.specs.Record.{UNANSWERED, AGAIN}
use Rattle.target.specs.Transmit.{due_of, next_burst, burst_of, issued_of, xfer_rdy_header, xfer_rdy_iu, frame_of, hands_of}
use Rattle.target.specs.declared.types.Target.{Target}
use Rattle.target.proofs.Held.{Held}

-- sent again, or the next burst's
pub data Due (x : Target) : Type 0 where
  resend : x.state ≡ AGAIN → Due x
  fresh : (x.state ≡ AGAIN → ⊥) → (x.state ≡ UNANSWERED → ⊥) → x.receiver.filled ≡ x.receiver.end → x.receiver.end < x.receiver.transfer.count → Due x

pub due : (x : Target) → due_of x ≡ true → Due x
unfolding due_of
due x e = go (eqb x.state AGAIN) (eqb x.state UNANSWERED) (eqb x.receiver.filled x.receiver.end) (ltb x.receiver.end x.receiver.transfer.count) refl refl refl refl e
  where
    go : (a b c d : Bool) → eqb x.state AGAIN ≡ a → eqb x.state UNANSWERED ≡ b → eqb x.receiver.filled x.receiver.end ≡ c → ltb x.receiver.end x.receiver.transfer.count ≡ d → (a || (not b && c && d)) ≡ true → Due x
    go true b c d p q r s e = resend (eqb-true _ _ p)
    go false false true true p q r s e = fresh (eqb-false _ _ p) (eqb-false _ _ q) (eqb-true _ _ r) (ltb-true _ _ s)
    go false true c d p q r s e = differ (cc)
    go false false true false p q r s e = differ (cc)
    go false false false d p q r s e = differ (cc)

-- the burst that it is for
pub resent : (x : Target) → x.state ≡ AGAIN → burst_of x ≡ x
unfolding burst_of pick
resent x e = rw (eq-eqb _ _ e)

pub started : (x : Target) → (x.state ≡ AGAIN → ⊥) → burst_of x ≡ next_burst x
unfolding burst_of pick
started x e = rw (ne_eqb _ _ e)

pub burst_transfer : (x : Target) → (burst_of x).receiver.transfer ≡ x.receiver.transfer
unfolding burst_of
burst_transfer x = picked (λ (y : Target). y.receiver.transfer ≡ x.receiver.transfer) _ _ _ refl refl

module _ (x : Target) (h : Held x) where
  pub issued_order : ((issued_of x).receiver.base ≤ (issued_of x).receiver.end) × ((issued_of x).receiver.end ≤ x.receiver.transfer.count)
  unfolding issued_of burst_of
  issued_order = let m = h.marks in let e = h.end_most in picked (λ (y : Target). (y.receiver.base ≤ y.receiver.end) × (y.receiver.end ≤ x.receiver.transfer.count)) (eqb x.state AGAIN) x (next_burst x) (omega arith) (omega arith)

  -- no empty burst is handed out
  pub issued_some : due_of x ≡ true → (issued_of x).receiver.base < (issued_of x).receiver.end
  unfolding issued_of
  issued_some d = go (due x d)
    where
      go : Due x → (burst_of x).receiver.base < (burst_of x).receiver.end
      go (Due.resend e) = rw (resent x e) (h.some (λ z. omega arith))
      go (Due.fresh a u f l) = let t = h.marks.limits in rw (started x a) (omega arith)

  -- the header can be written
  pub can_write : writable (xfer_rdy_header (issued_of x) (eqb x.state AGAIN)) 12 ≡ true
  unfolding xfer_rdy_header issued_of
  can_write = let l = h.marks.limits in simp (burst_transfer x, lt-ltb _ _ l.remote, lt-ltb _ _ l.local)

pub iu_length_lem : (y : Target) → length (xfer_rdy_iu y) ≡ 12
unfolding xfer_rdy_iu xfer_rdy_bytes
iu_length_lem y = refl

module _ (x : Target) (h : Held x) where
  writes : writable (xfer_rdy_header (issued_of x) (eqb x.state AGAIN)) (length (xfer_rdy_iu (issued_of x))) ≡ true
  writes = ap (writable (xfer_rdy_header (issued_of x) (eqb x.state AGAIN))) (iu_length_lem (issued_of x)) ∙ can_write x h

  -- the port's answer z where the writer answers w, for the record y that hands the XFER_RDY out
  pub written : (out : List ℕ) {y : Target} {z : Left Target} {g : Header} {j left : List ℕ} {o w : Result ℕ Refusal} → y ≡ issued_of x → o ≡ w → z ≡ answered x y (or_refusal w) → g ≡ xfer_rdy_header y (eqb x.state AGAIN) → j ≡ xfer_rdy_iu y → (or_refusal o ≡ write_answer g j out) × (left ≡ put (write_answer g j out) (encode g j) out) → (z ≡ hands_of x out) × (left ≡ handing (hands_of x out).says (frame_of x) out)
  unfolding frame_of
  written out p q ez eg ej =
      handed x (issued_of x) (xfer_rdy_header (issued_of x) (eqb x.state AGAIN)) (xfer_rdy_iu (issued_of x)) out writes (rw (p, ← q) at ez) (rw p at eg) (rw p at ej)
