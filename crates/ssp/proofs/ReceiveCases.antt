-- In the common case a definition gives this: what the short paths of the receiving ports leave and tell is what their definitions say.
use Prim.Native.Nat.{ℕ, ◌-◌, ◌≤◌, max}
use mathlib.Core.List.{List}
use mathlib.Core.Path.{◌≡◌, refl, sym, ap, ◌∙◌}
use mathlib.Core.Bool.{Bool, true, false, not, ◌&&◌, ◌||◌}
use mathlib.Core.Logic.{◌⊎◌, inl, inr}
use native.Mathlib.Omega.{arith}
use lib.Dec.{eqb}
use lib.ListN.{length, drop}
use borrow.Author.Tests.{eq-eqb}
use Rattle.status.specs.Pick.{pick, ◌with◌}
use Rattle.status.specs.Answer.{Said, ◌saying◌, stores}
use Rattle.status.specs.Result.{Result}
use Rattle.status.proofs.OpenedCall.{open_entry}
use Rattle.transfer.specs.declared.Transfer.{Transfer}
use Rattle.frame.specs.Format.{DATA, field}
use Rattle.frame.specs.Read.{header_in, iu_of, iu_length}
use Rattle.frame.specs.PlainData.{PlainData, plain_header}
use Rattle.frame.specs.Write.{placed}
use Rattle.frame.specs.declared.types.Header.{Header}
use Rattle.std.specs.Prelude.{Some}
use Rattle.arrival.specs.Accept.{class_of, screen_of, screened, accept_of}
use Rattle.arrival.specs.declared.Role.{Role}
use Rattle.arrival.specs.declared.Role.TheVariants.{ReadInitiator}
use Rattle.arrival.specs.declared.Class.{Class}
use Rattle.arrival.specs.declared.Arrived.{Arrived}
use Rattle.receiver_steps.specs.Fields.{expected≔, filled≔, waiting≔}
use Rattle.receiver_steps.specs.Record.{lent_of}
use Rattle.receiver_steps.specs.DataFrame as step
use Rattle.receiver_steps.specs.declared.types.Receiver.{Receiver}
use Rattle.receiver_steps.proofs.Held as marks
use Rattle.receiver_steps.proofs.Judged.{Judged, Misplaced, full, misplaced, long, empty, skipped, stored, under, beyond, unexpected, ahead, judged}
use Rattle.receiver.specs.DataFrame.{arrival_of}
use Rattle.initiator.specs.Read.{read_arrival_of}
use Rattle.initiator.proofs.ReadReturns.{read_lent_again}
use Rattle.ssp.specs.CAnswer.{Leaves, c_answer_of, RECEIVED, STORED, word}
use Rattle.ssp.specs.ShortReceive.{Fits, Next, past_of, stored_told, grown_of, ReadNext}
use Rattle.ssp.specs.declared.types.CAnswer.{CAnswer}
use Rattle.ssp.proofs.Cases.{no}
use Rattle.receiver_steps.specs.DataFrame.{Disposition}

-- the answer of a frame that is stored
abbrev pub stored_said : Receiver → ℕ → Said
stored_said r n = pick (eqb (past_of r n) r.end) Said.received Said.stored

pub told_so : (r : Receiver) (n : ℕ) → stored_told r n ≡ c_answer_of (stored_said r n)
unfolding stored_told pick
told_so r n = go (eqb (past_of r n) r.end)
  where
    go : (t : Bool) → pick t (word RECEIVED) (word STORED) ≡ c_answer_of (pick t Said.received Said.stored)
    go true = refl
    go false = refl

pub stores_so : (t : Bool) → stores (pick t Said.received Said.stored) ≡ true
unfolding pick
stores_so true = refl
stores_so false = refl

-- what a plain DATA frame is taken for
abbrev arrived : Transfer → List ℕ → ℕ → Arrived
arrived t f o = record { class = Class.Data; header = plain_header t.local t.remote t.tag (field f 18 2) o; start = 24; len = iu_length f }

pub accepts : (role : Role) (t : Transfer) (f : List ℕ) (o : ℕ) → class_of role DATA ≡ Some Class.Data → PlainData f t.local t.remote t.tag o → accept_of role t f ≡ Result.value (arrived t f o)
unfolding accept_of screen_of pick
accepts role t f o k p =
    ap (λ (x : Result _). screened x role t) p.read ∙ ap (λ (h : Header). screen_of t (class_of role h.frametype) (record { header = h; start = 24; len = iu_length f })) p.header ∙
    rw (k, eq-eqb t.local t.local refl, eq-eqb t.remote t.remote refl, eq-eqb t.tag t.tag refl) refl

-- the data of f
pub data_length : (f : List ℕ) (d s t o : ℕ) → PlainData f d s t o → iu_length f ≡ length f - 24
data_length f d s t o p = omega (arith, p.fill)

-- it is stored, and expected offset and filled mark become its end
pub is_stored : (r : Receiver) (f : List ℕ) (m : ℕ) → lent_of r m ≡ true → r.ended ≡ false → Fits r (length f) → Next r f → arrival_of r r.expected false (length f - 24) m ≡ (grown_of r (length f) saying stored_said r (length f))
unfolding arrival_of
is_stored r f m l o fit q = rw (open_entry _ _ l o) (go _ (judged r r.expected false (length f - 24)))
  where
    b : r.base ≤ r.expected
    b = (marks.held r (marks.lent r m l).holds).base_expected

    n : 28 ≤ length f
    n = q.0.least

    gone : (r.filled ≡ r.end) → ⊥
    gone e = omega (arith, fit, q.2, n, e)

    top : max r.filled (past_of r (length f)) ≡ past_of r (length f)
    top = omega (arith, q.2)

    astray : {A : Type 0} → Misplaced r r.expected false → A
    astray (under x) = absurd (omega (arith, b, x))
    astray (beyond x) = absurd (omega (arith, fit, n, x))
    astray (unexpected x y) = absurd (y refl)
    astray (ahead x y z) = no y

    go : (d : Disposition) → Judged r r.expected false (length f - 24) d → step.taken_of d r r.expected (length f - 24) ≡ (grown_of r (length f) saying stored_said r (length f))
    go _ (full e) = absurd (gone e)
    go _ (misplaced e x) = astray x
    go _ (long x y) = absurd (omega (arith, fit, n, y))
    go _ (empty x y) = absurd (omega (arith, n, y))
    go _ (skipped x y) = out y.why
      where
        out : {A : Type 0} → (r.waiting ≡ true) ⊎ (r.expected ≡ r.expected → ⊥) → A
        out (inl w) = no (sym q.1 ∙ w)
        out (inr w) = absurd (w refl)
    go _ (stored x y) = λ i. (r with expected≔ (past_of r (length f)) with filled≔ (top i) with waiting≔ (sym q.1 i)) saying pick (eqb (top i) r.end) Said.received Said.stored

-- what a frame that is stored leaves in the buffer
pub buffer_so : (a : Said) (o : ℕ) (f d zs : List ℕ) (h : Header) → stores a ≡ true → header_in f ≡ h → h.offset ≡ o → iu_of f ≡ drop 24 f → zs ≡ placed d o (drop 24 f) → zs ≡ step.storing a (header_in f).offset (iu_of f) d
buffer_so a o f d zs h s e w i z = z ∙ ap (λ (k : ℕ). placed d k (drop 24 f)) (sym w ∙ ap (λ (x : Header). x.offset) (sym e)) ∙ ap (placed d (header_in f).offset) (sym i) ∙ sym (ap (λ (t : Bool). mathlib.Core.Bool.cond t (placed d (header_in f).offset (iu_of f)) d) s)

data_read : class_of ReadInitiator DATA ≡ Some Class.Data
unfolding class_of pick
data_read = refl

read_arrives : (r : Receiver) (f : List ℕ) (m : ℕ) → ReadNext r f m → read_arrival_of r f m ≡ (grown_of r (length f) saying stored_said r (length f))
unfolding read_arrival_of
read_arrives r f m q =
    rw (open_entry _ _ (read_lent_again r m q.4 q.2) q.3, accepts ReadInitiator r.transfer f r.expected data_read q.1.0, data_length f _ _ _ _ q.1.0) (is_stored r f m q.4 q.3 q.0 q.1)

pub read_next : (h x : Receiver) (f d : List ℕ) (r : CAnswer) (zs : List ℕ) → ReadNext h f (length d) → (r ≡ stored_told h (length f)) × (zs ≡ placed d h.expected (drop 24 f)) → x ≡ grown_of h (length f)
    → Leaves (read_arrival_of h f (length d)) x r × (zs ≡ step.storing (read_arrival_of h f (length d)).says (header_in f).offset (iu_of f) d)
read_next h x f d r zs q s l =
    rw (read_arrives h f (length d) q) ((l, s.0 ∙ told_so h (length f)), buffer_so (stored_said h (length f)) h.expected f d zs _ (stores_so _) q.1.0.header refl q.1.0.iu s.1)
