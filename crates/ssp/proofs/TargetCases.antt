-- In the common case a definition gives this: what the short path of a write's target leaves and tells is what its definitions say.
use Prim.Native.Nat.{ℕ}
use mathlib.Core.List.{List, [], ◌∷◌}
use mathlib.Core.Path.{◌≡◌, refl, sym, ap, ◌∙◌}
use mathlib.Core.Bool.{Bool, true, not, ◌&&◌}
use native.Mathlib.Omega.{arith}
use lib.Dec.{leb, ltb, eqb}
use lib.ListN.{length, drop}
use borrow.Author.Tests.{ne_eqb, eq-eqb, eqb-true, leb-true, ltb-true, le-leb}
use Rattle.status.specs.Pick.{pick, all}
use Rattle.status.specs.Answer.{◌saying◌}
use Rattle.status.proofs.Choose.{in_true, each}
use Rattle.status.proofs.OpenedCall.{open_entry}
use Rattle.frame.specs.Format.{DATA, field}
use Rattle.frame.specs.Read.{header_in, iu_of}
use Rattle.frame.specs.PlainData.{PlainData, transfer_tag}
use Rattle.frame.specs.Write.{placed}
use Rattle.std.specs.Prelude.{Some}
use Rattle.arrival.specs.Accept.{class_of}
use Rattle.arrival.specs.declared.Role.TheVariants.{WriteTarget}
use Rattle.arrival.specs.declared.Class.{Class}
use Rattle.receiver_steps.specs.Record as receiver
use Rattle.receiver_steps.specs.DataFrame.{storing}
use Rattle.target.specs.Record.{NONE, READY}
use Rattle.target.specs.Arrival.{lifted_of, taken_of, lent_of, write_arrival_of}
use Rattle.target.specs.declared.types.Target.{Target}
use Rattle.target.proofs.Held.{holds_again, lent_again, core_lent}
use Rattle.ssp.specs.CAnswer.{Leaves}
use Rattle.ssp.specs.ShortReceive.{WriteNext, stored_told, grown_of, write_grown_of}
use Rattle.ssp.specs.declared.types.CAnswer.{CAnswer}
use Rattle.ssp.proofs.ReceiveCases.{stored_said, told_so, stores_so, accepts, data_length, is_stored, buffer_so}

-- the tests, as the code joins them
abbrev pub lent_tests : Target → ℕ → List Bool
lent_tests x m =
    receiver.holds_of x.receiver ∷ ltb x.receiver.base x.receiver.end ∷ leb x.retries x.receiver.transfer.limit ∷ leb x.since 16 ∷ leb x.elapsed x.receiver.transfer.irt ∷ eqb m x.receiver.transfer.count ∷ []

pub lent_well : (x : Target) (m : ℕ) → all (lent_tests x m) ≡ true → x.state ≡ READY → x.receiver.transfer.write ≡ true → lent_of x m ≡ true
lent_well x m e s w =
    let h = each (lent_tests x m) e in
    lent_again x m (holds_again x h.0 w (omega (arith, s)) (λ z. ltb-true _ _ h.1.0) (leb-true _ _ h.1.1.0) (leb-true _ _ h.1.1.1.0) (leb-true _ _ h.1.1.1.1.0)) (eqb-true _ _ h.1.1.1.1.1.0)

-- the TPTT that the code reads
pub tag_is : {f : List ℕ} {d s t o k v : ℕ} → PlainData f d s t o → k ≡ transfer_tag f → k ≡ v → field f 18 2 ≡ v
tag_is {f} p e r = in_true (leb 20 (length f)) (field f 18 2) (field f 18 2) 0 (le-leb 20 (length f) (omega (arith, p.least))) refl ∙ sym e ∙ r

data_write : class_of WriteTarget DATA ≡ Some Class.Data
unfolding class_of pick
data_write = refl

-- DATA that is stored: the sum of milliseconds starts from zero, and the earlier tags leave use
lifts : (x : Target) (n : ℕ) → lifted_of x (grown_of x.receiver n saying stored_said x.receiver n) ≡ (write_grown_of x n saying stored_said x.receiver n)
lifts x n = ap (λ (y : Target). y saying stored_said x.receiver n) (sym (in_true _ _ _ _ (stores_so _) refl))

write_arrives : (x : Target) (f : List ℕ) (m : ℕ) → WriteNext x f m → write_arrival_of x f m ≡ (write_grown_of x (length f) saying stored_said x.receiver (length f))
unfolding write_arrival_of taken_of
write_arrives x f m q =
    let l = core_lent x m q.5 in
    let cur : (not (eqb x.state NONE) && eqb (field f 18 2) x.tptt) ≡ true = rw (ne_eqb x.state NONE (λ e. absurd (omega (arith, q.3, e))), eq-eqb _ _ q.2) refl in
    rw (open_entry _ _ q.5 q.4, accepts WriteTarget x.receiver.transfer f x.receiver.expected data_write q.1.0, data_length f _ _ _ _ q.1.0)
    (sym (in_true _ _ _ _ cur (in_true _ _ _ _ (eq-eqb _ _ q.3) refl)) ∙ ap (lifted_of x) (is_stored x.receiver f m l q.4 q.0 q.1) ∙ lifts x (length f))

pub write_next : (h x : Target) (f d : List ℕ) (r : CAnswer) (zs : List ℕ) → WriteNext h f (length d) → (r ≡ stored_told h.receiver (length f)) × (zs ≡ placed d h.receiver.expected (drop 24 f)) → x ≡ write_grown_of h (length f)
    → Leaves (write_arrival_of h f (length d)) x r × (zs ≡ storing (write_arrival_of h f (length d)).says (header_in f).offset (iu_of f) d)
write_next h x f d r zs q s l =
    rw (write_arrives h f (length d) q) ((l, s.0 ∙ told_so h.receiver (length f)), buffer_so (stored_said h.receiver (length f)) h.receiver.expected f d zs _ (stores_so _) q.1.0.header refl q.1.0.iu s.1)
