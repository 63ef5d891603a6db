-- Each role hands DATA to the receiving port as it stands in the bytes.
use Prim.Native.Nat.{ℕ}
use mathlib.Core.Bool.{Bool, true, false, not, ◌&&◌}
use mathlib.Core.List.{List}
use mathlib.Core.Logic.{◌⊎◌, inl, inr, ◌≢◌}
use mathlib.Core.Path.{◌≡◌, refl, sym, ap, subst, ◌∙◌}
use lib.Dec.{eqb}
use lib.ListN.{length, take, drop}
use borrow.Author.Tests.{eq-eqb, ne_eqb}
use Rattle.status.specs.Pick.{pick, ◌with◌}
use Rattle.status.specs.Answer.{Word, Said, Left, ◌saying◌, stores}
use Rattle.status.specs.Result.{Result}
use Rattle.status.proofs.OpenedCall.{open_entry}
use Rattle.transfer.specs.declared.Transfer.{Transfer}
use Rattle.frame.specs.Read.{header_in, iu_of}
use Rattle.arrival.specs.Accept.{accept_of}
use Rattle.arrival.specs.declared.Class.{Class}
use Rattle.arrival.specs.declared.Role.{Role}
use Rattle.arrival.specs.declared.Role.TheVariants.{ReadInitiator, WriteTarget}
use Rattle.arrival.specs.declared.Arrived.{Arrived}
use Rattle.arrival.proofs.Passed.{passed}
use Rattle.receiver_steps.specs.Record.{lent_of}
use Rattle.receiver_steps.specs.DataFrame.{storing}
use Rattle.receiver_steps.specs.declared.types.Receiver.{Receiver}
use Rattle.receiver.specs.DataFrame.{arrival_of}
use Rattle.initiator.specs.Read.{read_arrival_of}
use Rattle.initiator.proofs.ReadReturns.{read_lent_again}
use Rattle.target.specs.Fields.{receiver≔, stored≔, under≔, since≔, elapsed≔}
use Rattle.target.specs.Arrival as target
use Rattle.target.specs.Record.{NONE, READY}
use Rattle.target.specs.declared.types.Target.{Target}
use Rattle.target.proofs.Views.{lifts_to}
use Rattle.link.specs.Ports.{lending}
use Rattle.link.specs.SameReceiving.{receiving, SameReceiving}

-- where a role leaves and answers what the receiving port does, it stores the same: offset and data are those of the frame
lands : (role : Role) (t : Transfer) (f b : List ℕ) (a : Arrived) → accept_of role t f ≡ Result.value a → (r : Receiver) (x : Left Receiver) → x ≡ arrival_of r a.header.offset a.header.flags.cdp a.len (length b) → lending x (storing x.says (header_in f).offset (iu_of f) b) ≡ receiving r a f b
lands role t f b a d r x e = let p = (passed t role f a d).is in λ i. lending (e i) (storing (e i).says (p i).header.offset (take (p i).len (drop (p i).start f)) b)

read_is : (r : Receiver) (f : List ℕ) (m : ℕ) (a : Arrived) → lent_of r m ≡ true → r.ended ≡ false → r.transfer.write ≡ false → accept_of ReadInitiator r.transfer f ≡ Result.value a → a.class ≡ Class.Data → read_arrival_of r f m ≡ arrival_of r a.header.offset a.header.flags.cdp a.len m
unfolding read_arrival_of
read_is r f m a l o v d k = rw (open_entry _ _ (read_lent_again r m l v) o, d, k)

module _ (y : Target) (f : List ℕ) (m : ℕ) (a : Arrived) (l : target.lent_of y m ≡ true) (o : y.receiver.ended ≡ false) (d : accept_of WriteTarget y.receiver.transfer f ≡ Result.value a) (t : a.header.tptt ≡ y.tptt) where
  abbrev core : Left Receiver
  core = arrival_of y.receiver a.header.offset a.header.flags.cdp a.len m

  write_is : y.state ≡ READY → ((target.write_arrival_of y f m).left.receiver saying (target.write_arrival_of y f m).says) ≡ core
  unfolding target.write_arrival_of target.taken_of pick
  write_is s =
      let e : target.write_arrival_of y f m ≡ target.lifted_of y core = rw (open_entry _ _ l o, d, eq-eqb _ _ t, s) in
      ap (λ (z : Left Target). z.left.receiver saying z.says) e ∙ ap (λ (v : Receiver). v saying core.says) (lifts_to y core).receiver

  early_is : y.state ≢ NONE → y.state ≢ READY → target.write_arrival_of y f m ≡ (y saying Said.word Word.discarded)
  unfolding target.write_arrival_of target.taken_of pick
  early_is n s = rw (open_entry _ _ l o, d, eq-eqb _ _ t, ne_eqb _ _ n, ne_eqb _ _ s)

  lifted_is : y.state ≡ READY → target.write_arrival_of y f m ≡ target.lifted_of y core
  unfolding target.write_arrival_of target.taken_of pick
  lifted_is s = rw (open_entry _ _ l o, d, eq-eqb _ _ t, s)

  frees : y.state ≡ READY → let x = target.write_arrival_of y f m in x.left ≡ pick (stores x.says) (y with receiver≔ x.left.receiver with stored≔ true with under≔ y.tptt with since≔ 0 with elapsed≔ 0) (y with receiver≔ x.left.receiver)
  frees s = subst (λ (x : Left Target). x.left ≡ pick (stores x.says) (y with receiver≔ x.left.receiver with stored≔ true with under≔ y.tptt with since≔ 0 with elapsed≔ 0) (y with receiver≔ x.left.receiver)) (sym (lifted_is s)) (ap (λ (r : Receiver). pick (stores core.says) (y with receiver≔ r with stored≔ true with under≔ y.tptt with since≔ 0 with elapsed≔ 0) (y with receiver≔ r)) (sym (lifts_to y core).receiver))

never : (b : Bool) → (not b && false) ≡ false
never true = refl
never false = refl

module _ (y : Target) (f : List ℕ) (m : ℕ) (a : Arrived) (l : target.lent_of y m ≡ true) (o : y.receiver.ended ≡ false) (d : accept_of WriteTarget y.receiver.transfer f ≡ Result.value a) where
  unknown : (a.header.tptt ≢ y.tptt) ⊎ (y.state ≡ NONE) → target.write_arrival_of y f m ≡ (y saying Said.refused 8)
  unfolding target.write_arrival_of target.taken_of pick
  unknown (inl e) = rw (open_entry _ _ l o, d, ne_eqb _ _ e, never (eqb y.state NONE)) refl
  unknown (inr e) = rw (open_entry _ _ l o, d, e) refl

pub same_receiving : SameReceiving
same_receiving =
    record {
      read = λ r f b a p. lands ReadInitiator r.transfer f b a p.accepted r _ (read_is r f (length b) a p.lent p.live p.read p.accepted p.data_frame);
      write = λ y f b a p t s. lands WriteTarget y.receiver.transfer f b a p.accepted y.receiver _ (write_is y f (length b) a p.lent p.live p.accepted t s);
      frees = λ y f b a p t s. frees y f (length b) a p.lent p.live p.accepted t s;
      early = λ y f b a p t n s. ap (λ (z : Left Target). lending z (storing z.says (header_in f).offset (iu_of f) b)) (early_is y f (length b) a p.lent p.live p.accepted t n s);
      unknown = λ y f b a p e. ap (λ (z : Left Target). lending z (storing z.says (header_in f).offset (iu_of f) b)) (unknown y f (length b) a p.lent p.live p.accepted e);
    }
