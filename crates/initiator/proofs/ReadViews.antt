-- What an arrival at the initiator of a read comes to, as plain facts.
use Prim.Native.Nat.{ℕ}
use mathlib.Core.Bool.{Bool, true, false}
use mathlib.Core.List.{List}
use mathlib.Core.Path.{◌≡◌, refl}
use lib.ListN.{length, get_or}
use Rattle.status.specs.Entry.{entry_of}
use Rattle.status.specs.Pick.{pick, ◌with◌}
use Rattle.status.specs.Answer.{Said, Left, ◌saying◌, stores}
use Rattle.status.specs.Result.{Result}
use Rattle.status.proofs.OpenedCall.{open_entry, ended_entry}
use Rattle.status.proofs.Leaves.{Leaves, leaves_unless, unless_gives}
use Rattle.frame.specs.Format.{DATA, RESPONSE, encode}
use Rattle.frame.specs.Write.{writable}
use Rattle.frame.specs.Read.{header_in}
use Rattle.frame.specs.RoundTrip.{InRange}
use Rattle.frame.specs.XferRdy.{xfer_rdy_of}
use Rattle.frame.specs.Response.{response_iu_of}
use Rattle.status.specs.declared.answer.Opened.{Opened}
use Rattle.frame.specs.declared.types.Header.{Header}
use Rattle.frame.specs.declared.types.XferRdy.{XferRdy}
use Rattle.arrival.specs.Accept.{class_of, accept_of}
use Rattle.arrival.specs.declared.Role.TheVariants.{ReadInitiator}
use Rattle.std.specs.Prelude.{Some}
use Rattle.arrival.specs.declared.Class.{Class}
use Rattle.arrival.specs.declared.Arrived.{Arrived}
use Rattle.arrival.proofs.Passed.{passed, written_passes}
use Rattle.receiver_steps.specs.Fields.{ended≔}
use Rattle.receiver_steps.specs.Record.{holds_of, failed_of, lent_of}
use Rattle.receiver.specs.DataFrame.{arrival_of}
use Rattle.receiver_steps.specs.declared.types.Receiver.{Receiver}
use Rattle.receiver.proofs.Views.{Ended, arrival_leaves}
use Rattle.receiver.proofs.Kept.{ended_holds, arrival_kept}
use Rattle.initiator.specs.Read.{read_holds_of, read_lent_of, rejected_by, not_expected_of, opened_by, response_of, taken_of, arrived_by, read_arrival_of, read_loss_of}
use Rattle.initiator.proofs.ReadReturns.{read_lent_again}

-- DATA that was written for this port reaches the receiving port as it was written
data_class : (frametype : ℕ) → frametype ≡ DATA → class_of ReadInitiator frametype ≡ Some Class.Data
unfolding class_of pick
data_class frametype e = rw e

pub data_arrives : (r : Receiver) (h : Header) (iu : List ℕ) (m : ℕ) → lent_of r m ≡ true → r.transfer.write ≡ false → r.ended ≡ false → h.frametype ≡ DATA → h.dest ≡ r.transfer.local → h.source ≡ r.transfer.remote → h.tag ≡ r.transfer.tag → InRange h → writable h (length iu) ≡ true → read_arrival_of r (encode h iu) m ≡ arrival_of r h.offset h.flags.cdp (length iu) m
unfolding read_arrival_of
data_arrives r h iu m e v n k d s g i w =
    rw (open_entry _ _ (read_lent_again r m e v) n, written_passes r.transfer ReadInitiator h iu Class.Data (data_class h.frametype k) d s g i w)

-- ── what holds of every arrival ──
module _ (P : Left Receiver → Type 0) (r : Receiver) (f : List ℕ) (m : ℕ)
    (refused : (n : ℕ) → P (r saying Said.refused n)) (failed : (n : ℕ) → P (failed_of r n)) (arrived : (offset : ℕ) (cdp : Bool) (n : ℕ) → P (arrival_of r offset cdp n m))
    (answered : (start len : ℕ) (o : Opened) → P ((r with ended≔ true) saying Said.response start len o 0)) where
  rejected_gives : (y : Result XferRdy) → P (rejected_by y r)
  rejected_gives (Result.number n) = failed n
  rejected_gives (Result.value x) = failed 27

  opened_gives : (start len : ℕ) (y : Result Opened) → P (opened_by y r start len)
  opened_gives start len (Result.number n) = failed n
  opened_gives start len (Result.value o) = answered start len o

  pub response_gives : (start len : ℕ) (iu : List ℕ) → P (response_of r start len iu)
  unfolding response_of
  response_gives start len iu = opened_gives start len (response_iu_of iu)

  class_gives : (k : Class) (a : Arrived) → P (taken_of k r a f m)
  unfolding not_expected_of
  class_gives Class.Data a = arrived a.header.offset a.header.flags.cdp a.len
  class_gives Class.XferRdy a = rejected_gives (xfer_rdy_of _)
  class_gives Class.Response a = response_gives a.start a.len _

  pub arrival_gives : P (read_arrival_of r f m)
  unfolding read_arrival_of
  arrival_gives = unless_gives P (entry_of (read_lent_of r m) r.ended) r _ refused (go (accept_of ReadInitiator r.transfer f))
    where
      go : (x : Result Arrived) → P (arrived_by x r f m)
      go (Result.number n) = refused n
      go (Result.value a) = class_gives a.class a

module _ (r : Receiver) where
  -- a refusal changes nothing; a failure and a RESPONSE end the record
  pub read_arrival_leaves : (f : List ℕ) (m : ℕ) → Leaves Ended r (read_arrival_of r f m)
  read_arrival_leaves f m = arrival_gives (Leaves Ended r) r f m (λ n. refl) (λ n. refl) (λ o c n. arrival_leaves r o c n m) (λ s l o. refl)

  pub read_loss_leaves : Leaves Ended r (read_loss_of r)
  read_loss_leaves = leaves_unless Ended r (entry_of (read_holds_of r) r.ended) _ refl

  -- every event leaves a well-formed record well-formed
  pub read_arrival_kept : (f : List ℕ) (m : ℕ) → holds_of r ≡ true → holds_of (read_arrival_of r f m).left ≡ true
  read_arrival_kept f m h = arrival_gives (λ (x : Left Receiver). holds_of x.left ≡ true) r f m (λ n. h) (λ n. ended_holds r h) (λ o c n. arrival_kept r h o c n m) (λ s l o. ended_holds r h)

  pub read_loss_kept : holds_of r ≡ true → holds_of (read_loss_of r).left ≡ true
  read_loss_kept h = unless_gives (λ (x : Left Receiver). holds_of x.left ≡ true) (entry_of (read_holds_of r) r.ended) r _ (λ n. h) (ended_holds r h)

  -- an ended record refuses every call
  module _ (e : r.ended ≡ true) where
    pub read_arrival_ended : (f : List ℕ) (m : ℕ) → (n : ℕ) × (read_arrival_of r f m ≡ (r saying Said.refused n))
    unfolding read_arrival_of
    read_arrival_ended f m = ended_entry _ _ r _ e

    pub read_loss_ended : (n : ℕ) × (read_loss_of r ≡ (r saying Said.refused n))
    read_loss_ended = ended_entry _ _ r _ e

  -- a RESPONSE, taken or not, stores nothing
  pub response_stores_nothing : (f : List ℕ) (m : ℕ) → get_or f 0 0 ≡ RESPONSE → stores (read_arrival_of r f m).says ≡ false
  unfolding read_arrival_of response_of class_of header_in pick
  response_stores_nothing f m e = unless_gives Plain (entry_of (read_lent_of r m) r.ended) r _ (λ n. refl) (go (accept_of ReadInitiator r.transfer f) refl)
    where
      Plain : Left Receiver → Type 0
      Plain x = stores x.says ≡ false

      opened : (start len : ℕ) (y : Result Opened) → Plain (opened_by y r start len)
      opened start len (Result.number n) = refl
      opened start len (Result.value o) = refl

      go : (x : Result Arrived) → accept_of ReadInitiator r.transfer f ≡ x → Plain (arrived_by x r f m)
      go (Result.number n) q = refl
      go (Result.value a) q =
          let c = (passed r.transfer ReadInitiator f a q).class in
          let s : class_of ReadInitiator (header_in f).frametype ≡ Some Class.Response = rw e in
          let k : a.class ≡ Class.Response = cc in
          rw k (opened a.start a.len (response_iu_of _))
