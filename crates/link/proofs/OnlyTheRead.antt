-- No call at the initiator of a read changes a byte outside the read: only DATA is stored, inside the burst, and the burst is inside the read.
use Prim.Native.Nat.{ℕ, ◌+◌, ◌≤◌}
use mathlib.Core.Bool.{Bool, true}
use mathlib.Core.List.{List}
use mathlib.Core.Logic.{⊎_elim}
use mathlib.Core.Path.{◌≡◌, refl, sym, subst}
use native.Mathlib.Omega.{arith}
use lib.ListN.{length, length-take, length-drop}
use Rattle.status.specs.Entry.{entry_of}
use Rattle.status.specs.Answer.{Left, unless}
use Rattle.status.specs.Result.{Result}
use Rattle.status.specs.Entry.{Entry}
use Rattle.status.proofs.OpenedCall.{opened}
use Rattle.status.proofs.Leaves.{unless_gives}
use Rattle.frame.specs.Read.{header_in, iu_length, iu_of}
use Rattle.frame.specs.Write.{placed}
use Rattle.arrival.specs.Accept.{class_of, accept_of}
use Rattle.arrival.specs.declared.Role.TheVariants.{ReadInitiator}
use Rattle.arrival.specs.declared.Class.{Class}
use Rattle.arrival.specs.declared.Arrived.{Arrived}
use Rattle.arrival.proofs.Passed.{passed, arrived_in}
use Rattle.receiver_steps.specs.Record.{holds_of, lent_of}
use Rattle.receiver_steps.specs.DataFrame.{disposition_of, taken_of as handled, storing}
use Rattle.receiver_steps.specs.declared.types.Receiver.{Receiver}
use Rattle.receiver_steps.specs.declared.types.DataDisposition.TheVariants.{Discard, Skip, Store}
use Rattle.receiver_steps.proofs.Held.{held, lent}
use Rattle.receiver_steps.proofs.Judged.{Inside, Judged, judged}
use Rattle.receiver_steps.proofs.Buffer.{put_down, placed_length}
use Rattle.receiver.specs.DataFrame.{arrival_of}
use Rattle.receiver.proofs.Kept.{arrival_same}
use Rattle.initiator.specs.Read.{read_holds_of, read_lent_of, taken_of, arrived_by, read_arrival_of}
use Rattle.initiator.proofs.ReadReturns.{not_expected_leaves, response_leaves}
use Rattle.initiator.proofs.ReadViews.{arrival_gives}
use Rattle.link.specs.Calls.{ReaderCall}
use Rattle.link.specs.OnlyTheRead.{OutsideSame, OnlyTheRead}
use Rattle.link.proofs.Placed.{placed_under, placed_over}
use Rattle.std.specs.Prelude.{Ok, Err}
use Rattle.receiver_steps.specs.DataFrame.{Disposition}

module _ (r : Receiver) (b : List ℕ) where
  abbrev Same : List ℕ → Type 0
  Same = OutsideSame r.transfer b

  same : Same b
  same = record { size = refl; bytes = λ i h. refl }

  -- DATA inside the burst
  put : (offset : ℕ) (iu : List ℕ) → lent_of r (length b) ≡ true → Inside r offset (length iu) → Same (placed b offset iu)
  put offset iu l n =
      let q = lent r (length b) l in
      let h = held r q.holds in
      let fits : offset + length iu ≤ length b = omega (arith, n.high, q.reach) in
      record {
        size = placed_length b offset iu fits;
        bytes = λ i. ⊎_elim (λ u. placed_under b iu offset fits i (omega (arith, n.low, h.start_base))) (λ u. placed_over b iu offset fits i (omega (arith, n.high, h.end_past)));
      }

  stored : (offset : ℕ) (cdp : Bool) (n : ℕ) → disposition_of r offset cdp n ≡ (Ok Store) → Inside r offset n
  stored offset cdp n v = go (subst (Judged r offset cdp n) v (judged r offset cdp n))
    where
      go : Judged r offset cdp n (Ok Store) → Inside r offset n
      go (Judged.stored i s) = i

  core : (offset : ℕ) (cdp : Bool) (iu : List ℕ) → Same (storing (arrival_of r offset cdp (length iu) (length b)).says offset iu b)
  unfolding arrival_of
  core offset cdp iu = go (entry_of (lent_of r (length b)) r.ended) (disposition_of r offset cdp (length iu)) refl refl
    where
      go : (e : Entry) (v : Disposition) → e ≡ entry_of (lent_of r (length b)) r.ended → disposition_of r offset cdp (length iu) ≡ v → Same (storing (unless e r (handled v r offset (length iu))).says offset iu b)
      go (Err w) v p q = same
      go (Ok tt) (Ok Discard) p q = same
      go (Ok tt) (Ok Skip) p q = same
      go (Ok tt) (Err w) p q = same
      go (Ok tt) (Ok Store) p q = subst Same (sym (put_down _ offset iu b)) (put offset iu (opened _ _ p).0 (stored offset cdp (length iu) q))

  -- a frame that has passed 5 to 8
  module _ (f : List ℕ) (inside : 24 + iu_length f ≤ length f) where
    iu_length_lem : length (iu_of f) ≡ iu_length f
    iu_length_lem = rw (length-take, length-drop) (omega arith)

    by_class : (k : Class) → Same (storing (taken_of k r (arrived_in k f) f (length b)).says (header_in f).offset (iu_of f) b)
    by_class Class.Data =
        subst (λ (n : ℕ). Same (storing (arrival_of r (header_in f).offset (header_in f).flags.cdp n (length b)).says (header_in f).offset (iu_of f) b)) iu_length_lem
        (core (header_in f).offset (header_in f).flags.cdp (iu_of f))
    by_class Class.XferRdy = subst Same (not_expected_leaves r _ (header_in f).offset (iu_of f) b) same
    by_class Class.Response = subst Same (response_leaves r _ _ _ (header_in f).offset (iu_of f) b) same

  bytes : (f : List ℕ) → Same (storing (read_arrival_of r f (length b)).says (header_in f).offset (iu_of f) b)
  unfolding read_arrival_of
  bytes f = unless_gives Left-same (entry_of (read_lent_of r (length b)) r.ended) r _ (λ n. same) (go (accept_of ReadInitiator r.transfer f) refl)
    where
      Left-same : Left Receiver → Type 0
      Left-same x = Same (storing x.says (header_in f).offset (iu_of f) b)

      go : (x : Result Arrived) → accept_of ReadInitiator r.transfer f ≡ x → Left-same (arrived_by x r f (length b))
      go (Result.number n) e = same
      go (Result.value a) e =
          let p = passed r.transfer ReadInitiator f a e in
          subst (λ (v : Arrived). Left-same (taken_of v.class r v f (length b))) p.is (by_class f p.inside a.class)

-- no call changes the transfer
abbrev Transfer-same : Receiver → Left Receiver → Type 0
Transfer-same r x = x.left.transfer ≡ r.transfer

pub only_the_read : OnlyTheRead
only_the_read (ReaderCall.bytes f) r b =
    (arrival_gives (Transfer-same r) r f (length b) (λ n. refl) (λ n. refl) (λ o c n. (arrival_same r o c n (length b)).transfer) (λ s l o. refl), bytes r b f)
only_the_read ReaderCall.loss r b = (unless_gives (Transfer-same r) (entry_of (read_holds_of r) r.ended) r _ (λ n. refl) refl, same r b)
only_the_read (ReaderCall.core_data offset cdp iu) r b = ((arrival_same r offset cdp (length iu) (length b)).transfer, core r b offset cdp iu)
only_the_read ReaderCall.core_loss r b = (unless_gives (Transfer-same r) (entry_of (holds_of r) r.ended) r _ (λ n. refl) refl, same r b)
