-- What the events of a write come to at the target, as plain facts.
use Prim.Native.Nat.{ℕ, ◌+◌, ◌≤◌}
use mathlib.Core.Bool.{Bool, true, false, ◌&&◌}
use mathlib.Core.List.{List}
use mathlib.Core.Path.{◌≡◌, refl, sym, ap}
use native.Mathlib.Omega.{arith}
use lib.Dec.{leb, eqb}
use lib.ListN.{length}
use borrow.Author.Tests.{leb-true, eqb-true, eqb-false, eq-eqb}
use Rattle.status.specs.Entry.{entry_of}
use Rattle.status.specs.Pick.{pick}
use Rattle.status.specs.Answer.{Word, Said, Left, ◌saying◌, stores, unless}
use Rattle.status.specs.Result.{Result}
use Rattle.status.specs.Entry.{Entry}
use Rattle.std.specs.Prelude.{Ok, Err}
use Rattle.status.proofs.OpenedCall.{differ, opened, open_entry, confirmed}
use Rattle.status.proofs.Leaves.{picked}
use Rattle.frame.specs.Format.{DATA, encode}
use Rattle.frame.specs.Read.{header_in, iu_of}
use Rattle.frame.specs.Write.{writable, over, handing, hands}
use Rattle.frame.specs.RoundTrip.{InRange}
use Rattle.frame.specs.declared.types.Header.{Header}
use Rattle.arrival.specs.Accept.{class_of, accept_of}
use Rattle.arrival.specs.declared.Role.TheVariants.{WriteTarget}
use Rattle.arrival.specs.declared.Class.TheVariants.{Data}
use Rattle.arrival.specs.declared.Arrived.{Arrived}
use Rattle.arrival.proofs.Passed.{written_passes, written_stands}
use Rattle.receiver.specs.DataFrame.{arrival_of}
use Rattle.receiver_steps.specs.declared.types.Receiver.{Receiver}
use Rattle.target.specs.Record.{UNANSWERED, READY, holds_of}
use Rattle.target.specs.Transmit.{due_of, issued_of, frame_of, next_of}
use Rattle.target.specs.Confirmation.{acknowledged_of, confirms_of, ack_of}
use Rattle.target.specs.Arrival.{lifted_of, is_current, taken_of, arrived_by, lent_of, write_arrival_of}
use Rattle.target.specs.declared.types.Target.{Target}
use Rattle.target.proofs.Held.{held}
use Rattle.target.proofs.Lowest.{new_tag}

-- ── an XFER_RDY that was handed out ──
pub record HandedOut (x : Target) (out : List ℕ) (n : ℕ) : Type 0 where
  pub holds : holds_of x ≡ true
  pub ended : x.receiver.ended ≡ false
  pub due : due_of x ≡ true
  pub target : (next_of x out).left ≡ issued_of x
  pub size : n ≡ length (frame_of x)
  pub room : length (frame_of x) ≤ length out
  pub buffer : handing (next_of x out).says (frame_of x) out ≡ over (frame_of x) out

pub handed_out : (x : Target) (out : List ℕ) (n : ℕ) → (next_of x out).says ≡ Said.frame n → HandedOut x out n
unfolding next_of hands pick
handed_out x out n e = go (entry_of (holds_of x) x.receiver.ended) (due_of x) (leb (length (frame_of x)) (length out)) refl refl refl e
  where
    go : (e : Entry) (d t : Bool) → e ≡ entry_of (holds_of x) x.receiver.ended → due_of x ≡ d → leb (length (frame_of x)) (length out) ≡ t → (unless e x (pick d (pick t (issued_of x saying Said.frame (length (frame_of x))) (x saying Said.refused 3)) (x saying Said.word Word.wait))).says ≡ Said.frame n → HandedOut x out n
    go (Err why) d t p q r e = differ (cc)
    go (Ok tt) false t p q r e = differ (cc)
    go (Ok tt) true false p q r e = differ (cc)
    go (Ok tt) true true p q r e =
        let o = opened _ _ p in
        let z : next_of x out ≡ (issued_of x saying Said.frame (length (frame_of x))) = rw (sym p, q, r) in
        record { holds = o.0; ended = o.1; due = q; target = ap (λ (z : Left Target). z.left) z; size = cc; room = leb-true _ _ r; buffer = ap (λ (z : Left Target). handing z.says (frame_of x) out) z }

-- a tag is at most 17
pub tag_most : (x : Target) → holds_of x ≡ true → (issued_of x).tptt ≤ 17
unfolding issued_of
tag_most x e = let h = held x e in rw new_tag (picked (λ (n : ℕ). n ≤ 17) (x.stored && leb x.under x.since) (x.since + 1) x.since (omega arith) (omega arith))

-- ── an ACK that was taken ──
pub record Acked (z : Target) : Type 0 where
  pub holds : holds_of z ≡ true
  pub ended : z.receiver.ended ≡ false
  pub state : z.state ≡ UNANSWERED
  pub left : ack_of z ≡ (acknowledged_of z saying Said.word Word.acknowledged)

-- an answer that is not refused
pub answers : (z : Target) → (Ok tt) ≡ confirms_of z → (holds_of z ≡ true) × (z.receiver.ended ≡ false) × (z.state ≡ UNANSWERED)
unfolding confirms_of
answers z e = let a = confirmed _ _ _ e in (a.0, a.1, eqb-true _ _ a.2)

pub acknowledged : (z : Target) → (ack_of z).says ≡ Said.word Word.acknowledged → Acked z
acknowledged z e = go (confirms_of z) refl e
  where
    go : (t : Entry) → t ≡ confirms_of z → (unless t z (acknowledged_of z saying Said.word Word.acknowledged)).says ≡ Said.word Word.acknowledged → Acked z
    go (Ok tt) p e = let a = answers z p in record { holds = a.0; ended = a.1; state = a.2; left = rw (sym p) }
    go (Err why) p e = differ (cc)

-- ── any bytes f at a data buffer of m bytes ──
-- DATA behind 1, 2 and 5 to 8, after the XFER_RDY's ACK
pub record Takes (x : Target) (m : ℕ) : Type 0 where
  pub lent : lent_of x m ≡ true
  pub going : x.receiver.ended ≡ false
  pub ready : x.state ≡ READY

pub data Came (x : Target) (m : ℕ) : Left Target → Type 0 where
  refused : (n : ℕ) → Came x m (x saying Said.refused n)
  -- before the XFER_RDY's ACK
  early : (x.state ≡ READY → ⊥) → Came x m (x saying Said.word Word.discarded)
  taken : Takes x m → (offset : ℕ) (cdp : Bool) (n : ℕ) → Came x m (lifted_of x (arrival_of x.receiver offset cdp n m))

pub came : (x : Target) (f : List ℕ) (m : ℕ) → Came x m (write_arrival_of x f m)
unfolding write_arrival_of taken_of pick
came x f m = by_entry (entry_of (lent_of x m) x.receiver.ended) refl
  where
    by_state : (lent_of x m ≡ true) × (x.receiver.ended ≡ false) → (a : Arrived) (t : Bool) → eqb x.state READY ≡ t → Came x m (pick t (lifted_of x (arrival_of x.receiver a.header.offset a.header.flags.cdp a.len m)) (x saying Said.word Word.discarded))
    by_state o a true e = taken (record { lent = o.0; going = o.1; ready = eqb-true _ _ e }) _ _ _
    by_state o a false e = early (eqb-false _ _ e)

    go : (lent_of x m ≡ true) × (x.receiver.ended ≡ false) → (y : Result Arrived) → Came x m (arrived_by y x m)
    go o (Result.number n) = refused n
    go o (Result.value a) = picked (Came x m) (is_current x a.header) _ _ (by_state o a (eqb x.state READY) refl) (refused 8)

    by_entry : (e : Entry) → e ≡ entry_of (lent_of x m) x.receiver.ended → Came x m (unless e x (arrived_by (accept_of WriteTarget x.receiver.transfer f) x m))
    by_entry (Ok tt) p = go (opened _ _ p) (accept_of WriteTarget x.receiver.transfer f)
    by_entry (Err why) p = refused _

-- the receiving port's answer z
pub record Lifts (x : Target) (z : Left Receiver) : Type 0 where
  pub receiver : (lifted_of x z).left.receiver ≡ z.left
  pub state : (lifted_of x z).left.state ≡ x.state
  pub tptt : (lifted_of x z).left.tptt ≡ x.tptt
  pub retries : (lifted_of x z).left.retries ≡ x.retries

pub lifts_to : (x : Target) (z : Left Receiver) → Lifts x z
unfolding pick
lifts_to x z = go (stores z.says) refl
  where
    go : (t : Bool) → stores z.says ≡ t → Lifts x z
    go true e = record { receiver = rw e; state = rw e; tptt = rw e; retries = rw e }
    go false e = record { receiver = rw e; state = rw e; tptt = rw e; retries = rw e }

-- DATA that was written for this port under the current tag, after the XFER_RDY's ACK
module _ (x : Target) (h : Header) (iu : List ℕ) (m : ℕ) where
  pub data_arrives : lent_of x m ≡ true → x.receiver.ended ≡ false → x.state ≡ READY → h.frametype ≡ DATA → h.dest ≡ x.receiver.transfer.local → h.source ≡ x.receiver.transfer.remote → h.tag ≡ x.receiver.transfer.tag → h.tptt ≡ x.tptt → InRange h → writable h (length iu) ≡ true → write_arrival_of x (encode h iu) m ≡ lifted_of x (arrival_of x.receiver h.offset h.flags.cdp (length iu) m)
  unfolding write_arrival_of taken_of class_of pick
  data_arrives l o y k d s g t r w =
      rw (open_entry _ _ l o, written_passes x.receiver.transfer WriteTarget h iu Data (rw (eq-eqb _ _ k)) d s g r w, eq-eqb _ _ t, y)

pub data_placed : (h : Header) (iu : List ℕ) → InRange h → writable h (length iu) ≡ true → ((header_in (encode h iu)).offset ≡ h.offset) × (iu_of (encode h iu) ≡ iu)
data_placed h iu r w = let b = written_stands h iu r w in (ap (λ (g : Header). g.offset) b.0, b.2)
