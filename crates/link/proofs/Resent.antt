-- What a target hands out again is the XFER_RDY just before: the first law of specs/Resent.antt. The others: proofs/TakenAgain.antt.
use Prim.Native.Nat.{ℕ, ◌-◌, ◌<◌}
use mathlib.Core.List.{List, [], ◌∷◌, ◌++◌}
use mathlib.Core.Bool.{Bool, true, false}
use mathlib.Core.Logic.{◌⊎◌, inl, inr}
use mathlib.Core.Path.{◌≡◌, refl, sym, ap, subst, ◌∙◌}
use native.Mathlib.Omega.{arith}
use lib.Dec.{leb, ltb, eqb}
use lib.ListN.{length}
use borrow.Author.Tests.{eqb-true}
use Rattle.status.specs.Pick.{◌with◌}
use Rattle.status.specs.Entry.{entry_of}
use Rattle.status.specs.Answer.{Said, Left, ◌saying◌, unless}
use Rattle.status.proofs.Leaves.{picked, unless_gives}
use Rattle.frame.specs.Format.{XFER-RDY, header_bytes, encode}
use Rattle.frame.specs.Read.{header_in}
use Rattle.frame.specs.Write.{handing, hands}
use Rattle.frame.specs.XferRdy.{xfer_rdy_bytes}
use Rattle.frame.specs.declared.types.Flags.{Flags}
use Rattle.frame.specs.declared.types.Header.{Header}
use Rattle.frame.proofs.Bits.{flags_back}
use Rattle.frame.proofs.RoundTrip.{iu_back}
use Rattle.frame.proofs.Writer.{encode_length}
use Rattle.receiver_steps.specs.Record.{lent_of}
use Rattle.receiver.specs.DataFrame.{arrival_of}
use Rattle.receiver_steps.specs.declared.types.Receiver.{Receiver}
use Rattle.receiver.proofs.Views as receiver
use Rattle.transfer.specs.declared.Transfer.{Transfer}
use Rattle.target.specs.Fields.{tptt≔}
use Rattle.target.specs.Record.{UNANSWERED, AGAIN, holds_of}
use Rattle.target.specs.Confirmation.{confirms_of, retry_of}
use Rattle.target.specs.Transmit.{due_of, issued_of, xfer_rdy_header, xfer_rdy_iu, frame_of, next_of}
use Rattle.target.specs.Arrival as taking
use Rattle.target.specs.Time.{time_of}
use Rattle.target.specs.declared.types.Target.{Target}
use Rattle.target.proofs.Again as target
use Rattle.target.proofs.Views.{Came, came}
use Rattle.target.proofs.Timed.{Timed, timed}
use Rattle.link.specs.Ports.{Signal, frame_in}
use Rattle.link.specs.Calls.{TargetCall, target_call}
use Rattle.link.specs.Resent.{again, Again, xfer_rdys_of, Repeats, InTurn, HandedOutAgain}
use Rattle.frame.proofs.Hands.{over_front}

-- a header sent again comes back so
module _ (h : Header) (n : ℕ) (iu : List ℕ) (small : h.flags.tlr < 4) where
  abbrev marked : Flags → Flags
  marked f = record { tlr = f.tlr; retry = f.retry; retransmit = true; cdp = f.cdp }

  again_back : header_in (encode (again n h) iu) ≡ again (header_in (encode (again n h) iu)).tptt (header_in (encode h iu))
  unfolding header_in encode header_bytes
  again_back i =
      record {
        frametype = h.frametype;
        dest = (header_in (encode h iu)).dest;
        source = (header_in (encode h iu)).source;
        flags = (flags_back (marked h.flags) small ∙ sym (ap marked (flags_back h.flags small))) i;
        tag = (header_in (encode h iu)).tag;
        tptt = (header_in (encode (again n h) iu)).tptt;
        offset = (header_in (encode h iu)).offset;
      }

-- the XFER_RDY of a transfer for a burst from base to end, with a TPTT, sent again or not
abbrev sent : Transfer → ℕ → Bool → ℕ → ℕ → List ℕ
sent t tptt resent base end =
    encode
    (record {
      frametype = XFER-RDY;
      dest = t.remote;
      source = t.local;
      flags = record { tlr = 0; retry = ltb 0 t.limit; retransmit = resent; cdp = false };
      tag = t.tag;
      tptt = tptt;
      offset = 0;
    })
    (xfer_rdy_bytes (record { offset = base; len = end - base }))

-- f is the XFER_RDY for y's burst
record Last (y : Target) (f : List ℕ) : Type 0 where
  tptt : ℕ
  resent : Bool
  is : f ≡ sent y.receiver.transfer tptt resent y.receiver.base y.receiver.end

last_kept : {y z : Target} {f : List ℕ} → target.Keeps y z → Last y f → Last z f
last_kept k l = record { tptt = l.tptt; resent = l.resent; is = l.is ∙ λ i. sent (sym k.transfer i) l.tptt l.resent (sym k.base i) (sym k.end i) }

module _ (y : Target) where
  -- the frame handed out is for the burst that the record then has
  issued_last : Last (issued_of y) (frame_of y)
  unfolding frame_of xfer_rdy_header xfer_rdy_iu
  issued_last = record { tptt = (issued_of y).tptt; resent = eqb y.state AGAIN; is = refl }

  flag : (header_in (frame_of y)).flags.retransmit ≡ eqb y.state AGAIN
  unfolding header_in frame_of encode header_bytes xfer_rdy_header
  flag = ap (λ (f : Flags). f.retransmit) (flags_back (xfer_rdy_header (issued_of y) (eqb y.state AGAIN)).flags (omega arith))

  -- with RETRANSMIT one it is the one before, sent again
  repeats : (f : List ℕ) → Last y f → (header_in (frame_of y)).flags.retransmit ≡ true → Again f (frame_of y)
  unfolding frame_of xfer_rdy_header xfer_rdy_iu
  repeats f l t = subst (λ (g : List ℕ). Again f g) (sym whole) (subst (λ (e : List ℕ). Again e (encode (again n h) iu)) (sym l.is) (record { header = again_back h n iu small; iu = iu_back (again n h) iu ∙ sym (iu_back h iu); size = encode_length (again n h) iu ∙ sym (encode_length h iu) }))
    where
      e : eqb y.state AGAIN ≡ true
      e = sym flag ∙ t

      r : (issued_of y).receiver ≡ y.receiver
      r = target.issued_again y (eqb-true _ _ e)

      n : ℕ
      n = (issued_of y).tptt

      h : Header
      h = xfer_rdy_header (y with tptt≔ l.tptt) l.resent

      iu : List ℕ
      iu = xfer_rdy_iu y

      small : h.flags.tlr < 4
      small = omega arith

      whole : frame_of y ≡ encode (again n h) iu
      whole i = sent (r i).transfer n (e i) (r i).base (r i).end

  -- a call hands out y's XFER_RDY, or none, and then transfer and burst stay
  abbrev Turn : Said → List ℕ → Target → Type 0
  Turn a b z = ((frame_in a b ≡ []) × target.Keeps y z) ⊎ ((frame_in a b ≡ frame_of y ∷ []) × (z ≡ issued_of y))

  asks : (out : List ℕ) → let x = next_of y out in Turn x.says (handing x.says (frame_of y) out) x.left
  unfolding next_of hands
  asks out =
      unless_gives Asked (entry_of (holds_of y) y.receiver.ended) y _ (λ n. inl (refl, target.stays y))
      (picked Asked (due_of y) _ _
      (picked Asked (leb (length (frame_of y)) (length out)) (issued_of y saying Said.frame (length (frame_of y))) (y saying Said.refused 3) (inr (ap (λ (f : List ℕ). f ∷ []) (over_front (frame_of y) out), refl)) (inl (refl, target.stays y)))
      (inl (refl, target.stays y)))
    where
      Asked : Left Target → Type 0
      Asked x = Turn x.says (handing x.says (frame_of y) out) x.left

  -- no other call hands one out
  abbrev Quiet : {X : Type 0} → Left X → Type 0
  Quiet x = (b : List ℕ) → frame_in x.says b ≡ []

  retry_quiet : (cause : ℕ) → Quiet (retry_of y cause)
  unfolding retry_of
  retry_quiet cause = picked Quiet (ltb y.retries y.receiver.transfer.limit) _ _ (λ b. refl) (λ b. refl)

  answer_quiet : (x : Left Target) → Quiet x → Quiet (unless (confirms_of y) y x)
  answer_quiet x q = unless_gives Quiet (confirms_of y) y x (λ n b. refl) q

  event_quiet : (x : Left Target) → Quiet x → Quiet (unless (entry_of (holds_of y) y.receiver.ended) y x)
  event_quiet x q = unless_gives Quiet (entry_of (holds_of y) y.receiver.ended) y x (λ n b. refl) q

  arrival_quiet : (f : List ℕ) (m : ℕ) → Quiet (taking.write_arrival_of y f m)
  unfolding arrival_of
  arrival_quiet f m = go (came y f m)
    where
      stored : {offset : ℕ} {cdp : Bool} {n : ℕ} {z : Left Receiver} → receiver.Arrived y.receiver offset cdp n z → Quiet z
      stored (receiver.Arrived.full p) b = refl
      stored (receiver.Arrived.misplaced o p) b = refl
      stored (receiver.Arrived.long o p) b = refl
      stored (receiver.Arrived.empty o p) b = refl
      stored (receiver.Arrived.skipped i s) b = refl
      stored (receiver.Arrived.stored i s) b = picked (λ (a : Said). frame_in a b ≡ []) _ Said.received Said.stored refl refl

      data_quiet : (offset : ℕ) (cdp : Bool) (n : ℕ) → Quiet (arrival_of y.receiver offset cdp n m)
      data_quiet offset cdp n = unless_gives Quiet (entry_of (lent_of y.receiver m) y.receiver.ended) y.receiver _ (λ n b. refl) (stored (receiver.judges y.receiver offset cdp n))

      go : {z : Left Target} → Came y m z → Quiet z
      go (Came.refused n) b = refl
      go (Came.early e) b = refl
      go (Came.taken t offset cdp n) b = data_quiet offset cdp n b

  time_quiet : (ms : ℕ) → Quiet (time_of y ms)
  time_quiet ms = go (timed y ms)
    where
      go : {z : Left Target} → Timed y ms z → Quiet z
      go (Timed.refused n c) b = refl
      go (Timed.outside c) b = refl
      go (Timed.expires l) b = refl
      go (Timed.counts l) b = refl

  turn : (c : TargetCall) (b : List ℕ) → let x = target_call c y b in Turn x.says x.lent x.left
  turn TargetCall.asking b = asks b
  turn (TargetCall.bytes f) b = inl (arrival_quiet f (length b) _, target.arrival_keeps y f (length b))
  turn (TargetCall.signals Signal.ack) b = inl (answer_quiet _ (λ b. refl) b, target.ack_keeps y)
  turn (TargetCall.signals Signal.nak) b = inl (answer_quiet _ (retry_quiet 28) b, target.nak_keeps y)
  turn (TargetCall.signals Signal.timeout) b = inl (answer_quiet _ (retry_quiet 29) b, target.timeout_keeps y)
  turn (TargetCall.signals Signal.cut) b = inl (event_quiet _ (picked Quiet (eqb y.state UNANSWERED) _ _ (retry_quiet 30) (λ b. refl)) b, target.cut_keeps y)
  turn (TargetCall.signals Signal.loss) b = inl (event_quiet _ (λ b. refl) b, target.loss_keeps y)
  turn (TargetCall.time ms) b = inl (time_quiet ms b, target.time_keeps y ms)

  -- what holds of the frames of later calls, by what this one handed out
  turned : (P : List (List ℕ) → Type 0) (c : TargetCall) (b : List ℕ) (later : List (List ℕ)) → let x = target_call c y b in (target.Keeps y x.left → P later) → (x.left ≡ issued_of y → P (frame_of y ∷ later)) → P (frame_in x.says x.lent ++ later)
  turned P c b later none one = go (turn c b)
    where
      go : let x = target_call c y b in Turn x.says x.lent x.left → P (frame_in x.says x.lent ++ later)
      go (inl p) = subst (λ (a : List (List ℕ)). P (a ++ later)) (sym p.0) (none p.1)
      go (inr p) = subst (λ (a : List (List ℕ)). P (a ++ later)) (sym p.0) (one p.1)

  begins : {z : Target} → z ≡ issued_of y → Last z (frame_of y)
  begins e = subst (λ (z : Target). Last z (frame_of y)) (sym e) issued_last

follows : (f : List ℕ) (y : Target) (cs : List (TargetCall × List ℕ)) → Last y f → Repeats f (xfer_rdys_of y cs)
follows f y [] l = tt
follows f y (c ∷ cs) l =
    let z = (target_call c.0 y c.1).left in
    turned y (Repeats f) c.0 c.1 (xfer_rdys_of z cs) (λ k. follows f z cs (last_kept k l)) (λ e. (repeats y f l, follows (frame_of y) z cs (begins y e)))

pub handed_out_again : HandedOutAgain
handed_out_again y [] = tt
handed_out_again y (c ∷ cs) =
    let z = (target_call c.0 y c.1).left in
    turned y InTurn c.0 c.1 (xfer_rdys_of z cs) (λ k. handed_out_again z cs) (λ e. follows (frame_of y) z cs (begins y e))
