-- With no burst waiting, a write's events are the sending port's; and an XFER_RDY that was written for this port is judged as it was written.
use Prim.Native.Nat.{ℕ, ◌-◌, ◌^◌, ◌<◌}
use mathlib.Core.Bool.{Bool, true, false, not, ◌&&◌, false≢true}
use mathlib.Core.List.{List}
use mathlib.Core.Path.{◌≡◌, refl, sym, ap, ◌∙◌}
use lib.Dec.{eqb}
use lib.ListN.{length, take, drop}
use Rattle.status.specs.Entry.{entry_of}
use Rattle.status.specs.Pick.{pick}
use Rattle.status.specs.Answer.{Word, Said, Left, ◌saying◌, refuses, unless}
use Rattle.status.proofs.OpenedCall.{differ, open_entry, two_entry, two_confirmable}
use Rattle.status.proofs.Leaves.{After, refused_same}
use Rattle.frame.specs.Format.{XFER-RDY, encode}
use Rattle.frame.specs.Write.{writable}
use Rattle.frame.specs.RoundTrip.{InRange}
use Rattle.frame.specs.XferRdy.{xfer_rdy_bytes}
use Rattle.frame.specs.declared.types.Header.{Header}
use Rattle.frame.specs.declared.types.XferRdy.{XferRdy}
use Rattle.frame.proofs.RoundTrip.{xfer_rdy_comes_back}
use Rattle.arrival.specs.Accept.{class_of}
use Rattle.arrival.specs.declared.Role.TheVariants.{WriteInitiator}
use Rattle.arrival.specs.declared.Class.{Class}
use Rattle.arrival.proofs.Passed.{written_passes, written_stands}
use Rattle.sender_steps.specs.Record as sender
use Rattle.sender.specs.Transmit as transmit
use Rattle.sender.specs.Confirmation as confirmation
use Rattle.sender_steps.specs.declared.types.Sender.{Sender}
use Rattle.sender_steps.proofs.Held as core
use Rattle.sender.proofs.Ended.{Ended}
use Rattle.initiator.specs.WriteRecord.{holds_of, begins_of, starts_of}
use Rattle.initiator.specs.WriteCount.{takes}
use Rattle.initiator.specs.WriteSend.{lifted_of, reached_of, lent_of, held_up, counted_of, begun_of, kept_of, next_of, confirmed_of, ack_of, nak_of, timeout_of, cut_of, loss_of}
use Rattle.initiator.specs.WriteTake.{asked_of, disposition_of, burst_taken, judged_by, xfer_rdy_taken, write_arrival_of}
use Rattle.initiator.specs.declared.types.XferRdyDisposition.TheVariants.{Next, Repeat}
use Rattle.initiator.specs.declared.types.Writer.{Writer}
use Rattle.initiator.proofs.WriteHeld.{held, lent}
use Rattle.initiator.proofs.WriteFits.{Fits, Taken, taken_fits}
use Rattle.std.specs.Prelude.{Some, Ok, Err}
use Rattle.initiator.specs.WriteTake.{Disposition}

-- ── answers, timeout and cut ──
module _ (w : Writer) (h : holds_of w ≡ true) (p : w.pending ≡ false) where
  -- an ended record answers 2 at either
  same : (step : Left Sender) (n : ℕ) → (w.sender.ended ≡ true → step ≡ (w.sender saying Said.refused 2)) → confirmed_of w step n ≡ lifted_of w step
  unfolding confirmed_of entry_of pick
  same step n f = go w.sender.ended refl
    where
      free : held_up w ≡ false
      free = ap (λ (b : Bool). b && not (eqb w.sender.unanswered 0)) p

      go : (e : Bool) → w.sender.ended ≡ e → unless (entry_of (holds_of w) e) w (pick (held_up w) (counted_of w n) (lifted_of w step)) ≡ lifted_of w step
      go true e = rw h (sym (ap (lifted_of w) (f e)))
      go false e = rw (h, free) refl

  core_holds : sender.holds_of w.sender ≡ true
  core_holds = (held w h).holds

  pub ack_is : ack_of w ≡ lifted_of w (confirmation.ack_of w.sender)
  unfolding confirmation.confirms_of
  ack_is = same (confirmation.ack_of w.sender) (w.sender.unanswered - 1) (λ e. two_confirmable _ _ _ _ _ core_holds e)

  pub nak_is : nak_of w ≡ lifted_of w (confirmation.nak_of w.sender)
  unfolding confirmation.confirms_of
  nak_is = same (confirmation.nak_of w.sender) (w.sender.unanswered - 1) (λ e. two_confirmable _ _ _ _ _ core_holds e)

  pub timeout_is : timeout_of w ≡ lifted_of w (confirmation.timeout_of w.sender)
  unfolding confirmation.confirms_of
  timeout_is = same (confirmation.timeout_of w.sender) 0 (λ e. two_confirmable _ _ _ _ _ core_holds e)

  pub cut_is : cut_of w ≡ lifted_of w (confirmation.cut_of w.sender)
  cut_is = same (confirmation.cut_of w.sender) 0 (λ e. two_entry _ _ _ _ core_holds e)

-- the nexus loss, a burst waiting or not
pub loss_is : (w : Writer) → holds_of w ≡ true → loss_of w ≡ lifted_of w (confirmation.loss_of w.sender)
unfolding entry_of pick
loss_is w h = go w.sender.ended refl
  where
    two : w.sender.ended ≡ true → confirmation.loss_of w.sender ≡ (w.sender saying Said.refused 2)
    two e = two_entry _ _ _ _ (held w h).holds e

    go : (e : Bool) → w.sender.ended ≡ e → unless (entry_of (holds_of w) e) w (lifted_of w (confirmation.loss_of w.sender)) ≡ lifted_of w (confirmation.loss_of w.sender)
    go true e = rw h (sym (ap (lifted_of w) (two e)))
    go false e = rw h refl

-- ── a frame asked for ──
next_two : (s : Sender) (d out : List ℕ) → sender.lent_of s (length d) ≡ true → s.ended ≡ true → transmit.next_of s d out ≡ (s saying Said.refused 2)
unfolding transmit.next_of
next_two s d out l e = two_entry _ _ _ _ l e

pub begun_same : (w : Writer) → w.pending ≡ false → begun_of w ≡ w
unfolding begun_of pick
begun_same w p = ap (λ (b : Bool). pick b (starts_of w) w) p

pub next_is : (w : Writer) (d out : List ℕ) → lent_of w (length d) ≡ true → w.pending ≡ false → next_of w d out ≡ kept_of w (reached_of w (transmit.next_of w.sender d out))
unfolding next_of entry_of pick
next_is w d out l p = go w.sender.ended refl
  where
    free : held_up w ≡ false
    free = ap (λ (b : Bool). b && not (eqb w.sender.unanswered 0)) p

    two : w.sender.ended ≡ true → transmit.next_of w.sender d out ≡ (w.sender saying Said.refused 2)
    two e = let h = lent w (length d) l in next_two w.sender d out (core.lent_again w.sender (length d) (held w h.0).holds h.1) e

    go : (e : Bool) → w.sender.ended ≡ e → unless (entry_of (lent_of w (length d)) e) w (pick (held_up w) (w saying Said.word Word.wait) (kept_of w (reached_of (begun_of w) (transmit.next_of (begun_of w).sender d out)))) ≡ kept_of w (reached_of w (transmit.next_of w.sender d out))
    go true e = rw l (ap (λ (y : Left Sender). kept_of w (reached_of w y)) (sym (two e)))
    go false e = rw (l, free, begun_same w p) refl

-- the sending record that it leaves, and the rest of a write's
pub kept_sender : (w : Writer) (y : Left Sender) → After Ended y.says w.sender y.left → (kept_of w (reached_of w y)).left.sender ≡ y.left
unfolding pick
kept_sender w y a = go (refuses y.says) refl
  where
    go : (t : Bool) → refuses y.says ≡ t → (pick t (w saying y.says) (reached_of w y)).left.sender ≡ y.left
    go true e = sym (refused_same Ended w.sender y a e)
    go false e = refl

-- ── an XFER_RDY ──
xfer_rdy_class : (frametype : ℕ) → frametype ≡ XFER-RDY → class_of WriteInitiator frametype ≡ Some Class.XferRdy
unfolding class_of pick
xfer_rdy_class frametype e = rw e

xfer_rdy_size : (x : XferRdy) → length (xfer_rdy_bytes x) ≡ 12
unfolding xfer_rdy_bytes
xfer_rdy_size x = refl

-- the frame of the XFER_RDY x under the header h
pub record Asks (w : Writer) (h : Header) (x : XferRdy) : Type 0 where
  pub frametype : h.frametype ≡ XFER-RDY
  pub dest : h.dest ≡ w.sender.transfer.local
  pub source : h.source ≡ w.sender.transfer.remote
  pub tag : h.tag ≡ w.sender.transfer.tag
  pub range : InRange h
  pub writes : writable h 12 ≡ true
  pub offset : x.offset < 2 ^ 32
  pub len : x.len < 2 ^ 32

module _ (w : Writer) (h : Header) (x : XferRdy) (e : holds_of w ≡ true) (n : w.sender.ended ≡ false) (a : Asks w h x) where
  pub xfer_rdy_arrives : write_arrival_of w (encode h (xfer_rdy_bytes x)) ≡ judged_by (disposition_of w x h.flags.retransmit) w h x
  unfolding write_arrival_of xfer_rdy_taken
  xfer_rdy_arrives =
      let iu = xfer_rdy_bytes x in
      let t : writable h (length iu) ≡ true = rw (xfer_rdy_size x) a.writes in
      let s = written_stands h iu a.range t in
      let p : take (length iu) (drop 24 (encode h iu)) ≡ iu = rw s.1 at s.2 in
      rw (open_entry _ _ e n, written_passes w.sender.transfer WriteInitiator h iu Class.XferRdy (xfer_rdy_class h.frametype a.frametype) a.dest a.source a.tag a.range t, p, xfer_rdy_comes_back x a.offset a.len)

  -- one that is taken
  took : (v : Disposition) → takes (judged_by v w h x).says ≡ true → Taken v
  took (Ok d) t = (d, refl)
  took (Err why) t = absurd (false≢true t)

  starts : w.sender.unanswered ≡ 0 → (v : Disposition) → Taken v → (judged_by v w h x).left ≡ begins_of w.sender.transfer (asked_of w h x)
  unfolding burst_taken pick
  starts z (Ok Next) t = rw z
  starts z (Ok Repeat) t = rw z
  starts z (Err why) (d, e) = differ (cc)

  module _ (t : takes (write_arrival_of w (encode h (xfer_rdy_bytes x))).says ≡ true) where
    disposition_taken : Taken (disposition_of w x h.flags.retransmit)
    disposition_taken = took (disposition_of w x h.flags.retransmit) (rw xfer_rdy_arrives at t)

    pub xfer_rdy_fits : Fits w x
    xfer_rdy_fits = taken_fits w x h.flags.retransmit disposition_taken

    pub xfer_rdy_starts : w.sender.unanswered ≡ 0 → (write_arrival_of w (encode h (xfer_rdy_bytes x))).left ≡ begins_of w.sender.transfer (asked_of w h x)
    xfer_rdy_starts z = ap (λ (y : Left Writer). y.left) xfer_rdy_arrives ∙ starts z (disposition_of w x h.flags.retransmit) disposition_taken
