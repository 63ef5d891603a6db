-- The burst taken last stays the previous one until an XFER_RDY is taken, and an XFER_RDY for the same bytes with RETRANSMIT one is then taken: never 25.
use Prim.Native.Nat.{ℕ, ◌+◌, ◌≤◌, ◌<◌}
use mathlib.Core.Bool.{Bool, true, false, ◌&&◌, ◌||◌, false≢true}
use mathlib.Core.List.{List, []}
use mathlib.Core.Path.{◌≡◌, refl, sym, ap, subst}
use native.Mathlib.Omega.{arith}
use lib.Dec.{eqb, ltb}
use lib.ListN.{length}
use borrow.Author.Tests.{eqb-true, eq-eqb, ne_eqb, lt-ltb, le-ltb}
use Rattle.status.specs.Entry.{entry_of}
use Rattle.status.specs.Pick.{pick, ◌with◌}
use Rattle.status.specs.Answer.{Taking, Said, Left, ◌saying◌, refuses, unless}
use Rattle.status.specs.Result.{Result}
use Rattle.status.specs.declared.words.Failure.TheVariants.{XferRdyIncorrectWriteDataLength, XferRdyNotExpected, XferRdyRequestedOffsetError}
use Rattle.status.proofs.Choose.{and_true}
use Rattle.status.proofs.OpenedCall.{differ}
use Rattle.status.proofs.Leaves.{picked}
use Rattle.frame.specs.Read.{header_in, iu_of, iu_length}
use Rattle.frame.specs.XferRdy.{xfer_rdy_of}
use Rattle.frame.specs.Response.{response_iu_of}
use Rattle.status.specs.declared.answer.Opened.{Opened}
use Rattle.frame.specs.declared.types.XferRdy.{XferRdy}
use Rattle.arrival.specs.Accept.{accept_of}
use Rattle.arrival.specs.declared.Role.TheVariants.{WriteInitiator}
use Rattle.arrival.specs.declared.Class.{Class}
use Rattle.arrival.specs.declared.Arrived.{Arrived}
use Rattle.arrival.proofs.Passed.{arrived_in, passed}
use Rattle.sender_steps.specs.Fields.{unanswered≔}
use Rattle.sender.specs.Transmit as transmit
use Rattle.sender_steps.specs.Confirmation as confirmation
use Rattle.sender_steps.specs.declared.types.Sender.{Sender}
use Rattle.sender_steps.proofs.Held as core
use Rattle.sender.proofs.Shape.{Shape, next_shape, ack_shape, nak_shape, timeout_shape, cut_shape, loss_shape}
use Rattle.initiator.specs.Fields.{sender≔, pending≔, taken≔}
use Rattle.initiator.specs.WriteRecord.{holds_of, begins_of, starts_of}
use Rattle.initiator.specs.WriteCount.{takes}
use Rattle.initiator.specs.WriteSend.{lifted_of, reached_of, lent_of, held_up, begun_of, kept_of, next_of, counted_of, confirmed_of, ack_of, nak_of, timeout_of, cut_of, loss_of}
use Rattle.initiator.specs.WriteTake.{previous, all_handed, fits_of, repeat_of, disposition_of, asked_of, reported_of, next_taken, burst_taken, judged_by, sized_by, xfer_rdy_taken, opened_by, response_of, taken_of, arrived_by, write_arrival_of}
use Rattle.initiator.specs.declared.types.XferRdyDisposition.TheVariants.{Next, Repeat}
use Rattle.initiator.specs.declared.types.Writer.{Writer}
use Rattle.initiator.proofs.WriteHeld.{held, lent}
use Rattle.initiator.proofs.WriteFits.{Fits, taken_fits}
use Rattle.initiator.proofs.WriteKept.{starts_well}
use Rattle.initiator.proofs.WriteViews.{Takes, Came, came}
use Rattle.initiator.proofs.WriteCounts.{waits_pending}
use Rattle.std.specs.Prelude.{Ok, Err}
use Rattle.initiator.specs.WriteTake.{Disposition}

-- transfer and previous burst stay
pub record Keeps (w v : Writer) : Type 0 where
  pub transfer : v.sender.transfer ≡ w.sender.transfer
  pub burst : previous v ≡ previous w

-- what holds of each refusal, and of what a well-formed record does else
opens : (P : Left Writer → Type 0) (ok ended : Bool) (w : Writer) (z : Left Writer) → ((n : ℕ) → P (w saying Said.refused n)) → (ok ≡ true → P z) → P (unless (entry_of ok ended) w z)
unfolding entry_of pick
opens P true false w z f p = p refl
opens P true true w z f p = f 2
opens P false ended w z f p = f 1

-- ── calls that take no XFER_RDY ──
module _ (w : Writer) where
  abbrev Stays : Left Writer → Type 0
  Stays x = Keeps w x.left

  stays : Keeps w w
  stays = record { transfer = refl; burst = refl }

  -- a burst that is pending and starts
  starts : w.pending ≡ true → Keeps w (starts_of w)
  unfolding pick
  starts p = record { transfer = refl; burst = rw p refl }

  served : (s : Sender) → s.transfer ≡ w.sender.transfer → s.burst ≡ w.sender.burst → Keeps w (w with sender≔ s)
  served s t b = record { transfer = t; burst = ap (pick w.pending w.taken) b }

  counted : held_up w ≡ true → (n : ℕ) → Stays (counted_of w n)
  unfolding counted_of
  counted h n = picked (Keeps w) (eqb n 0) _ _ (starts (waits_pending w [] h)) (served (w.sender with unanswered≔ n) refl refl)

  answered : (x : Left Sender) (n : ℕ) → (core.Held w.sender → Shape w.sender w.sender.next x) → Stays (confirmed_of w x n)
  unfolding confirmed_of pick
  answered x n f = opens Stays (holds_of w) w.sender.ended w _ (λ n. stays) (λ h. go (held_up w) refl (f (held w h).core))
    where
      go : (t : Bool) → held_up w ≡ t → Shape w.sender w.sender.next x → Stays (pick t (counted_of w n) (lifted_of w x))
      go true e s = counted e n
      go false e s = served x.left s.transfer s.burst

  pub ack_keeps : Keeps w (ack_of w).left
  ack_keeps = answered _ _ (ack_shape w.sender)

  pub nak_keeps : Keeps w (nak_of w).left
  nak_keeps = answered _ _ (nak_shape w.sender)

  pub timeout_keeps : Keeps w (timeout_of w).left
  timeout_keeps = answered _ _ (timeout_shape w.sender)

  pub cut_keeps : Keeps w (cut_of w).left
  cut_keeps = answered _ _ (cut_shape w.sender)

  pub loss_keeps : Keeps w (loss_of w).left
  loss_keeps = opens Stays (holds_of w) w.sender.ended w _ (λ n. stays) (λ h. let s = loss_shape w.sender (held w h).core in served _ s.transfer s.burst)

  pub next_keeps : (d out : List ℕ) → Keeps w (next_of w d out).left
  unfolding next_of begun_of pick
  next_keeps d out = opens Stays (lent_of w (length d)) w.sender.ended w _ (λ n. stays) (λ l. picked Stays (held_up w) _ _ stays (go w.pending refl (lent w (length d) l).0))
    where
      go : (p : Bool) → w.pending ≡ p → holds_of w ≡ true → let v = pick p (starts_of w) w in Stays (kept_of w (reached_of v (transmit.next_of v.sender d out)))
      go true e h =
          let s = next_shape (starts_of w).sender (held _ (starts_well w h)).core d out in
          picked Stays (refuses (transmit.next_of (starts_of w).sender d out).says) _ _ stays (record { transfer = s.transfer; burst = rw e s.burst })
      go false e h =
          let s = next_shape w.sender (held w h).core d out in
          picked Stays (refuses (transmit.next_of w.sender d out).says) _ _ stays (record { transfer = s.transfer; burst = ap (pick w.pending w.taken) s.burst })

  pub arrival_keeps : (f : List ℕ) → takes (write_arrival_of w f).says ≡ false → Keeps w (write_arrival_of w f).left
  unfolding burst_taken
  arrival_keeps f = go (came w f)
    where
      taken : {a : Said} {v : Writer} → Takes w a → takes a ≡ false → Keeps w v
      taken Takes.next e = absurd (false≢true (sym e))
      taken Takes.delivers e = absurd (false≢true (sym e))
      taken Takes.repeats e = absurd (false≢true (sym e))

      go : {x : Left Writer} → Came w x → takes x.says ≡ false → Stays x
      go (Came.refused n) e = stays
      go (Came.failed n) e = served (confirmation.ended_of w.sender) refl refl
      go (Came.taken h x i t) e = taken t e
      go (Came.answered start len l) e = served (confirmation.ended_of w.sender) refl refl

-- ── an XFER_RDY that was taken ──
-- for the bytes of the previous burst
pub record For (w : Writer) (x : XferRdy) : Type 0 where
  pub base : x.offset ≡ (previous w).base
  pub end : x.offset + x.len ≡ (previous w).end

-- a disposition of Repeat is for those
repeat_for : (w : Writer) (x : XferRdy) (retransmit : Bool) → disposition_of w x retransmit ≡ (Ok Repeat) → For w x
unfolding disposition_of repeat_of fits_of pick
repeat_for w x retransmit e = go (retransmit && eqb x.offset (previous w).base && ltb (previous w).base (previous w).end) (eqb x.offset (previous w).end) (all_handed w) refl e
  where
    next : (t : Bool) → pick t (Err XferRdyIncorrectWriteDataLength) (Ok Next) ≡ (Ok Repeat) → ⊥
    next true e = differ (cc)
    next false e = differ (cc)

    same : (t : Bool) → eqb ((previous w).base + x.len) (previous w).end ≡ t → pick t (fits_of w x (Ok Repeat)) (Err XferRdyIncorrectWriteDataLength) ≡ (Ok Repeat) → (previous w).base + x.len ≡ (previous w).end
    same true p e = eqb-true _ _ p
    same false p e = differ (cc)

    go : (t u v : Bool) → (retransmit && eqb x.offset (previous w).base && ltb (previous w).base (previous w).end) ≡ t → pick t (repeat_of w x) (pick u (pick v (fits_of w x (Ok Next)) (Err XferRdyNotExpected)) (Err XferRdyRequestedOffsetError)) ≡ (Ok Repeat) → For w x
    go true u v p e =
        let b = eqb-true x.offset (previous w).base (and_true retransmit _ (and_true (retransmit && eqb x.offset (previous w).base) _ p).0).1 in
        let l = same (eqb ((previous w).base + x.len) (previous w).end) refl e in
        record { base = b; end = omega arith }
    go false true true p e = absurd (next (eqb x.len 0 || ltb w.sender.transfer.count (x.offset + x.len)) e)
    go false true false p e = differ (cc)
    go false false v p e = differ (cc)

not_repeats : (w : Writer) → next_taken w ≡ Said.xfer_rdy Taking.repeats → ⊥
unfolding next_taken pick
not_repeats w = go (reported_of w)
  where
    go : (t : Bool) → Said.xfer_rdy (pick t Taking.next (Taking.delivers w.sender.frames)) ≡ Said.xfer_rdy Taking.repeats → ⊥
    go true e = differ (cc)
    go false e = differ (cc)

-- what the bytes f ask for, and the record that they leave
pub record Took (w : Writer) (f : List ℕ) (z : Left Writer) : Type 0 where
  pub asked : XferRdy
  pub accepted : accept_of WriteInitiator w.sender.transfer f ≡ Result.value (arrived_in Class.XferRdy f)
  pub reads : xfer_rdy_of (iu_of f) ≡ Result.value asked
  pub fits : Fits w asked
  pub repeat : z.says ≡ Said.xfer_rdy Taking.repeats → For w asked
  pub burst : previous z.left ≡ asked_of w (header_in f) asked
  pub transfer : z.left.sender.transfer ≡ w.sender.transfer

module _ (w : Writer) (f : List ℕ) where
  abbrev Finds : Left Writer → Type 0
  Finds z = takes z.says ≡ true → Took w f z

  module _ (p : accept_of WriteInitiator w.sender.transfer f ≡ Result.value (arrived_in Class.XferRdy f)) where
    took_burst : (x : XferRdy) → xfer_rdy_of (iu_of f) ≡ Result.value x → Fits w x → (a : Said) → (a ≡ Said.xfer_rdy Taking.repeats → For w x) → Took w f (burst_taken w (asked_of w (header_in f) x) a)
    unfolding burst_taken pick
    took_burst x r i a q =
        let b = asked_of w (header_in f) x in
        let s = picked (λ (v : Writer). (previous v ≡ b) × (v.sender.transfer ≡ w.sender.transfer)) (eqb w.sender.unanswered 0) (begins_of w.sender.transfer b) (w with pending≔ true with taken≔ b) (refl, refl) (refl, refl) in
        record { asked = x; accepted = p; reads = r; fits = i; repeat = q; burst = s.0; transfer = s.1 }

    took_xfer_rdy : Finds (xfer_rdy_taken w (header_in f) (iu_of f))
    unfolding xfer_rdy_taken
    took_xfer_rdy = sized (xfer_rdy_of (iu_of f)) refl
      where
        judged : (x : XferRdy) → xfer_rdy_of (iu_of f) ≡ Result.value x → (v : Disposition) → disposition_of w x (header_in f).flags.retransmit ≡ v → Finds (judged_by v w (header_in f) x)
        judged x r (Ok Next) e t = took_burst x r (taken_fits w x (header_in f).flags.retransmit (Next, e)) (next_taken w) (λ q. absurd (not_repeats w q))
        judged x r (Ok Repeat) e t = took_burst x r (taken_fits w x (header_in f).flags.retransmit (Repeat, e)) (Said.xfer_rdy Taking.repeats) (λ q. repeat_for w x (header_in f).flags.retransmit e)
        judged x r (Err why) e t = absurd (false≢true t)

        sized : (y : Result XferRdy) → xfer_rdy_of (iu_of f) ≡ y → Finds (sized_by y w (header_in f))
        sized (Result.number n) r t = absurd (false≢true t)
        sized (Result.value x) r t = judged x r (disposition_of w x (header_in f).flags.retransmit) refl t

  opened : (y : Result Opened) → Finds (opened_by y w 24 (iu_length f))
  opened (Result.number n) t = absurd (false≢true t)
  opened (Result.value o) t = absurd (false≢true t)

  by_class : (k : Class) → accept_of WriteInitiator w.sender.transfer f ≡ Result.value (arrived_in k f) → Finds (taken_of k w (arrived_in k f) f)
  unfolding response_of
  by_class Class.XferRdy p t = took_xfer_rdy p t
  by_class Class.Response p t = opened (response_iu_of (iu_of f)) t
  by_class Class.Data p t = absurd (false≢true t)

  pub took : takes (write_arrival_of w f).says ≡ true → Took w f (write_arrival_of w f)
  unfolding write_arrival_of
  took = opens Finds (holds_of w) w.sender.ended w _ (λ n t. absurd (false≢true t)) (λ h. go (accept_of WriteInitiator w.sender.transfer f) refl)
    where
      go : (x : Result Arrived) → accept_of WriteInitiator w.sender.transfer f ≡ x → Finds (arrived_by x w f)
      go (Result.number n) q t = absurd (false≢true t)
      go (Result.value a) q t =
          let i = (passed w.sender.transfer WriteInitiator f a q).is in
          subst (λ (b : Arrived). accept_of WriteInitiator w.sender.transfer f ≡ Result.value b → Finds (taken_of b.class w b f)) i (by_class a.class) q t

-- ── an XFER_RDY that repeats the previous burst ──
module _ (v : Writer) (x : XferRdy) (base : (previous v).base ≡ x.offset) (end : (previous v).end ≡ x.offset + x.len) (some : 0 < x.len) (most : x.offset + x.len ≤ v.sender.transfer.count) where
  repeats : disposition_of v x true ≡ (Ok Repeat)
  unfolding disposition_of repeat_of fits_of pick
  repeats = rw (eq-eqb x.offset (previous v).base (sym base), lt-ltb (previous v).base (previous v).end (omega arith), eq-eqb ((previous v).base + x.len) (previous v).end (omega arith), ne_eqb x.len 0 (λ e. omega arith), le-ltb v.sender.transfer.count (x.offset + x.len) most)

  -- it arrives as the frame g: 1, 2, else taken
  pub repeat_taken : (g : List ℕ) → accept_of WriteInitiator v.sender.transfer g ≡ Result.value (arrived_in Class.XferRdy g) → (header_in g).flags.retransmit ≡ true → xfer_rdy_of (iu_of g) ≡ Result.value x → write_arrival_of v g ≡ unless (entry_of (holds_of v) v.sender.ended) v (burst_taken v (asked_of v (header_in g) x) (Said.xfer_rdy Taking.repeats))
  unfolding write_arrival_of xfer_rdy_taken
  repeat_taken g p t r = rw (p, r, t, repeats)
