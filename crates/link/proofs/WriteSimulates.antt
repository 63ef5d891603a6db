-- The ports of a write burst move as the two cores do, while no further XFER_RDY is taken.
use Prim.Native.Nat.{ℕ, max, ◌≤◌}
use mathlib.Core.List.{List}
use mathlib.Core.Bool.{true, false, false≢true}
use mathlib.Core.Logic.{◌⊎◌, inl, inr, ⊎_elim}
use mathlib.Core.Path.{◌≡◌, refl, sym, ap, subst, ◌∙◌}
use native.Mathlib.Omega.{arith}
use lib.ListN.{length}
use Rattle.status.specs.Pick.{◌with◌}
use Rattle.status.specs.Answer.{Said, Left, ◌saying◌, refuses, fails}
use Rattle.status.proofs.Leaves.{Leaves, refusing, refused_same, refused_stores, picked}
use Rattle.transfer.specs.declared.Transfer.{Transfer}
use Rattle.frame.specs.Format.{encode}
use Rattle.frame.specs.Read.{header_in, iu_of}
use Rattle.frame.specs.Write.{writable, handing}
use Rattle.frame.specs.declared.types.Header.{Header}
use Rattle.sender_steps.specs.Record as sender
use Rattle.sender.specs.Transmit as transmit
use Rattle.sender_steps.specs.Record.{lent_of}
use Rattle.sender_steps.specs.Transmit as transmit-step
use Rattle.sender_steps.specs.Confirmation as confirmation
use Rattle.sender_steps.specs.declared.types.Burst.{Burst}
use Rattle.sender_steps.specs.declared.types.Sender.{Sender}
use Rattle.sender_steps.proofs.Held as sender-held
use Rattle.sender.proofs.Ended as sender-ended
use Rattle.sender.proofs.Shape.{Shape, next_shape}
use Rattle.receiver_steps.specs.DataFrame.{storing}
use Rattle.receiver.specs.DataFrame.{arrival_of}
use Rattle.receiver_steps.specs.Record as receiving
use Rattle.receiver_steps.specs.declared.types.Receiver.{Receiver}
use Rattle.receiver_steps.proofs.Held as receiver-held
use Rattle.receiver_steps.proofs.Buffer.{storing_none}
use Rattle.initiator.specs.Fields.{sender≔, reached≔}
use Rattle.initiator.specs.WriteRecord.{holds_of}
use Rattle.initiator.specs.WriteSend.{begun_of, kept_of, next_of, lifted_of, reached_of}
use Rattle.initiator.specs.WriteTake.{write_arrival_of, ended_of}
use Rattle.initiator.specs.declared.types.Writer.{Writer}
use Rattle.initiator.proofs.WriteHeld.{Marks, holds_again, lent_again}
use Rattle.initiator.proofs.WriteReturns.{kept_says}
use Rattle.initiator.proofs.WriteSame.{begun_same, next_is, kept_sender, ack_is, nak_is, timeout_is, cut_is, loss_is}
use Rattle.initiator.proofs.WriteEnded as writer-ended
use Rattle.initiator.proofs.WriteViews.{response_came}
use Rattle.target.specs.Record.{READY}
use Rattle.target.specs.Record as target
use Rattle.target.specs.Transmit as issue
use Rattle.target.specs.Arrival as arrival
use Rattle.target.specs.Time.{time_of}
use Rattle.target.specs.declared.types.Target.{Target}
use Rattle.target.proofs.Held as target-held
use Rattle.target.proofs.Views.{data_arrives, data_placed, lifts_to}
use Rattle.target.proofs.Kept.{arrived_lent, response_stores_nothing, time_kept}
use Rattle.target.proofs.Timed.{Timed, timed}
use Rattle.target.proofs.Ended as target-ended
use Rattle.link.specs.Ports.{Signal}
use Rattle.link.specs.Calls.{signalled, write_signalled, target_signalled, TargetCall, target_call}
use Rattle.link.specs.Reading.{IsResponse}
use Rattle.link.specs.Writing.{TargetLate, TargetTimes, write_ports}
use Rattle.link.proofs.Others.{Steady}
use Rattle.link.proofs.Quiet.{write_quiet}
use Rattle.link.proofs.Simulates.{Addressed, Simulates, signal_shape}

-- ── the initiator ──
-- no burst waits to start, and what the record has beside the sending port's is in order
pub record Ready (w : Writer) : Type 0 where
  pub idle : w.pending ≡ false
  pub write : w.sender.transfer.write ≡ true
  pub marks : Marks w

pub record WritesAs (w : Writer) (s : Sender) : Type 0 where
  pub sender : w.sender ≡ s
  pub ready : Ready w

module _ (w : Writer) (q : Ready w) (h : sender.holds_of w.sender ≡ true) where
  whole : holds_of w ≡ true
  whole = holds_again w h q.write q.marks

  core_held : sender-held.Held w.sender
  core_held = sender-held.held w.sender h

  -- a sending record of the same transfer and burst, with the furthest offset v
  keeps : (s : Sender) (v : ℕ) → s.transfer ≡ w.sender.transfer → s.burst ≡ w.sender.burst → s.next ≤ v → v ≤ w.sender.burst.end → Ready (w with sender≔ s with reached≔ v)
  keeps s v t b least most =
      let m = q.marks in
      let c : s.transfer.count ≡ w.sender.transfer.count = ap (λ (x : Transfer). x.count) t in
      let l : s.transfer.limit ≡ w.sender.transfer.limit = ap (λ (x : Transfer). x.limit) t in
      let e : s.burst.end ≡ w.sender.burst.end = ap (λ (x : Burst). x.end) b in
      record {
        idle = q.idle;
        write = ap (λ (x : Transfer). x.write) t ∙ q.write;
        marks = omega (arith, m.base_most, m.end_most, m.limit_most);
      }

  ready_next : (d out : List ℕ) → Ready (kept_of w (reached_of w (transmit.next_of w.sender d out))).left
  ready_next d out =
      let p = next_shape w.sender core_held d out in
      let m = q.marks in
      let x = transmit.next_of w.sender d out in
      picked (λ (y : Left Writer). Ready y.left) (refuses x.says) (w saying x.says) (reached_of w x) q
      (keeps x.left (max w.reached x.left.next) p.transfer p.burst (omega arith) (omega (arith, p.next, m.reached_most)))

  ready_signal : (x : Left Sender) → Shape w.sender w.sender.next x → Ready (lifted_of w x).left
  ready_signal x p = let m = q.marks in keeps x.left w.reached p.transfer p.burst (omega (arith, p.next, m.reached_least)) m.reached_most

signal_is : (g : Signal) (w : Writer) → holds_of w ≡ true → w.pending ≡ false → write_signalled g w ≡ lifted_of w (signalled g w.sender)
signal_is Signal.ack w h p = ack_is w h p
signal_is Signal.nak w h p = nak_is w h p
signal_is Signal.timeout w h p = timeout_is w h p
signal_is Signal.cut w h p = cut_is w h p
signal_is Signal.loss w h p = loss_is w h

writes_ask : (w : Writer) (s : Sender) (d out : List ℕ) → WritesAs w s → lent_of s (length d) ≡ true →
    WritesAs (next_of w d out).left (transmit.next_of s d out).left × ((next_of w d out).says ≡ (transmit.next_of s d out).says) ×
    (handing (next_of w d out).says (transmit-step.frame_of (begun_of w).sender d) out ≡ handing (transmit.next_of s d out).says (transmit-step.frame_of s d) out)
writes_ask w s d out a l =
    let e = a.sender in
    let l' : lent_of w.sender (length d) ≡ true = subst (λ (v : Sender). lent_of v (length d) ≡ true) (sym e) l in
    let c = sender-held.lent_holds w.sender (length d) l' in
    let r = a.ready in
    let x = transmit.next_of w.sender d out in
    let q = next_is w d out (lent_again w (length d) (whole w r c.0) c.1) r.idle in
    let said : (next_of w d out).says ≡ (transmit.next_of s d out).says = ap (λ (z : Left Writer). z.says) q ∙ kept_says w (reached_of w x) ∙ ap (λ (v : Sender). (transmit.next_of v d out).says) e in
    let frame : transmit-step.frame_of (begun_of w).sender d ≡ transmit-step.frame_of s d = ap (λ (v : Writer). transmit-step.frame_of v.sender d) (begun_same w r.idle) ∙ ap (λ (v : Sender). transmit-step.frame_of v d) e in (
      record {
        sender = ap (λ (z : Left Writer). z.left.sender) q ∙ kept_sender w x (sender-ended.next_leaves w.sender d out) ∙ ap (λ (v : Sender). (transmit.next_of v d out).left) e;
        ready = subst (λ (z : Left Writer). Ready z.left) (sym q) (ready_next w r c.0 d out);
      },
      said,
      λ i. handing (said i) (frame i) out,
    )

writes_signal : (g : Signal) (w : Writer) (s : Sender) → WritesAs w s → sender.holds_of s ≡ true → WritesAs (write_signalled g w).left (signalled g s).left × ((write_signalled g w).says ≡ (signalled g s).says)
writes_signal g w s a h =
    let e = a.sender in
    let h' : sender.holds_of w.sender ≡ true = subst (λ (v : Sender). sender.holds_of v ≡ true) (sym e) h in
    let r = a.ready in
    let q = signal_is g w (whole w r h') r.idle in (
      record {
        sender = ap (λ (z : Left Writer). z.left.sender) q ∙ ap (λ (v : Sender). (signalled g v).left) e;
        ready = subst (λ (z : Left Writer). Ready z.left) (sym q) (ready_signal w r h' (signalled g w.sender) (signal_shape g w.sender (sender-held.held w.sender h')));
      },
      ap (λ (z : Left Writer). z.says) q ∙ ap (λ (v : Sender). (signalled g v).says) e,
    )

-- a RESPONSE leaves the record or ends it
writes_late : (f : List ℕ) → IsResponse f → (w : Writer) (s : Sender) → WritesAs w s → sender.holds_of s ≡ true → WritesAs (write_arrival_of w f).left s ⊎ WritesAs (write_arrival_of w f).left (confirmation.ended_of s)
writes_late f l w s a h = ⊎_elim (λ e. inl (subst (λ (v : Writer). WritesAs v s) (sym e) a)) (λ e. inr (subst (λ (v : Writer). WritesAs v (confirmation.ended_of s)) (sym e) ends)) (response_came w f l)
  where
    ends : WritesAs (ended_of w) (confirmation.ended_of s)
    ends =
        let h' : sender.holds_of w.sender ≡ true = subst (λ (v : Sender). sender.holds_of v ≡ true) (sym a.sender) h in
        let m = a.ready.marks in
        record { sender = ap confirmation.ended_of a.sender; ready = keeps w a.ready h' (confirmation.ended_of w.sender) w.reached refl refl m.reached_least m.reached_most }

-- ── the target ──
-- the XFER_RDY under this tag had its ACK
pub record TakesAs (tptt : ℕ) (y : Target) (r : Receiver) : Type 0 where
  pub receiver : y.receiver ≡ r
  pub ready : y.state ≡ READY
  pub current : y.tptt ≡ tptt
  pub holds : target.holds_of y ≡ true

module _ (tptt : ℕ) (y : Target) (h : Header) (iu b : List ℕ) (a : TakesAs tptt y y.receiver) (l : receiving.lent_of y.receiver (length b) ≡ true) (o : y.receiver.ended ≡ false) (d : Addressed tptt h y.receiver) (c : writable h (length iu) ≡ true) where
  lent : arrival.lent_of y (length b) ≡ true
  lent = target-held.lent_again y (length b) a.holds (receiver-held.write_size _ _ (target-held.held y a.holds).write (receiver-held.lent y.receiver (length b) l).long)

  abbrev core : Left Receiver
  core = arrival_of y.receiver h.offset h.flags.cdp (length iu) (length b)

  arrives : arrival.write_arrival_of y (encode h iu) (length b) ≡ arrival.lifted_of y core
  arrives = data_arrives y h iu (length b) lent o a.ready d.frametype d.dest d.source d.tag (d.tptt ∙ sym a.current) d.range c

  takes_arrival : TakesAs tptt (arrival.write_arrival_of y (encode h iu) (length b)).left core.left ×
      (storing (arrival.write_arrival_of y (encode h iu) (length b)).says (header_in (encode h iu)).offset (iu_of (encode h iu)) b ≡ storing core.says h.offset iu b)
  takes_arrival =
      let s = lifts_to y core in
      let p = data_placed h iu d.range c in (
        record {
          receiver = ap (λ (v : Left Target). v.left.receiver) arrives ∙ s.receiver;
          ready = ap (λ (v : Left Target). v.left.state) arrives ∙ s.state ∙ a.ready;
          current = ap (λ (v : Left Target). v.left.tptt) arrives ∙ s.tptt ∙ a.current;
          holds = (target-held.lent _ _ (arrived_lent y (encode h iu) (length b) lent)).holds;
        },
        λ i. storing (arrives i).says (p.0 i) (p.1 i) b,
      )

-- ── a refusal changes nothing ──
signal_leaves : (g : Signal) (w : Writer) → Leaves writer-ended.Ended w (write_signalled g w)
signal_leaves Signal.ack w = writer-ended.ack_leaves w
signal_leaves Signal.nak w = writer-ended.nak_leaves w
signal_leaves Signal.timeout w = writer-ended.timeout_leaves w
signal_leaves Signal.cut w = writer-ended.cut_leaves w
signal_leaves Signal.loss w = writer-ended.loss_leaves w

target_leaves : (g : Signal) (y : Target) → Leaves target-ended.Ended y (target_signalled g y)
target_leaves Signal.ack y = target-ended.ack_leaves y
target_leaves Signal.nak y = target-ended.nak_leaves y
target_leaves Signal.timeout y = target-ended.timeout_leaves y
target_leaves Signal.cut y = target-ended.cut_leaves y
target_leaves Signal.loss y = target-ended.loss_leaves y

unhanded : (a : Said) → refuses a ≡ true → (f out : List ℕ) → handing a f out ≡ out
unhanded a e f out = refusing (λ (b : Said). handing b f out ≡ out) (λ n. refl) a e

target_refused : (c : TargetCall) (y : Target) (b : List ℕ) → refuses (target_call c y b).says ≡ true → ((target_call c y b).left ≡ y) × ((target_call c y b).lent ≡ b)
target_refused (TargetCall.bytes f) y b e =
    let x = arrival.write_arrival_of y f (length b) in
    (refused_same target-ended.Ended y x (target-ended.arrival_leaves y f (length b)) e, storing_none x.says (refused_stores x.says e) (header_in f).offset (iu_of f) b)
target_refused TargetCall.asking y b e = let x = issue.next_of y b in (refused_same target-ended.Ended y x (target-ended.next_leaves y b) e, unhanded x.says e (issue.frame_of y) b)
target_refused (TargetCall.signals g) y b e = (refused_same target-ended.Ended y (target_signalled g y) (target_leaves g y) e, refl)
target_refused (TargetCall.time ms) y b e = (refused_same target-ended.Ended y (time_of y ms) (target-ended.time_leaves y ms) e, refl)

target_late : (c : TargetCall) → TargetLate c → (y : Target) (b : List ℕ) → (target_call c y b).lent ≡ b
target_late (TargetCall.bytes f) l y b = storing_none (arrival.write_arrival_of y f (length b)).says (response_stores_nothing y f (length b) l) (header_in f).offset (iu_of f) b
target_late TargetCall.asking l y b = absurd l
target_late (TargetCall.signals g) l y b = refl
target_late (TargetCall.time ms) l y b = refl

-- ── a report of time that fails nothing moves the sum alone ──
target_passes : (tptt : ℕ) (c : TargetCall) → TargetTimes c → (y : Target) (r : Receiver) (b : List ℕ) → TakesAs tptt y r → fails (target_call c y b).says ≡ false → TakesAs tptt (target_call c y b).left r
target_passes tptt (TargetCall.bytes f) t y r b a q = absurd t
target_passes tptt TargetCall.asking t y r b a q = absurd t
target_passes tptt (TargetCall.signals g) t y r b a q = absurd t
target_passes tptt (TargetCall.time ms) t y r b a q = go (timed y ms) (time_kept y a.holds ms) q
  where
    go : {z : Left Target} → Timed y ms z → target.holds_of z.left ≡ true → fails z.says ≡ false → TakesAs tptt z.left r
    go (Timed.refused n c) h q = a
    go (Timed.outside c) h q = a
    go (Timed.expires l) h q = absurd (false≢true (sym q))
    go (Timed.counts l) h q = record { receiver = a.receiver; ready = a.ready; current = a.current; holds = h }

target_lends : (c : TargetCall) → TargetTimes c → (y : Target) (b : List ℕ) → (target_call c y b).lent ≡ b
target_lends (TargetCall.bytes f) t y b = absurd t
target_lends TargetCall.asking t y b = absurd t
target_lends (TargetCall.signals g) t y b = absurd t
target_lends (TargetCall.time ms) t y b = refl

write_steady : Steady write_ports
write_steady =
    record {
      ask_refused = λ w d out. writer-ended.next_same w d out;
      signal_refused = λ g w. refused_same writer-ended.Ended w (write_signalled g w) (signal_leaves g w);
      send_call_refused = λ f w. refused_same writer-ended.Ended w (write_arrival_of w f) (writer-ended.arrival_leaves w f);
      receive_call_refused = target_refused;
    }

pub write_simulates : (tptt : ℕ) → Simulates write_ports tptt
write_simulates tptt =
    record {
      SendsAs = WritesAs;
      TakesAs = TakesAs tptt;
      asks_as = writes_ask;
      signals_as = writes_signal;
      asks_quiet = write_quiet;
      arrives_as = arrives_at;
      steady = write_steady;
      late_sends = writes_late;
      late_receives = target_late;
      passes_as = target_passes tptt;
      times_lend = target_lends;
    }
  where
    arrives_at : (y : Target) (r : Receiver) (h : Header) (iu b : List ℕ) → TakesAs tptt y r → receiving.lent_of r (length b) ≡ true → r.ended ≡ false → Addressed tptt h r → writable h (length iu) ≡ true →
        TakesAs tptt (arrival.write_arrival_of y (encode h iu) (length b)).left (arrival_of r h.offset h.flags.cdp (length iu) (length b)).left ×
        (storing (arrival.write_arrival_of y (encode h iu) (length b)).says (header_in (encode h iu)).offset (iu_of (encode h iu)) b ≡ storing (arrival_of r h.offset h.flags.cdp (length iu) (length b)).says h.offset iu b)
    arrives_at y r h iu b a l o d c =
        let own : TakesAs tptt y y.receiver = record { receiver = refl; ready = a.ready; current = a.current; holds = a.holds } in
        subst
        (λ (v : Receiver). receiving.lent_of v (length b) ≡ true → v.ended ≡ false → Addressed tptt h v →
        TakesAs tptt (arrival.write_arrival_of y (encode h iu) (length b)).left (arrival_of v h.offset h.flags.cdp (length iu) (length b)).left ×
        (storing (arrival.write_arrival_of y (encode h iu) (length b)).says (header_in (encode h iu)).offset (iu_of (encode h iu)) b ≡ storing (arrival_of v h.offset h.flags.cdp (length iu) (length b)).says h.offset iu b))
        a.receiver (λ l₁ o₁ d₁. takes_arrival tptt y h iu b own l₁ o₁ d₁ c) l o d

pub write_is : (tptt : ℕ) (w : Writer) (s : Sender) → (write_simulates tptt).SendsAs w s → w.sender ≡ s
unfolding write_simulates
write_is tptt w s a = a.sender

pub write_sends : (tptt : ℕ) (w : Writer) (s : Sender) → WritesAs w s → (write_simulates tptt).SendsAs w s
unfolding write_simulates
write_sends tptt w s a = a

pub write_takes : (tptt : ℕ) (y : Target) (r : Receiver) → TakesAs tptt y r → (write_simulates tptt).TakesAs y r
unfolding write_simulates
write_takes tptt y r a = a

pub write_filled : (tptt : ℕ) (y : Target) (r : Receiver) → (write_simulates tptt).TakesAs y r → y.receiver.filled ≡ r.filled
unfolding write_simulates
write_filled tptt y r a = ap (λ (v : Receiver). v.filled) a.receiver
