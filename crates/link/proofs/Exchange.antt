-- What the exchange of an XFER_RDY leaves: the start of a write burst is live.
use Prim.Native.Nat.{ℕ, ◌+◌, ◌-◌, ◌^◌, ◌≤◌, ◌<◌}
use mathlib.Core.List.{List}
use mathlib.Core.Bool.{Bool, true, false, false≢true}
use mathlib.Core.Logic.{inl, inr}
use mathlib.Core.Path.{◌≡◌, refl, sym, ap, subst, subst₂, ◌∙◌}
use native.Mathlib.Nat.{zero-mul}
use native.Mathlib.Omega.{arith}
use lib.Dec.{eqb}
use lib.ListN.{length, take}
use borrow.Author.Tests.{lt-ltb}
use Rattle.status.specs.Pick.{pick}
use Rattle.status.specs.Answer.{Word, Said, Left}
use Rattle.transfer.specs.declared.Transfer.{Transfer}
use Rattle.frame.specs.Format.{XFER-RDY, encode}
use Rattle.frame.specs.Write.{over}
use Rattle.frame.specs.XferRdy.{xfer_rdy_bytes}
use Rattle.frame.specs.RoundTrip.{InRange}
use Rattle.frame.specs.declared.types.Header.{Header}
use Rattle.frame.specs.declared.types.XferRdy.{XferRdy}
use Rattle.receiver_steps.proofs.Held as receiver
use Rattle.initiator.specs.WriteRecord.{holds_of, begins_of}
use Rattle.initiator.specs.WriteCount.{takes}
use Rattle.initiator.specs.WriteTake.{write_arrival_of, limit_of}
use Rattle.initiator.specs.declared.types.Writer.{Writer}
use Rattle.initiator.proofs.WriteHeld.{held}
use Rattle.initiator.proofs.WriteFits.{Fits}
use Rattle.initiator.proofs.WriteSame.{Asks, xfer_rdy_starts, xfer_rdy_fits}
use Rattle.initiator.proofs.WriteKept.{begins_well}
use Rattle.target.specs.Record.{AGAIN}
use Rattle.target.specs.Transmit.{next_of, issued_of, xfer_rdy_header, xfer_rdy_iu, frame_of}
use Rattle.target.specs.Confirmation.{ack_of, acknowledged_of}
use Rattle.target.specs.declared.types.Target.{Target}
use Rattle.target.proofs.Held as target
use Rattle.target.proofs.Issue.{issued_order, burst_transfer, can_write}
use Rattle.target.proofs.Views.{HandedOut, handed_out, tag_most, Acked, acknowledged}
use Rattle.target.proofs.Kept.{acknowledged_holds}
use Rattle.link.specs.World.{World}
use Rattle.link.specs.Delivers.{fresh}
use Rattle.link.specs.Claim.{Alike, Always, xfer_rdy_sent}
use Rattle.link.specs.Writing.{write_ports}
use Rattle.link.proofs.Setting.{Setting}
use Rattle.link.proofs.Flight.{Flight}
use Rattle.link.proofs.Invariant.{Standing, Live, live}
use Rattle.frame.proofs.Hands.{over_front}
use Rattle.link.proofs.Delivery.{delivers}
use Rattle.link.proofs.Filled.{Fills, fills}
use Rattle.link.proofs.WriteSimulates.{write_simulates, write_sends, write_takes, write_filled}

module _ (x : Writer) (y : Target) (out d b : List ℕ) (n : ℕ) (hx : holds_of x ≡ true) (ox : x.sender.ended ≡ false) (zx : x.sender.unanswered ≡ 0)
    (al : Alike x.sender.transfer y.receiver.transfer) (on : 1 ≤ x.sender.transfer.limit) (dl : length d ≡ x.sender.transfer.count) (bl : length b ≡ x.sender.transfer.count)
    (hands : (next_of y out).says ≡ Said.frame n) (took : takes (write_arrival_of x (xfer_rdy_sent y out n)).says ≡ true) (acks : (ack_of (next_of y out).left).says ≡ Said.word Word.acknowledged) where
  handed : HandedOut y out n
  handed = handed_out y out n hands

  y_held : target.Held y
  y_held = target.held y handed.holds

  -- the burst that the XFER_RDY is for
  abbrev base : ℕ
  base = (issued_of y).receiver.base

  abbrev end : ℕ
  end = (issued_of y).receiver.end

  order : base ≤ end
  order = (issued_order y y_held).0

  abbrev asked : XferRdy
  asked = record { offset = base; len = end - base }

  same_transfer : (issued_of y).receiver.transfer ≡ y.receiver.transfer
  unfolding issued_of
  same_transfer = burst_transfer y

  abbrev head : Header
  head = xfer_rdy_header (issued_of y) (eqb y.state AGAIN)

  -- the bytes that the initiator got
  bytes : xfer_rdy_sent y out n ≡ encode head (xfer_rdy_bytes asked)
  unfolding frame_of xfer_rdy_iu
  bytes =
      ap (λ (v : List ℕ). take n v) handed.buffer ∙ ap (λ (v : ℕ). take v (over (frame_of y) out)) handed.size ∙ over_front (frame_of y) out

  answered : takes (write_arrival_of x (encode head (xfer_rdy_bytes asked))).says ≡ true
  answered = ap (λ (v : List ℕ). takes (write_arrival_of x v).says) (sym bytes) ∙ took

  in_range : InRange head
  unfolding xfer_rdy_header
  in_range =
      record {
        tag = subst (λ (v : ℕ). v < 2 ^ 16) (al.tag ∙ sym (ap (λ (v : Transfer). v.tag) same_transfer)) al.tag_bits;
        tptt = omega (arith, tag_most y handed.holds);
        offset = omega arith;
      }

  end_small : end ≤ 16_777_216
  end_small = omega (arith, (issued_order y y_held).1, y_held.marks.limits.count_most)

  dest : head.dest ≡ x.sender.transfer.local
  unfolding xfer_rdy_header
  dest = ap (λ (v : Transfer). v.remote) same_transfer ∙ sym al.back

  source : head.source ≡ x.sender.transfer.remote
  unfolding xfer_rdy_header
  source = ap (λ (v : Transfer). v.local) same_transfer ∙ sym al.there

  tag : head.tag ≡ x.sender.transfer.tag
  unfolding xfer_rdy_header
  tag = ap (λ (v : Transfer). v.tag) same_transfer ∙ sym al.tag

  frametype : head.frametype ≡ XFER-RDY
  unfolding xfer_rdy_header
  frametype = refl

  asks : Asks x head asked
  asks =
      record {
        frametype = frametype;
        dest = dest;
        source = source;
        tag = tag;
        range = in_range;
        writes = can_write y y_held;
        offset = omega (arith, end_small, order);
        len = omega (arith, end_small);
      }

  fits : Fits x asked
  fits = xfer_rdy_fits x head asked hx ox asks answered

  some : base < end
  some = omega (arith, fits.some)

  end_most : end ≤ x.sender.transfer.count
  end_most = omega (arith, fits.most, order)

  whole : base + (end - base) ≡ end
  whole = omega (arith, order)

  -- RETRY DATA FRAMES is one, so the burst has the transfer's limit
  limit : limit_of x head.flags.retry ≡ x.sender.transfer.limit
  unfolding xfer_rdy_header pick
  limit = rw (lt-ltb 0 (issued_of y).receiver.transfer.limit (omega (arith, on, al.limit, ap (λ (v : Transfer). v.limit) same_transfer))) refl

  -- the initiator's record then, and the target's
  abbrev writer : Writer
  writer = begins_of x.sender.transfer (record { base = base; end = end; tptt = (issued_of y).tptt; limit = x.sender.transfer.limit })

  started : (write_arrival_of x (xfer_rdy_sent y out n)).left ≡ writer
  unfolding xfer_rdy_header
  started =
      ap (λ (v : List ℕ). (write_arrival_of x v).left) bytes
      ∙ xfer_rdy_starts x head asked hx ox asks answered zx
      ∙ (λ i. begins_of x.sender.transfer (record { base = base; end = whole i; tptt = (issued_of y).tptt; limit = limit i }))

  acked : Acked (issued_of y)
  acked = acknowledged (issued_of y) (ap (λ (v : Target). (ack_of v).says) (sym handed.target) ∙ acks)

  ready : (ack_of (next_of y out).left).left ≡ acknowledged_of (issued_of y)
  ready = ap (λ (v : Target). (ack_of v).left) handed.target ∙ ap (λ (v : Left Target). v.left) acked.left

  ready_holds : target.Held (acknowledged_of (issued_of y))
  ready_holds = target.held _ (acknowledged_holds (issued_of y) acked.holds acked.state)

  writer_holds : holds_of writer ≡ true
  writer_holds = begins_well x writer.sender.burst hx order end_most (omega arith)

  abbrev setting : Setting
  setting =
      record {
        t = x.sender.transfer;
        u = y.receiver.transfer;
        start = 0;
        base = base;
        end = end;
        tptt = (issued_of y).tptt;
        limit = x.sender.transfer.limit;
        source = d;
        before = b;
        t_limits = (held x hx).core.limits_held;
        u_limits = receiver.limits_again y.receiver y_held.core;
        starts = (held x hx).from_0;
        there = al.there;
        back = al.back;
        tag = al.tag;
        tag_bits = al.tag_bits;
        tptt_bits = omega (arith, tag_most y handed.holds);
        some = some;
        base_least = omega arith;
        end_most = omega (arith, end_most);
        on = on;
        limit_most = omega arith;
        u_on = omega (arith, on, al.limit);
        source_length = dl;
        long = receiver.write_long y.receiver.transfer (length b) y_held.write (bl ∙ al.count);
        reach = omega (arith, end_most, bl);
      }

  begins : Live setting (write_simulates (issued_of y).tptt) (fresh write_ports writer (acknowledged_of (issued_of y)) d b)
  unfolding pick
  begins =
      let z = zero-mul x.sender.transfer.size in
      let o = order in
      let q = some in
      let m = end_most in
      live setting (write_simulates (issued_of y).tptt) writer.sender (acknowledged_of (issued_of y)).receiver false 0 0 0 0
      (write_sends (issued_of y).tptt writer writer.sender
      (record {
        sender = refl;
        ready = record { idle = refl; write = (held x hx).write; marks = record { reached_least = omega arith; reached_most = o; base_most = omega arith; end_most = omega arith; limit_most = omega arith } };
      }))
      (record {
        takes = write_takes (issued_of y).tptt (acknowledged_of (issued_of y)) _ (record { receiver = refl; ready = refl; current = refl; holds = acknowledged_holds (issued_of y) acked.holds acked.state });
        send_for = record { transfer = refl; limit = refl; tptt = ap (λ (v : Bool). pick v (issued_of y).tptt x.sender.transfer.value) (held x hx).write; base = refl; end = refl };
        take_for = record { transfer = same_transfer; base = refl; end = refl };
        s_holds = (held writer writer_holds).holds;
        s_open = refl;
        r_holds = ready_holds.core;
        r_open = acked.ended;
      })
      (record { source = refl; size = refl; right = λ i lo hi. absurd (omega arith); rest = λ i h. refl }) (omega arith)
      (record { next_at = omega arith; balance_at = omega arith; restart_in = omega arith; all_in = λ i h. absurd (omega arith); from_base = λ q. refl })
      (record { flight = Flight.none; pointed = λ q. refl; from = omega arith; conserved = refl; same = refl })
      (record { nak_owed = λ q. absurd (false≢true q); begun = λ q. absurd (omega arith); undone = λ v e. omega arith })
      (record { frames_are = refl; most = omega arith; since = omega arith; ever = omega arith; paid = omega arith })
      (Standing.clean tt refl refl (inr (inr (refl, omega arith)))) refl

  -- what holds of both ports then, and of the burst's two offsets, holds of the start
  start_as : (Q : ℕ → ℕ → World write_ports → Type 0) → Q base end (fresh write_ports writer (acknowledged_of (issued_of y)) d b) →
      Q (next_of y out).left.receiver.base (next_of y out).left.receiver.end (fresh write_ports (write_arrival_of x (xfer_rdy_sent y out n)).left (ack_of (next_of y out).left).left d b)
  start_as Q q =
      subst (λ (v : Target). Q v.receiver.base v.receiver.end (fresh write_ports (write_arrival_of x (xfer_rdy_sent y out n)).left (ack_of (next_of y out).left).left d b)) (sym handed.target)
      (subst₂ (λ (a : Writer) (c : Target). Q base end (fresh write_ports a c d b)) (sym started) (sym ready) q)

  -- the claim from there
  pub write_delivers :
      Always
      (record {
        start = 0;
        base = (next_of y out).left.receiver.base;
        end = (next_of y out).left.receiver.end;
        size = x.sender.transfer.size;
        limit = x.sender.transfer.limit;
      })
      (fresh write_ports (write_arrival_of x (xfer_rdy_sent y out n)).left (ack_of (next_of y out).left).left d b)
  write_delivers =
      start_as (λ lo hi. Always (record { start = 0; base = lo; end = hi; size = x.sender.transfer.size; limit = x.sender.transfer.limit }))
      (delivers setting (write_simulates (issued_of y).tptt) _ (refl, refl) (inl begins))

  -- with the report of delivery the target's filled mark is the burst's end
  pub write_fills :
      Fills {P = write_ports} (λ v. v.receiver.filled) (next_of y out).left.receiver.end
      (fresh write_ports (write_arrival_of x (xfer_rdy_sent y out n)).left (ack_of (next_of y out).left).left d b)
  write_fills =
      start_as (λ lo hi. Fills {P = write_ports} (λ v. v.receiver.filled) hi)
      (fills setting (write_simulates (issued_of y).tptt) (λ v. v.receiver.filled) (write_filled (issued_of y).tptt) _ (inl begins))
