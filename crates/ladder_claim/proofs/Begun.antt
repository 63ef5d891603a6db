-- What the set_up of a run within the limits leaves: both ports as they stand before the first DATA frame (`begun`, `sets_up`), and that the delivery claim starts there
-- where retries are on (`read_starts`, `write_starts`). The four records are well-formed (`read_sender_holds` and so on).
use Prim.Native.Nat.{ℕ, ◌+◌, ◌-◌, ◌%◌, ◌^◌, min, ◌≤◌, ◌<◌}
use mathlib.Core.List.{List}
use mathlib.Core.Bool.{Bool, true, false, not, ◌||◌}
use mathlib.Core.Path.{◌≡◌, refl, sym, ap, subst, subst₂, ◌∙◌}
use native.Mathlib.Omega.{arith}
use lib.Dec.{leb, ltb}
use lib.ListN.{length, take, length-replicate}
use borrow.Author.Tests.{leb-true, ltb-false, eqb-true, le-leb, lt-ltb, le-ltb, eq-eqb, ne_eqb}
use Rattle.status.specs.Pick.{pick}
use Rattle.status.specs.Answer.{Word, Taking, Said, Left, ◌saying◌}
use Rattle.status.specs.Result.{Result, granted}
use Rattle.status.proofs.OpenedCall.{open_entry, open_confirmable}
use Rattle.transfer.specs.Limits.{past, limits, limits_hold}
use Rattle.transfer.specs.declared.Transfer.{Transfer}
use Rattle.frame.specs.Format.{XFER-RDY, encode}
use Rattle.frame.specs.Write.{over, hands}
use Rattle.frame.specs.XferRdy.{xfer_rdy_bytes}
use Rattle.frame.specs.declared.types.Header.{Header}
use Rattle.frame.specs.declared.types.XferRdy.{XferRdy}
use Rattle.frame.proofs.Writer.{encode_length}
use Rattle.sender.specs.Record as sender
use Rattle.sender_steps.specs.Record as sender-step
use Rattle.sender_steps.specs.declared.types.Burst.{Burst}
use Rattle.sender_steps.specs.declared.types.Sender.{Sender}
use Rattle.sender.proofs.Kept as sender-kept
use Rattle.receiver_steps.specs.Record as receiver
use Rattle.receiver_steps.specs.declared.types.Receiver.{Receiver}
use Rattle.receiver.specs.Record as receiver-set-up
use Rattle.receiver.proofs.Kept as receiver-kept
use Rattle.initiator.specs.WriteRecord as initiator
use Rattle.initiator.specs.WriteCount.{takes}
use Rattle.initiator.specs.WriteTake.{write_arrival_of, limit_of, next_taken, fits_of, disposition_of, burst_taken}
use Rattle.initiator.specs.declared.types.Writer.{Writer}
use Rattle.initiator.proofs.WriteHeld.{holds_again}
use Rattle.initiator.proofs.WriteSame.{Asks, xfer_rdy_arrives}
use Rattle.target.specs.Record as target
use Rattle.target.specs.Record.{UNANSWERED, READY}
use Rattle.target.specs.Tag.{lowest, used, search}
use Rattle.target.specs.Transmit.{due_of, burst_of, issued_of, xfer_rdy_header, xfer_rdy_iu, frame_of, next_of}
use Rattle.target.specs.Confirmation.{confirms_of, ack_of}
use Rattle.target.specs.declared.types.Target.{Target}
use Rattle.target.proofs.Kept.{start_holds, issued_holds, acknowledged_holds}
use Rattle.target.proofs.Held as target-held
use Rattle.target.proofs.Views.{HandedOut, handed_out}
use Rattle.link.specs.Reading.{read_ports}
use Rattle.link.specs.Writing.{write_ports}
use Rattle.link.specs.Delivers.{fresh as world}
use Rattle.link.specs.Claim.{Alike, sas11, Starts, xfer_rdy_sent}
use Rattle.frame.proofs.Hands.{over_front}
use Rattle.ladder_text.specs.Rows.{within_limits}
use Rattle.ladder_text.specs.Rows as rows
use Rattle.ladder_text.proofs.Choose.{each}
use Rattle.ladder_text.specs.declared.types.Run.{Run}
use Rattle.ladder_text.specs.declared.types.Direction.{Direction}
use Rattle.ladder_text.specs.declared.types.Direction.TheVariants.{Read, Write}
use Rattle.ladder_run.specs.Row.{area}
use Rattle.ladder_run.proofs.Handed.{handed_length}
use Rattle.ladder_run.specs.Setup.{INITIATOR, TARGET, TAG, transfer_of, fresh, exchanged, set_up_of}
use Rattle.ladder_run.specs.declared.types.Sending.TheVariants as sending
use Rattle.ladder_run.specs.declared.types.Receiving.TheVariants as receiving
use Rattle.ladder_run.specs.declared.types.Ladder.{Ladder}
use Rattle.ladder_claim.specs.Claim.{burst_of as burst-of, SetsUp}

-- ── line one ──
pub record Within (r : Run) : Type 0 where
  pub count_least : 1 ≤ r.count
  pub count_most : r.count ≤ 65_536
  pub size_least : 4 ≤ r.size
  pub size_most : r.size ≤ 1_024
  pub size_fours : r.size % 4 ≡ 0
  pub window_least : 1 ≤ r.window
  pub window_most : r.window ≤ 64
  pub limit_most : r.limit ≤ 15

pub within : (r : Run) → within_limits r ≡ true → Within r
within r e = let h = each (rows.limits r) e in omega (arith, leb-true, eqb-true)

-- a start of 0 is that of a read or a write
from_0 : (write : Bool) → (not write || true) ≡ true
from_0 true = refl
from_0 false = refl

-- the transfer at either end, of either direction
pub transfer_holds : (r : Run) (write : Bool) (local remote : ℕ) → Within r → local < 2 ^ 24 → remote < 2 ^ 24 → limits_hold (transfer_of r write local remote) ≡ true
unfolding limits_hold limits
transfer_holds r write local remote w l m =
    simp (le-leb _ _ w.count_least, le-leb r.count 16_777_216 (omega (arith, w.count_most)), le-leb _ _ w.size_least, le-leb _ _ w.size_most, eq-eqb _ _ w.size_fours, le-leb _ _ w.window_least, le-leb _ _ w.window_most, le-leb _ _ w.limit_most, le-leb r.count r.count (omega arith), le-leb (0 + r.count) 16_777_216 (omega (arith, w.count_most)), from_0 write, le-leb local (2 ^ 24 - 1) (omega arith), le-leb remote (2 ^ 24 - 1) (omega arith))

pub target_limits : (r : Run) (write : Bool) → Within r → limits_hold (transfer_of r write TARGET INITIATOR) ≡ true
target_limits r write w = transfer_holds r write TARGET INITIATOR w (omega arith) (omega arith)

pub initiator_limits : (r : Run) (write : Bool) → Within r → limits_hold (transfer_of r write INITIATOR TARGET) ≡ true
initiator_limits r write w = transfer_holds r write INITIATOR TARGET w (omega arith) (omega arith)

-- "both ports set up alike (limits, addresses, tag)"
pub alike : (r : Run) (write : Bool) (local remote : ℕ) → Alike (transfer_of r write local remote) (transfer_of r write remote local)
alike r write local remote = record { count = refl; size = refl; window = refl; limit = refl; there = refl; back = refl; tag = refl; tag_bits = omega arith; value_bits = omega arith; start = refl }

-- the one burst of either direction
abbrev pub first_burst : Run → Burst
first_burst r = record { base = 0; end = r.count; tptt = 0; limit = r.limit }

-- start plus count; a sum with a variable does not compute
pub whole_run : (r : Run) → 0 + r.count ≡ r.count
whole_run r = omega arith

-- ── a read ──
abbrev pub read_sender : Run → Sender
read_sender r = sender-step.beginning (transfer_of r false TARGET INITIATOR) (first_burst r)

abbrev pub read_receiver : Run → Receiver
read_receiver r = receiver.beginning (transfer_of r false INITIATOR TARGET) 0 r.count

read_sending : (r : Run) → let t = transfer_of r false TARGET INITIATOR in sender-step.beginning t (sender.whole t) ≡ read_sender r
read_sending r i = sender-step.beginning (transfer_of r false TARGET INITIATOR) (record { base = 0; end = whole_run r i; tptt = 0; limit = r.limit })

read_receiving : (r : Run) → let u = transfer_of r false INITIATOR TARGET in receiver.beginning u u.start (past u) ≡ read_receiver r
read_receiving r i = receiver.beginning (transfer_of r false INITIATOR TARGET) 0 (whole_run r i)

-- the two set-ups of a read
pub read_sends_up : (r : Run) → Within r → sender.set_up_read_of (transfer_of r false TARGET INITIATOR) ≡ Result.value (read_sender r)
unfolding granted pick
read_sends_up r w = rw (target_limits r false w) (ap (λ (s : Sender). Result.value s) (read_sending r))

pub read_takes_up : (r : Run) → Within r → receiver-set-up.set_up_read_of (transfer_of r false INITIATOR TARGET) ≡ Result.value (read_receiver r)
unfolding granted pick
read_takes_up r w = rw (initiator_limits r false w) (ap (λ (s : Receiver). Result.value s) (read_receiving r))

abbrev pub read_ladder : Run → Ladder
read_ladder r = fresh (sending.Read (read_sender r)) (receiving.Read (read_receiver r))

pub read_sets_up : (r : Run) → Within r → r.direction ≡ Read → set_up_of r ≡ Result.value (read_ladder r)
unfolding set_up_of pick
read_sets_up r w e = rw (le-leb _ _ w.count_most, e, read_sends_up r w, read_takes_up r w)

-- ── a write: the XFER_RDY that the target hands out ──
module _ (r : Run) where
  abbrev there : Transfer
  there = transfer_of r true TARGET INITIATOR

  abbrev here : Transfer
  here = transfer_of r true INITIATOR TARGET

  -- the target with its XFER_RDY on the way, and with its ACK
  abbrev asking : ℕ → Target
  asking state = record { receiver = receiver.beginning there 0 r.count; state = state; tptt = 0; retries = 0; stored = false; under = 0; since = 1; elapsed = 0 }

  abbrev pub write_target : Target
  write_target = asking READY

  -- "for the lesser of the burst size and what remains": one burst
  whole_count : 0 + min r.count (r.count - 0) ≡ r.count
  whole_count = omega arith

  issues : issued_of (target.start_of there) ≡ asking UNANSWERED
  unfolding issued_of burst_of lowest used search pick
  issues i = record { receiver = receiver.beginning there 0 (whole_count i); state = UNANSWERED; tptt = 0; retries = 0; stored = false; under = 0; since = 1; elapsed = 0 }

  abbrev head : Header
  head = record { frametype = XFER-RDY; dest = INITIATOR; source = TARGET; flags = record { tlr = 0; retry = ltb 0 r.limit; retransmit = false; cdp = false }; tag = TAG; tptt = 0; offset = 0 }

  abbrev asked : XferRdy
  asked = record { offset = 0; len = r.count }

  frame_is : frame_of (target.start_of there) ≡ encode head (xfer_rdy_bytes asked)
  unfolding frame_of xfer_rdy_header xfer_rdy_iu
  frame_is =
      let rest : r.count - 0 ≡ r.count = omega arith in
      (λ i. encode (xfer_rdy_header (issues i) false) (xfer_rdy_iu (issues i))) ∙ (λ i. encode head (xfer_rdy_bytes (record { offset = 0; len = rest i })))

  iu_size : length (xfer_rdy_bytes asked) ≡ 12
  unfolding xfer_rdy_bytes
  iu_size = refl

  frame_size : length (frame_of (target.start_of there)) ≡ 36
  frame_size = ap length frame_is ∙ encode_length head (xfer_rdy_bytes asked) ∙ rw iu_size

  -- the initiator with that burst started
  abbrev pub write_sender : Writer
  write_sender = initiator.begins_of here (first_burst r)

  abbrev pub write_ladder : Ladder
  write_ladder = fresh (sending.Write write_sender) (receiving.Write write_target)

  module _ (w : Within r) where
    start_well : target.holds_of (target.start_of there) ≡ true
    start_well = start_holds there (target_limits r true w) refl

    is_due : due_of (target.start_of there) ≡ true
    unfolding due_of
    is_due = lt-ltb 0 r.count w.count_least

    room : leb (length (frame_of (target.start_of there))) (length area) ≡ true
    room =
        let n : length area ≡ 1_048 = length-replicate {A = ℕ} 1_048 0 in
        le-leb (length (frame_of (target.start_of there))) (length area) (omega (arith, frame_size))

    pub hands_out : next_of (target.start_of there) area ≡ (asking UNANSWERED saying Said.frame 36)
    unfolding next_of hands pick
    hands_out = rw (open_entry _ _ start_well refl, is_due, room, frame_size, issues)

    handed_36 : HandedOut (target.start_of there) area 36
    handed_36 = handed_out (target.start_of there) area 36 (ap (λ (v : Left Target). v.says) hands_out)

    -- the bytes that the initiator gets
    bytes : xfer_rdy_sent (target.start_of there) area 36 ≡ encode head (xfer_rdy_bytes asked)
    bytes =
        let f = frame_of (target.start_of there) in
        ap (λ (v : List ℕ). take 36 v) handed_36.buffer ∙ ap (λ (v : ℕ). take v (over f area)) (sym frame_size) ∙ over_front f area ∙ frame_is

    -- ── the initiator takes it ──
    pub waits_well : initiator.holds_of (initiator.start_of here) ≡ true
    waits_well =
        holds_again (initiator.start_of here) (sender-kept.begins_holds here _ (initiator_limits r true w) (omega arith) (omega arith) (omega arith) (omega arith)) refl (omega arith)

    asks : Asks (initiator.start_of here) head asked
    asks = record { frametype = refl; dest = refl; source = refl; tag = refl; range = record { tag = omega arith; tptt = omega arith; offset = omega arith }; writes = refl; offset = omega arith; len = omega (arith, w.count_most) }

    -- RETRY DATA FRAMES is one if retries are on: the limit is the run's either way
    limit_same : limit_of (initiator.start_of here) (ltb 0 r.limit) ≡ r.limit
    unfolding pick
    limit_same = go (ltb 0 r.limit) refl
      where
        go : (t : Bool) → ltb 0 r.limit ≡ t → pick t r.limit 0 ≡ r.limit
        go true e = refl
        go false e = omega (arith, ltb-false 0 r.limit e)

    pub takes_first : write_arrival_of (initiator.start_of here) (xfer_rdy_sent (target.start_of there) area 36) ≡ (write_sender saying Said.xfer_rdy Taking.next)
    unfolding disposition_of fits_of burst_taken next_taken pick
    takes_first =
        ap (write_arrival_of (initiator.start_of here)) bytes
        ∙ xfer_rdy_arrives (initiator.start_of here) head asked waits_well refl asks
        ∙ rw (ne_eqb r.count 0 (λ e. omega (arith, w.count_least)), le-ltb r.count (0 + r.count) (omega arith))
        (λ i. initiator.begins_of here (record { base = 0; end = all_of i; tptt = 0; limit = limit_same i }) saying Said.xfer_rdy Taking.next)
      where
        all_of : 0 + r.count ≡ r.count
        all_of = omega arith

    -- ── the target gets the ACK ──
    asking_well : target.holds_of (asking UNANSWERED) ≡ true
    asking_well = rw issues at (issued_holds (target.start_of there) (target-held.held _ start_well) is_due (omega arith))

    pub acks : ack_of (asking UNANSWERED) ≡ (write_target saying Said.word Word.acknowledged)
    unfolding confirms_of
    acks = rw (open_confirmable _ _ _ asking_well refl refl)

    exchanges : exchanged (initiator.start_of here) (target.start_of there) ≡ write_ladder
    unfolding exchanged
    exchanges =
        (λ i. fresh (sending.Write (write_arrival_of (initiator.start_of here) (xfer_rdy_sent (target.start_of there) area (handed_length (hands_out i).says))).left) (receiving.Write (ack_of (hands_out i).left).left))
        ∙ (λ i. fresh (sending.Write (takes_first i).left) (receiving.Write (acks i).left))

    pub write_sets_up : r.direction ≡ Write → set_up_of r ≡ Result.value write_ladder
    unfolding set_up_of granted pick
    write_sets_up e = rw (le-leb _ _ w.count_most, e, initiator_limits r true w, target_limits r true w, exchanges)

    -- ── the delivery claim starts there ──
    pub write_starts : (d b : List ℕ) → 1 ≤ r.limit → length d ≡ r.count → length b ≡ r.count → Starts write_ports sas11 (burst-of r) (world write_ports write_sender write_target d b)
    write_starts d b on dl bl =
        subst (λ (v : Left Target). Starts write_ports sas11 (record { start = 0; base = v.left.receiver.base; end = v.left.receiver.end; size = r.size; limit = r.limit }) (world write_ports write_sender write_target d b)) hands_out
        (subst₂ (λ (v : Left Writer) (c : Target). Starts write_ports sas11 (record { start = 0; base = (next_of (target.start_of there) area).left.receiver.base; end = (next_of (target.start_of there) area).left.receiver.end; size = r.size; limit = r.limit }) (world write_ports v.left c d b)) takes_first acked
        (Starts.write (initiator.start_of here) (target.start_of there) area d b 36 waits_well refl refl (alike r true INITIATOR TARGET) on dl bl
        (ap (λ (v : Left Target). v.says) hands_out) (ap (λ (v : Left Writer). takes v.says) takes_first) (ap (λ (v : Left Target). (ack_of v.left).says) hands_out ∙ ap (λ (v : Left Target). v.says) acks)))
      where
        acked : (ack_of (next_of (target.start_of there) area).left).left ≡ write_target
        acked = ap (λ (v : Left Target). (ack_of v.left).left) hands_out ∙ ap (λ (v : Left Target). v.left) acks

pub read_starts : (r : Run) → Within r → (d b : List ℕ) → 1 ≤ r.limit → length d ≡ r.count → length b ≡ r.count → Starts read_ports sas11 (burst-of r) (world read_ports (read_sender r) (read_receiver r) d b)
read_starts r w d b on dl bl =
    subst (λ (end : ℕ). Starts read_ports sas11 (record { start = 0; base = 0; end = end; size = r.size; limit = r.limit }) (world read_ports (read_sender r) (read_receiver r) d b)) (whole_run r)
    (Starts.read (transfer_of r false TARGET INITIATOR) (transfer_of r false INITIATOR TARGET) (read_sender r) (read_receiver r) d b (read_sends_up r w) (read_takes_up r w)
    (alike r false TARGET INITIATOR) on dl (omega arith))

-- ── all four records are well-formed ──
pub read_sender_holds : (r : Run) → Within r → sender-step.holds_of (read_sender r) ≡ true
read_sender_holds r w = sender-kept.begins_holds _ _ (target_limits r false w) (omega arith) (omega arith) (omega arith) (omega arith)

pub read_receiver_holds : (r : Run) → Within r → receiver.holds_of (read_receiver r) ≡ true
read_receiver_holds r w = receiver-kept.begins_holds _ 0 r.count (initiator_limits r false w) (omega arith) (omega arith) (omega arith)

pub write_sender_holds : (r : Run) → Within r → initiator.holds_of (write_sender r) ≡ true
write_sender_holds r w =
    holds_again (write_sender r) (sender-kept.begins_holds _ (first_burst r) (initiator_limits r true w) (omega arith) (omega arith) (omega arith) (omega arith)) refl (omega arith)

pub write_target_holds : (r : Run) → Within r → target.holds_of (write_target r) ≡ true
write_target_holds r w = acknowledged_holds (asking r UNANSWERED) (asking_well r w) refl

-- ── either ──
pub data Begun (r : Run) : Ladder → Type 0 where
  read : r.direction ≡ Read → Begun r (read_ladder r)
  write : r.direction ≡ Write → Begun r (write_ladder r)

same_value : {X : Type 0} {z : Result X} {x y : X} → z ≡ Result.value x → z ≡ Result.value y → x ≡ y
same_value p q = cc

pub begun : (r : Run) (l : Ladder) → within_limits r ≡ true → set_up_of r ≡ Result.value l → Begun r l
begun r l e s = go r.direction refl
  where
    go : (d : Direction) → r.direction ≡ d → Begun r l
    go Read p = subst (Begun r) (same_value (read_sets_up r (within r e) p) s) (Begun.read p)
    go Write p = subst (Begun r) (same_value (write_sets_up r (within r e) p) s) (Begun.write p)

pub sets_up : SetsUp
sets_up r e = go r.direction refl
  where
    go : (d : Direction) → r.direction ≡ d → (l : Ladder) × (set_up_of r ≡ Result.value l)
    go Read p = (read_ladder r, read_sets_up r (within r e) p)
    go Write p = (write_ladder r, write_sets_up r (within r e) p)
