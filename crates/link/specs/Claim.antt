-- Demand 3, the delivery claim: the starts, and that what specs/Delivers says holds after every allowed list of link events from there.
-- Events and the lists that are allowed are in specs/World, faults in specs/Tally; the ports' steps are those that their contracts cite (specs/Reading, specs/Writing).
use Rattle.std.specs.Prelude.{ℕ, ◌^◌, ◌≤◌, ◌<◌, List, Bool, true, false, ◌≡◌, length, take}
use Rattle.status.specs.Answer.{Word, Said}
use Rattle.status.specs.Result.{Result}
use Rattle.frame.specs.Write.{handing}
use Rattle.transfer.specs.Limits.{past}
use Rattle.transfer.specs.declared.Transfer.{Transfer}
use Rattle.sender.specs.Record as sender
use Rattle.sender_steps.specs.declared.types.Sender.{Sender}
use Rattle.receiver.specs.Record as receiver
use Rattle.receiver_steps.specs.declared.types.Receiver.{Receiver}
use Rattle.initiator.specs.WriteRecord.{holds_of}
use Rattle.initiator.specs.WriteCount.{takes}
use Rattle.initiator.specs.WriteTake.{write_arrival_of}
use Rattle.initiator.specs.declared.types.Writer.{Writer}
use Rattle.target.specs.Transmit as target
use Rattle.target.specs.Confirmation.{ack_of}
use Rattle.target.specs.declared.types.Target.{Target}
use Rattle.link.specs.Ports.{Ports}
use Rattle.link.specs.Reading.{read_ports}
use Rattle.link.specs.Writing.{write_ports}
use Rattle.link.specs.World.{World, Event, run, Allowed}
use Rattle.link.specs.Delivers.{BurstParameters, fresh, Delivers}

-- "both ports set up alike (limits, addresses, tag)", with the start (request K5; in a write both are 0 by number 1): each one's local address is the other's remote one;
-- a tag has 16 bits, and so has the sending port's value. A read has no burst size, and a write burst's is its XFER_RDY's. Nothing is said of editions and Initiator
-- Response Timeouts, and of values only the width
pub record Alike (t u : Transfer) : Type 0 where
  pub count : t.count ≡ u.count
  pub size : t.size ≡ u.size
  pub window : t.window ≡ u.window
  pub limit : t.limit ≡ u.limit
  pub there : t.remote ≡ u.local
  pub back : t.local ≡ u.remote
  pub tag : t.tag ≡ u.tag
  pub tag_bits : t.tag < 2 ^ 16
  pub value_bits : t.value < 2 ^ 16
  pub start : t.start ≡ u.start

-- Request K7: "The delivery rule takes the edition of each end as a parameter, so that any pairing delivers alike"; true is SAS-2, false SAS-1.1
pub record Editions : Type 0 where
  pub sending : Bool
  pub receiving : Bool

abbrev pub editions : Transfer → Transfer → Editions
editions t u = record { sending = t.sas2; receiving = u.sas2 }

-- SAS-1.1 at both ends
abbrev pub sas11 : Editions
sas11 = record { sending = false; receiving = false }

-- the n bytes that the target put at the front of the output buffer
abbrev pub xfer_rdy_sent : Target → List ℕ → ℕ → List ℕ
xfer_rdy_sent y out n = take n (handing (target.next_of y out).says (target.frame_of y) out)

-- "Take one read, .. retries on, both ports set up alike, none of its frames handed out yet"; any sending buffer of the byte count's length and, request K5, any receiving
-- one that "is at least that sum long"
pub data Starts : (P : Ports) → Editions → BurstParameters → World P → Type 1 where
  read : (t u : Transfer) (s : Sender) (r : Receiver) (d b : List ℕ) →
      sender.set_up_read_of t ≡ Result.value s → receiver.set_up_read_of u ≡ Result.value r → Alike t u → 1 ≤ t.limit →
      length d ≡ t.count → past t ≤ length b →
      Starts read_ports (editions t u) (record { start = t.start; base = t.start; end = past t; size = t.size; limit = t.limit }) (fresh read_ports s r d b)
  -- "or one write burst whose XFER_RDY had its ACK at the target before the first DATA frame": any well-formed records x and y that are set up alike, at any
  -- burst; the target hands out its XFER_RDY, the initiator takes those bytes with nothing unanswered, the target gets the ACK
  write : (x : Writer) (y : Target) (out d b : List ℕ) (n : ℕ) →
      holds_of x ≡ true → x.sender.ended ≡ false → x.sender.unanswered ≡ 0 →
      Alike x.sender.transfer y.receiver.transfer → 1 ≤ x.sender.transfer.limit →
      length d ≡ x.sender.transfer.count → length b ≡ x.sender.transfer.count →
      (target.next_of y out).says ≡ Said.frame n →
      takes (write_arrival_of x (xfer_rdy_sent y out n)).says ≡ true →
      (ack_of (target.next_of y out).left).says ≡ Said.word Word.acknowledged →
      Starts write_ports (editions x.sender.transfer y.receiver.transfer)
      (record {
        start = 0;
        base = (target.next_of y out).left.receiver.base;
        end = (target.next_of y out).left.receiver.end;
        size = x.sender.transfer.size;
        limit = x.sender.transfer.limit;
      })
      (fresh write_ports (write_arrival_of x (xfer_rdy_sent y out n)).left (ack_of (target.next_of y out).left).left d b)

-- from a start, after every allowed list of events
abbrev pub Always : {P : Ports} → BurstParameters → World P → Type 0
Always {P} b start = (es : List (Event P)) → Allowed start es → Delivers b start (run start es)

-- the claim, proved in proofs/Theorem: for any editions, on which there is no premise
abbrev pub DeliveryClaim : Type 1
DeliveryClaim = (P : Ports) (e : Editions) (b : BurstParameters) (w : World P) → Starts P e b w → Always b w
