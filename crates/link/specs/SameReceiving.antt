-- Both roles that take DATA are the receiving port, whose rules are in receiver specs/Marks: any bytes that pass 5 to 8 as DATA, any record that 1 and 2 do not refuse, any buffer.
-- Proved in proofs/SameReceiving.antt.
use Rattle.std.specs.Prelude.{ℕ, true, false, List, ◌⊎◌, ◌≢◌, ◌≡◌, length, take, drop}
use Rattle.status.specs.Pick.{pick, ◌with◌}
use Rattle.status.specs.Answer.{Word, Said, ◌saying◌, stores}
use Rattle.status.specs.Result.{Result}
use Rattle.arrival.specs.Accept.{accept_of}
use Rattle.arrival.specs.declared.Role.TheVariants.{ReadInitiator, WriteTarget}
use Rattle.arrival.specs.declared.Class.{Class}
use Rattle.arrival.specs.declared.Arrived.{Arrived}
use Rattle.receiver_steps.specs.Record.{lent_of}
use Rattle.receiver_steps.specs.DataFrame.{storing}
use Rattle.receiver_steps.specs.declared.types.Receiver.{Receiver}
use Rattle.receiver.specs.DataFrame.{arrival_of}
use Rattle.target.specs.Fields.{receiver≔, stored≔, under≔, since≔, elapsed≔}
use Rattle.target.specs.Arrival as target
use Rattle.target.specs.Record.{NONE, READY}
use Rattle.target.specs.declared.types.Target.{Target}
use Rattle.link.specs.Ports.{Called, lending}
use Rattle.link.specs.Calls.{ReaderCall, reader_call, TargetCall, target_call}

-- what the receiving port leaves, answers and stores of the frame a that the bytes f are
abbrev pub receiving : Receiver → Arrived → List ℕ → List ℕ → Called Receiver
receiving r a f b = let x = arrival_of r a.header.offset a.header.flags.cdp a.len (length b) in lending x (storing x.says a.header.offset (take a.len (drop a.start f)) b)

-- any bytes f that pass 5 to 8 as the frame a, at a record that 1 and 2 do not refuse: at the initiator of a read, and DATA; at the target of a write, which takes DATA only
pub record AtInitiator (r : Receiver) (f b : List ℕ) (a : Arrived) : Type 0 where
  pub lent : lent_of r (length b) ≡ true
  pub live : r.ended ≡ false
  pub read : r.transfer.write ≡ false
  pub accepted : accept_of ReadInitiator r.transfer f ≡ Result.value a
  pub data_frame : a.class ≡ Class.Data

pub record AtTarget (y : Target) (f b : List ℕ) (a : Arrived) : Type 0 where
  pub lent : target.lent_of y (length b) ≡ true
  pub live : y.receiver.ended ≡ false
  pub accepted : accept_of WriteTarget y.receiver.transfer f ≡ Result.value a

pub record SameReceiving : Type 0 where
  -- a read at the initiator
  pub read : (r : Receiver) (f b : List ℕ) (a : Arrived) → AtInitiator r f b a → reader_call (ReaderCall.bytes f) r b ≡ receiving r a f b
  -- a write at the target, under the current TPTT, once the XFER_RDY had its ACK: its receiving port, the answer, the buffer
  pub write : (y : Target) (f b : List ℕ) (a : Arrived) → AtTarget y f b a → a.header.tptt ≡ y.tptt → y.state ≡ READY →
      let x = target_call (TargetCall.bytes f) y b in lending (x.left.receiver saying x.says) x.lent ≡ receiving y.receiver a f b
  -- the rest of its record: "earlier tags leave use when DATA is stored under a later one"; request K4: each DATA frame stored starts the sum from zero, "not a discarded one"
  pub frees : (y : Target) (f b : List ℕ) (a : Arrived) → AtTarget y f b a → a.header.tptt ≡ y.tptt → y.state ≡ READY →
      let x = target_call (TargetCall.bytes f) y b in
      x.left ≡ pick (stores x.says) (y with receiver≔ x.left.receiver with stored≔ true with under≔ y.tptt with since≔ 0 with elapsed≔ 0) (y with receiver≔ x.left.receiver)
  -- "Until its ACK, write DATA that passes 5 to 8 is discarded": nothing changes
  pub early : (y : Target) (f b : List ℕ) (a : Arrived) → AtTarget y f b a → a.header.tptt ≡ y.tptt → y.state ≢ NONE → y.state ≢ READY →
      target_call (TargetCall.bytes f) y b ≡ lending (y saying Said.word Word.discarded) b
  -- "8: .. in write DATA also a TPTT not current"; before the first XFER_RDY none is
  pub unknown : (y : Target) (f b : List ℕ) (a : Arrived) → AtTarget y f b a → (a.header.tptt ≢ y.tptt) ⊎ (y.state ≡ NONE) → target_call (TargetCall.bytes f) y b ≡ lending (y saying Said.refused 8) b
