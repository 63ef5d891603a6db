-- What a role does not look at: TLR CONTROL, "the ports .. act on nothing there" (request K8), and a TPTT that has no meaning there, "Receivers of both ignore it" (request K7).
-- One law over the roles, proved in proofs/TakenAlike.antt.
use Rattle.std.specs.Prelude.{ℕ, ◌/◌, ◌%◌, List, ◌≡◌, ◌≢◌, length, get_or}
use Rattle.frame.specs.TlrControl.{SameButTlr}
use Rattle.frame.specs.TransferTag.{SameButTptt}
use Rattle.arrival.specs.declared.Role.{Role}
use Rattle.arrival.specs.declared.Role.TheVariants.{ReadInitiator, WriteInitiator, WriteTarget, ReadTarget}
use Rattle.sender_steps.specs.declared.types.Sender.{Sender}
use Rattle.receiver_steps.specs.declared.types.Receiver.{Receiver}
use Rattle.initiator.specs.WriteTake as initiator
use Rattle.initiator.specs.declared.types.Writer.{Writer}
use Rattle.target.specs.declared.types.Target.{Target}
use Rattle.link.specs.Ports.{Called, lending}
use Rattle.link.specs.Calls.{SenderCall, sender_call, ReaderCall, reader_call, TargetCall, target_call}
use Rattle.link.specs.Reading.{IsResponse}

-- the record of a role
abbrev pub RecordOf : Role → Type 0
RecordOf ReadInitiator = Receiver
RecordOf WriteInitiator = Writer
RecordOf WriteTarget = Target
RecordOf ReadTarget = Sender

-- the bytes f arrive at a role, with the data buffer b: the record, the answer and the buffer that they leave; a role that takes no DATA is lent none, and b stays
abbrev pub arriving : (role : Role) → RecordOf role → List ℕ → List ℕ → Called (RecordOf role)
arriving ReadInitiator r f b = reader_call (ReaderCall.bytes f) r b
arriving WriteInitiator w f b = lending (initiator.write_arrival_of w f) b
arriving WriteTarget y f b = target_call (TargetCall.bytes f) y b
arriving ReadTarget s f b = lending (sender_call (SenderCall.bytes f) s) b

-- where a role ignores the TPTT of a frame: in a read always, at a write's initiator in a RESPONSE; an XFER_RDY's and write DATA's counts
abbrev pub IgnoresTptt : Role → List ℕ → Type 0
IgnoresTptt ReadInitiator f = Unit {0}
IgnoresTptt WriteInitiator f = IsResponse f
IgnoresTptt WriteTarget f = ⊥
IgnoresTptt ReadTarget f = Unit {0}

-- f and g differ at most in what the role ignores
pub record SameTo (role : Role) (f g : List ℕ) : Type 0 where
  pub size : length f ≡ length g
  pub others : (i : ℕ) → i ≢ 10 → (IgnoresTptt role f → (i ≢ 18) × (i ≢ 19)) → get_or f i 0 ≡ get_or g i 0
  -- byte 10: all but TLR CONTROL
  pub above : get_or f 10 0 / 32 ≡ get_or g 10 0 / 32
  pub below : get_or f 10 0 % 8 ≡ get_or g 10 0 % 8

-- frames that differ only in what a role ignores are taken alike by it
abbrev pub TakenAlike : Type 0
TakenAlike = (role : Role) (x : RecordOf role) (f g b : List ℕ) → SameTo role f g → arriving role x f b ≡ arriving role x g b

-- request K8's part: a frame that differs from another only in TLR CONTROL is taken alike by each role
abbrev pub TlrIgnored : Type 0
TlrIgnored = (role : Role) (x : RecordOf role) (f g b : List ℕ) → SameButTlr f g → arriving role x f b ≡ arriving role x g b

-- request K7's part: a frame that differs from another only in TPTT is taken alike by each role that ignores it
abbrev pub TagIgnored : Type 0
TagIgnored = (role : Role) (x : RecordOf role) (f g b : List ℕ) → IgnoresTptt role f → SameButTptt f g → arriving role x f b ≡ arriving role x g b
