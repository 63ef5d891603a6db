-- A ladder is set up at both ends; "a write is one burst, its XFER_RDY taken and acknowledged".
use Rattle.std.specs.Prelude.{ℕ, Bool, true, false, leb, None, unwrap_or}
use Rattle.status.specs.Pick.{pick}
use Rattle.status.specs.Result.{Result}
use Rattle.transfer.specs.declared.Transfer.{Transfer}
use Rattle.sender.specs.Record as sender
use Rattle.sender_steps.specs.declared.types.Sender.{Sender}
use Rattle.receiver.specs.Record as receiver
use Rattle.receiver_steps.specs.declared.types.Receiver.{Receiver}
use Rattle.initiator.specs.WriteRecord as initiator
use Rattle.initiator.specs.WriteTake.{write_arrival_of}
use Rattle.initiator.specs.declared.types.Writer.{Writer}
use Rattle.target.specs.Record as target
use Rattle.target.specs.Transmit.{next_of}
use Rattle.target.specs.Confirmation.{ack_of}
use Rattle.target.specs.declared.types.Target.{Target}
use Rattle.link.specs.Claim.{xfer_rdy_sent}
use Rattle.ladder_text.specs.declared.types.Run.{Run}
use Rattle.ladder_text.specs.declared.types.Direction.{Direction}
use Rattle.ladder_text.specs.declared.types.Direction.TheVariants.{Read, Write}
use Rattle.ladder_run.specs.Row.{area, handed, COUNT-MOST}
use Rattle.ladder_run.specs.declared.types.Sending.{Sending}
use Rattle.ladder_run.specs.declared.types.Sending.TheVariants as sending
use Rattle.ladder_run.specs.declared.types.Receiving.{Receiving}
use Rattle.ladder_run.specs.declared.types.Receiving.TheVariants as receiving
use Rattle.ladder_run.specs.declared.types.Ladder.{Ladder}

-- hashed addresses and tag: any would do
abbrev pub INITIATOR : ℕ
INITIATOR = 0x12_3456

abbrev pub TARGET : ℕ
TARGET = 0xab_cdef

abbrev pub TAG : ℕ
TAG = 0x0012

-- line one as a transfer at one end; one burst; SAS-1.1; a read starts at 0
abbrev pub transfer_of : Run → Bool → ℕ → ℕ → Transfer
transfer_of r write local remote =
    record { write = write; count = r.count; size = r.size; window = r.window; limit = r.limit; burst = r.count; local = local; remote = remote; tag = TAG; sas2 = false; value = 0; irt = 0; start = 0 }

-- nothing has gone out yet
abbrev pub fresh : Sending → Receiving → Ladder
fresh s r = record { sending = s; receiving = r; frames = 0; before = 0; report = None }

abbrev pub ready_read : Result Sender → Result Receiver → Result Ladder
ready_read (Result.number n) r = Result.number n
ready_read (Result.value s) (Result.number n) = Result.number n
ready_read (Result.value s) (Result.value r) = Result.value (fresh (sending.Read s) (receiving.Read r))

-- the target hands out its XFER_RDY, the initiator takes it, the target gets the ACK
unfoldable pub exchanged : Writer → Target → Ladder
exchanged w y =
    fresh (sending.Write (write_arrival_of w (xfer_rdy_sent y area (unwrap_or (handed (next_of y area).says) 0))).left)
    (receiving.Write (ack_of (next_of y area).left).left)

abbrev pub ready_write : Result Writer → Result Target → Result Ladder
ready_write (Result.number n) y = Result.number n
ready_write (Result.value w) (Result.number n) = Result.number n
ready_write (Result.value w) (Result.value y) = Result.value (exchanged w y)

abbrev pub ready_set_up : Direction → Run → Result Ladder
ready_set_up Read r = ready_read (sender.set_up_read_of (transfer_of r false TARGET INITIATOR)) (receiver.set_up_read_of (transfer_of r false INITIATOR TARGET))
ready_set_up Write r = ready_write (initiator.set_up_write_of (transfer_of r true INITIATOR TARGET)) (target.set_up_write_of (transfer_of r true TARGET INITIATOR))

-- "takes counts to 65,536"; the other limits are the transfer's: 1
unfoldable pub set_up_of : Run → Result Ladder
set_up_of r = pick (leb r.count COUNT-MOST) (ready_set_up r.direction r) (Result.number 1)
