-- The two ports of a ladder: those of the delivery claim, of a read or of a write burst.
use Rattle.std.specs.Prelude.{ℕ, List}
use Rattle.status.specs.Answer.{Left, ◌saying◌}
use Rattle.transfer.specs.Limits.{past}
use Rattle.link.specs.Ports.{Called, Signal}
use Rattle.link.specs.Reading.{read_ports}
use Rattle.link.specs.Writing.{write_ports}
use Rattle.ladder_run.specs.declared.types.Sending.{Sending}
use Rattle.ladder_run.specs.declared.types.Sending.TheVariants as sending
use Rattle.ladder_run.specs.declared.types.Receiving.{Receiving}
use Rattle.ladder_run.specs.declared.types.Receiving.TheVariants as receiving
use Rattle.ladder_run.specs.declared.ends.Signal as ends
use Rattle.ladder_run.specs.declared.ends.Signal.TheVariants.{Ack, Nak, Timeout}

-- what a call leaves, as a port of one direction
abbrev pub onto : {X Y : Type 0} → (X → Y) → Left X → Left Y
onto f x = f x.left saying x.says

abbrev pub called : {X Y : Type 0} → (X → Y) → Called X → Called Y
called f x = record { left = f x.left; says = x.says; lent = x.lent }

-- a frame asked for: the data buffer, the output buffer
abbrev pub ask_of : Sending → List ℕ → List ℕ → Called Sending
ask_of (sending.Read s) d out = called sending.Read (read_ports.ask s d out)
ask_of (sending.Write w) d out = called sending.Write (write_ports.ask w d out)

-- the three signals of a ladder
abbrev pub told : ends.Signal → Signal
told Ack = Signal.ack
told Nak = Signal.nak
told Timeout = Signal.timeout

abbrev pub signalled_of : Signal → Sending → Left Sending
signalled_of g (sending.Read s) = onto sending.Read (read_ports.signal g s)
signalled_of g (sending.Write w) = onto sending.Write (write_ports.signal g w)

-- a frame arrives whole: its bytes, the data buffer
abbrev pub arrive_of : Receiving → List ℕ → List ℕ → Called Receiving
arrive_of (receiving.Read r) f b = called receiving.Read (read_ports.receive_call (read_ports.arrival f) r b)
arrive_of (receiving.Write y) f b = called receiving.Write (write_ports.receive_call (write_ports.arrival f) y b)

abbrev pub filled_of : Receiving → ℕ
filled_of (receiving.Read r) = r.filled
filled_of (receiving.Write y) = y.receiver.filled

-- start plus count of the transfer at the sending end
abbrev pub past_of : Sending → ℕ
past_of (sending.Read s) = past s.transfer
past_of (sending.Write w) = past w.sender.transfer
