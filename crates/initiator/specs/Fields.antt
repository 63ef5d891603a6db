-- The fields of a write's record, each set anew by itself: a definition says only what moves.
use Rattle.std.specs.Prelude.{ℕ, Bool}
use Rattle.sender_steps.specs.declared.types.Burst.{Burst}
use Rattle.sender_steps.specs.declared.types.Sender.{Sender}
use Rattle.initiator.specs.declared.types.Writer.{Writer}

abbrev pub sender≔ : Sender → Writer → Writer
sender≔ v x = record { sender = v; reached = x.reached; pending = x.pending; taken = x.taken }

abbrev pub reached≔ : ℕ → Writer → Writer
reached≔ v x = record { sender = x.sender; reached = v; pending = x.pending; taken = x.taken }

abbrev pub pending≔ : Bool → Writer → Writer
pending≔ v x = record { sender = x.sender; reached = x.reached; pending = v; taken = x.taken }

abbrev pub taken≔ : Burst → Writer → Writer
taken≔ v x = record { sender = x.sender; reached = x.reached; pending = x.pending; taken = v }
