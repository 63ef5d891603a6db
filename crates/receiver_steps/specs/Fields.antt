-- The record's fields, each set anew by itself: a definition says only what moves.
use Rattle.std.specs.Prelude.{ℕ, Bool}
use Rattle.receiver_steps.specs.declared.types.Receiver.{Receiver}

abbrev pub expected≔ : ℕ → Receiver → Receiver
expected≔ v x = record { transfer = x.transfer; base = x.base; end = x.end; expected = v; filled = x.filled; waiting = x.waiting; ended = x.ended }

abbrev pub filled≔ : ℕ → Receiver → Receiver
filled≔ v x = record { transfer = x.transfer; base = x.base; end = x.end; expected = x.expected; filled = v; waiting = x.waiting; ended = x.ended }

abbrev pub waiting≔ : Bool → Receiver → Receiver
waiting≔ v x = record { transfer = x.transfer; base = x.base; end = x.end; expected = x.expected; filled = x.filled; waiting = v; ended = x.ended }

abbrev pub ended≔ : Bool → Receiver → Receiver
ended≔ v x = record { transfer = x.transfer; base = x.base; end = x.end; expected = x.expected; filled = x.filled; waiting = x.waiting; ended = v }
