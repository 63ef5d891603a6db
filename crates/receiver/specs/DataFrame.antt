-- A DATA frame that has passed 5 to 8, at the receiving port: 1, 2, then its step.
use Rattle.std.specs.Prelude.{ℕ, Bool}
use Rattle.status.specs.Entry.{entry_of}
use Rattle.status.specs.Answer.{Left, unless}
use Rattle.receiver_steps.specs.Record.{lent_of}
use Rattle.receiver_steps.specs.DataFrame.{disposition_of, taken_of}
use Rattle.receiver_steps.specs.declared.types.Receiver.{Receiver}

-- n data bytes at a buffer of m bytes
unfoldable pub arrival_of : Receiver → ℕ → Bool → ℕ → ℕ → Left Receiver
arrival_of r offset cdp n m = unless (entry_of (lent_of r m) r.ended) r (taken_of (disposition_of r offset cdp n) r offset n)
