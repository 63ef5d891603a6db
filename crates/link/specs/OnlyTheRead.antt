-- Request K5: "The host's buffer is at least that sum long, and its bytes outside the read never change."
-- One law over the calls at the initiator of a read: any record, any bytes, any buffer; refusals too. Proved in proofs/OnlyTheRead.antt.
use Rattle.std.specs.Prelude.{ℕ, ◌≤◌, ◌<◌, List, ◌⊎◌, ◌≡◌, length, get_or}
use Rattle.transfer.specs.Limits.{past}
use Rattle.transfer.specs.declared.Transfer.{Transfer}
use Rattle.receiver_steps.specs.declared.types.Receiver.{Receiver}
use Rattle.link.specs.Calls.{ReaderCall, reader_call}

-- the buffer before and after: of the same length, and the same below the start of t and from start plus count on
pub record OutsideSame (t : Transfer) (before after : List ℕ) : Type 0 where
  pub size : length after ≡ length before
  pub bytes : (i : ℕ) → (i < t.start) ⊎ (past t ≤ i) → get_or after i 0 ≡ get_or before i 0

-- the record keeps its transfer, so the next call leaves the same places as they were
abbrev pub OnlyTheRead : Type 0
OnlyTheRead =
    (c : ReaderCall) (r : Receiver) (b : List ℕ) →
    let x = reader_call c r b in (x.left.transfer ≡ r.transfer) × OutsideSame r.transfer b x.lent
