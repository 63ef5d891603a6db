-- "The receiving port", a field a sentence, in plain facts that name none of the step's definitions: one DATA frame that has passed 5 to 8, at any record that 1 and 2 do not refuse.
-- One of the cases always holds (`covers`), and each gives the whole record and the answer: so the law determines both. The buffer follows the answer (`storing`).
-- Proved in proofs/Marks.antt.
use Rattle.std.specs.Prelude.{ℕ, ◌+◌, ◌≤◌, ◌<◌, max, Bool, true, false, ◌⊎◌, ◌≢◌, ◌↔◌, ◌≡◌}
use Rattle.status.specs.Answer.{Word, Said, Left, ◌saying◌}
use Rattle.receiver_steps.specs.Record.{lent_of}
use Rattle.receiver_steps.specs.declared.types.Receiver.{Receiver}
use Rattle.receiver.specs.DataFrame.{arrival_of}

-- "20: the offset is below base or not below end; or, retries off, not the expected one; or, retries on and CDP one, above the filled mark"
pub data OffsetError (r : Receiver) (offset : ℕ) (cdp : Bool) : Type 0 where
  below_base : offset < r.base → OffsetError r offset cdp
  not_below_end : r.end ≤ offset → OffsetError r offset cdp
  not_expected : r.transfer.limit ≡ 0 → offset ≢ r.expected → OffsetError r offset cdp
  above_filled : 0 < r.transfer.limit → cdp ≡ true → r.filled < offset → OffsetError r offset cdp

-- a failure by its number: "each is given where its condition holds and no earlier one does"
pub data Fails (r : Receiver) (offset : ℕ) (cdp : Bool) (n : ℕ) : ℕ → Type 0 where
  offset_error : OffsetError r offset cdp → Fails r offset cdp n 20
  -- "offset plus data passes the burst's end"
  too_much : ¬ OffsetError r offset cdp → r.end < offset + n → Fails r offset cdp n 21
  -- "no data bytes"
  no_data : ¬ OffsetError r offset cdp → offset + n ≤ r.end → n ≡ 0 → Fails r offset cdp n 22

-- "20, 21 and 22 are tested before the discards below"
abbrev pub Passes : Receiver → ℕ → Bool → ℕ → Type 0
Passes r offset cdp n = (k : ℕ) → ¬ Fails r offset cdp n k

-- "Retries on, CDP zero: a frame at another than the expected offset is discarded and waiting starts. While waiting, DATA with CDP zero is discarded."
pub record Discards (r : Receiver) (offset : ℕ) (cdp : Bool) : Type 0 where
  pub retries_on : 0 < r.transfer.limit
  pub cdp_zero : cdp ≡ false
  pub why : (r.waiting ≡ true) ⊎ (offset ≢ r.expected)

pub data Case (r : Receiver) (offset : ℕ) (cdp : Bool) (n : ℕ) : Type 0 where
  filled : r.filled ≡ r.end → Case r offset cdp n
  fails : r.filled ≢ r.end → (k : ℕ) → Fails r offset cdp n k → Case r offset cdp n
  discards : r.filled ≢ r.end → Passes r offset cdp n → Discards r offset cdp → Case r offset cdp n
  stores : r.filled ≢ r.end → Passes r offset cdp n → ¬ Discards r offset cdp → Case r offset cdp n

-- the record r with these marks
abbrev pub marked : Receiver → (expected filled : ℕ) (waiting ended : Bool) → Receiver
marked r e f w d = record { transfer = r.transfer; base = r.base; end = r.end; expected = e; filled = f; waiting = w; ended = d }

-- a frame with data offset, CDP and n data bytes; x: what it leaves of r, and the answer
pub record ReceivingPort (r : Receiver) (offset : ℕ) (cdp : Bool) (n : ℕ) (x : Left Receiver) : Type 0 where
  -- "Once filled, it .. discards DATA that passes 5 to 8."
  pub filled : r.filled ≡ r.end → x ≡ (r saying Said.word Word.discarded)
  -- 20, 21, 22: "failures that end the port"
  pub fails : (k : ℕ) → ((r.filled ≢ r.end) × Fails r offset cdp n k) ↔ (x ≡ (marked r r.expected r.filled r.waiting true saying Said.failed k 0))
  -- "is discarded and waiting starts"
  pub discards : r.filled ≢ r.end → (Passes r offset cdp n × Discards r offset cdp) ↔ (x ≡ (marked r r.expected r.filled true r.ended saying Said.word Word.discarded))
  -- "Any other frame's data goes to its place .. Expected becomes its end, filled the greater of the two; waiting stops."
  pub stores : r.filled ≢ r.end → Passes r offset cdp n → ¬ Discards r offset cdp → x.left ≡ marked r (offset + n) (max r.filled (offset + n)) false r.ended
  -- "Once filled, it has reported received": with the frame that fills it; every other one is stored
  pub received : ((r.filled ≢ r.end) × (x.left.filled ≡ r.end)) ↔ (x.says ≡ Said.received)
  pub stored : r.filled ≢ r.end → Passes r offset cdp n → ¬ Discards r offset cdp → x.left.filled ≢ r.end → x.says ≡ Said.stored
  pub covers : Case r offset cdp n

abbrev pub Marks : Type 0
Marks = (r : Receiver) (offset : ℕ) (cdp : Bool) (n m : ℕ) → lent_of r m ≡ true → r.ended ≡ false → ReceivingPort r offset cdp n (arrival_of r offset cdp n m)
