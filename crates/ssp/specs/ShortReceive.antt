-- The short paths of the receiving ports: what they test, and what they tell and leave. Only private functions promise these; the contracts that C has do not name them.
use Rattle.std.specs.Prelude.{ℕ, ◌+◌, ◌-◌, ◌≤◌, List, ◌≡◌, true, false, length, eqb}
use Rattle.status.specs.Pick.{pick, ◌with◌}
use Rattle.frame.specs.Format.{field}
use Rattle.frame.specs.PlainData.{PlainData}
use Rattle.receiver_steps.specs.Fields.{expected≔, filled≔}
use Rattle.receiver_steps.specs.Record.{lent_of}
use Rattle.receiver_steps.specs.declared.types.Receiver.{Receiver}
use Rattle.target.specs.Fields.{receiver≔, stored≔, under≔, since≔, elapsed≔}
use Rattle.target.specs.Record.{READY}
use Rattle.target.specs.Arrival as target
use Rattle.target.specs.declared.types.Target.{Target}
use Rattle.ssp.specs.CAnswer.{RECEIVED, STORED, word}
use Rattle.ssp.specs.declared.types.CAnswer.{CAnswer}

-- no more data than the burst has left
abbrev pub Fits : Receiver → ℕ → Type 0
Fits r n = r.expected + n ≤ r.end + 24

-- a plain DATA frame f, at the expected offset; nothing above it is stored, and the port does not wait for CDP
abbrev pub Next : Receiver → List ℕ → Type 0
Next r f = PlainData f r.transfer.local r.transfer.remote r.transfer.tag r.expected × (r.waiting ≡ false) × (r.expected ≡ r.filled)

-- the end of its data
abbrev pub past_of : Receiver → ℕ → ℕ
past_of r n = r.expected + (n - 24)

-- the answer to n bytes of frame
unfoldable pub stored_told : Receiver → ℕ → CAnswer
stored_told r n = pick (eqb (past_of r n) r.end) (word RECEIVED) (word STORED)

abbrev pub grown_of : Receiver → ℕ → Receiver
grown_of r n = r with expected≔ (past_of r n) with filled≔ (past_of r n)

-- a read's record and a data buffer of m bytes: 1 and 2 do not apply, and f is such a frame
abbrev pub ReadNext : Receiver → List ℕ → ℕ → Type 0
ReadNext r f m = Fits r (length f) × Next r f × (r.transfer.write ≡ false) × (r.ended ≡ false) × (lent_of r m ≡ true)

-- the same of a write's record, whose XFER_RDY had its ACK; f carries its tag
abbrev pub WriteNext : Target → List ℕ → ℕ → Type 0
WriteNext x f m = Fits x.receiver (length f) × Next x.receiver f × (field f 18 2 ≡ x.tptt) × (x.state ≡ READY) × (x.receiver.ended ≡ false) × (target.lent_of x m ≡ true)

-- the record once a frame of n bytes is stored
abbrev pub write_grown_of : Target → ℕ → Target
write_grown_of x n = x with receiver≔ (grown_of x.receiver n) with elapsed≔ 0 with stored≔ true with under≔ x.tptt with since≔ 0
