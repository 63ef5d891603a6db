-- "The receiving port": one DATA frame that has passed 5 to 8, its data offset, CDP and n data bytes, once 1 and 2 are tested.
use Rattle.std.specs.Prelude.{ℕ, ◌+◌, max, List, Bool, true, false, cond, not, ◌&&◌, ◌||◌, leb, ltb, eqb}
use Rattle.status.specs.Pick.{pick, ◌with◌}
use Rattle.status.specs.Number.{failure_number}
use Rattle.status.specs.Answer.{Word, Said, stores, Left, ◌saying◌}
use Rattle.status.specs.declared.words.Failure.TheVariants.{DataOffsetError, TooMuchData, IncorrectDataLength}
use Rattle.frame.specs.Write.{placed}
use Rattle.receiver_steps.specs.Fields.{expected≔, filled≔, waiting≔}
use Rattle.receiver_steps.specs.Record.{failed_of}
use Rattle.receiver_steps.specs.declared.types.Receiver.{Receiver}
use Rattle.receiver_steps.specs.declared.types.DataDisposition.{DataDisposition}
use Rattle.receiver_steps.specs.declared.types.DataDisposition.TheVariants.{Discard, Skip, Store}
use Rattle.status.specs.declared.words.Failure.{Failure}
use Rattle.std.specs.Prelude as code
use Rattle.std.specs.Prelude.{Ok, Err}

-- what becomes of it, or the failure
abbrev pub Disposition : Type 0
Disposition = code.Result DataDisposition Failure

-- "20: the offset is below base or not below end; or, retries off, not the expected one; or, retries on and CDP one, above the filled mark"
unfoldable pub misplaced : Receiver → ℕ → Bool → Bool
misplaced r offset cdp =
    ltb offset r.base || leb r.end offset ||
    pick (eqb r.transfer.limit 0) (not (eqb offset r.expected)) (cdp && ltb r.filled offset)

-- "Retries on, CDP zero: a frame at another than the expected offset is discarded .. While waiting, DATA with CDP zero is discarded"
unfoldable pub out_of_step : Receiver → ℕ → Bool → Bool
out_of_step r offset cdp = ltb 0 r.transfer.limit && not cdp && (r.waiting || not (eqb offset r.expected))

-- "Once filled, it .. discards DATA"; 20, 21 and 22 "are tested before the discards below"
unfoldable pub disposition_of : Receiver → ℕ → Bool → ℕ → Disposition
disposition_of r offset cdp n =
    pick (eqb r.filled r.end) (Ok Discard)
    (pick (misplaced r offset cdp) (Err DataOffsetError)
    (pick (ltb r.end (offset + n)) (Err TooMuchData)
    (pick (eqb n 0) (Err IncorrectDataLength)
    (pick (out_of_step r offset cdp) (Ok Skip) (Ok Store)))))

-- "is discarded and waiting starts"
abbrev pub waiting_of : Receiver → Receiver
waiting_of r = r with waiting≔ true

-- "Expected becomes its end, filled the greater of the two; waiting stops"
abbrev pub stored_of : Receiver → ℕ → ℕ → Receiver
stored_of r offset n = r with expected≔ (offset + n) with filled≔ (max r.filled (offset + n)) with waiting≔ false

-- the frame that fills the burst is stored and reported received in one answer
abbrev pub stored_by : Receiver → ℕ → ℕ → Left Receiver
stored_by r offset n = stored_of r offset n saying pick (eqb (max r.filled (offset + n)) r.end) Said.received Said.stored

abbrev pub taken_of : Disposition → Receiver → ℕ → ℕ → Left Receiver
taken_of (Ok Discard) r offset n = r saying Said.word Word.discarded
taken_of (Ok Skip) r offset n = waiting_of r saying Said.word Word.discarded
taken_of (Err why) r offset n = failed_of r (failure_number why)
taken_of (Ok Store) r offset n = stored_by r offset n

-- n data bytes at a buffer of m bytes: where 1 and 2 do not apply it is `arrival_of` of crate receiver; of number 1 only what the store leans on is tested, that the burst is in the buffer
unfoldable pub data_step_of : Receiver → ℕ → Bool → ℕ → ℕ → Left Receiver
data_step_of r offset cdp n m = pick (leb r.end m) (taken_of (disposition_of r offset cdp n) r offset n) (r saying Said.refused 1)

-- "Any other frame's data goes to its place in the lent buffer": outside the stored part nothing changes, and nothing where nothing is stored
abbrev pub storing : Said → ℕ → List ℕ → List ℕ → List ℕ
storing a offset iu buffer = cond (stores a) (placed buffer offset iu) buffer
