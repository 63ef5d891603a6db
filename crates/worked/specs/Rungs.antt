-- "The starred rungs form one checked table of the definitions with a single claim": `Holds table`, proved in proofs/Rungs.antt.
use Rattle.std.specs.Prelude.{ℕ, List, [], ◌∷◌, ◌++◌, true, false, ◌≡◌, replicate}
use Rattle.status.specs.Pick.{◌with◌}
use Rattle.status.specs.Answer.{Word, Said, Left, ◌saying◌}
use Rattle.status.specs.Result.{Result}
use Rattle.transfer.specs.Limits.{made_of}
use Rattle.transfer.specs.declared.Transfer.{Transfer}
use Rattle.frame.specs.Write.{handing}
use Rattle.frame.specs.Reserved.{bytes_at}
use Rattle.sender.specs.Record.{set_up_read_of}
use Rattle.sender_steps.specs.Transmit.{frame_of}
use Rattle.sender.specs.Transmit.{next_of}
use Rattle.sender.specs.Confirmation.{ack_of, nak_of, timeout_of}
use Rattle.sender_steps.specs.declared.types.Sender.{Sender}
use Rattle.receiver_steps.specs.Record as receiver-steps
use Rattle.receiver.specs.Record as receiver
use Rattle.receiver_steps.specs.Fields.{expected≔, filled≔, waiting≔}
use Rattle.receiver_steps.specs.DataFrame.{storing}
use Rattle.receiver.specs.DataFrame.{arrival_of}
use Rattle.receiver_steps.specs.declared.types.Receiver.{Receiver}
use Rattle.worked.specs.Setting.{target, space}

-- a row: what the definitions give, and what the paper says
pub record Row : Type 1 where
  pub Of : Type 0
  pub given : Of
  pub paper : Of

infix 1 ◌is◌
abbrev pub ◌is◌ : {A : Type 0} → A → A → Row
◌is◌ {A} x y = record { Of = A; given = x; paper = y }

-- the claim: in every row the two are the same
abbrev pub Holds : List Row → Type 0
Holds [] = Unit {0}
Holds (r ∷ rs) = (r.given ≡ r.paper) × Holds rs

-- R1's read: hashes 123456h and ABCDEFh, tag 0012h; four bytes per frame, at most four unanswered, retry limit 1
abbrev pub read : ℕ → Transfer
read count = target count 4 1

-- what is said of a record that is set up
abbrev pub of : {X A : Type 0} → Result X → (X → A) → Result A
of (Result.value x) f = Result.value (f x)
of (Result.number n) f = Result.number n

-- a frame asked for, with a data buffer and space for 28 bytes in which no byte is zero
abbrev pub buffer : Sender → List ℕ
buffer s = replicate s.transfer.count 0x5a

abbrev pub ask : Sender → Left Sender
ask s = next_of s (buffer s) space

-- n bytes of the output buffer then, from i
abbrev pub out : ℕ → ℕ → Sender → List ℕ
out i n s = bytes_at (handing (ask s).says (frame_of s (buffer s)) space) i n

-- the sending port of a read of n bytes after some calls
abbrev pub after : List (Sender → Left Sender) → Sender → Sender
after [] s = s
after (k ∷ ks) s = after ks (k s).left

abbrev pub sends : {A : Type 0} → ℕ → List (Sender → Left Sender) → (Sender → A) → Result A
sends n ks f = of (set_up_read_of (read n)) λ s. f (after ks s)

-- a count at the constructor and at both set-ups
abbrev pub counts : ℕ → List (Result Transfer)
counts n = made_of (read n) ∷ of (set_up_read_of (read n)) (λ s. s.transfer) ∷ of (receiver.set_up_read_of (read n)) (λ r. r.transfer) ∷ []

-- "Ten bytes, filled 8", that wait for CDP
abbrev pub eight : Receiver
eight = receiver-steps.beginning (read 10) 0 10 with expected≔ 8 with filled≔ 8 with waiting≔ true

unfoldable pub table : List Row
table =
    -- R1 "offset 4, four bytes: header 01 12 34 56 00 AB CD EF 00 00 00 00 00 00 00 00 00 12 00 00 00 00 00 04": the second frame of eight bytes
    (sends 8 (ask ∷ []) (out 0 24) is
    Result.value
    (0x01 ∷ 0x12 ∷ 0x34 ∷ 0x56 ∷ 0x00 ∷ 0xab ∷ 0xcd ∷ 0xef ∷
    0x00 ∷ 0x00 ∷ 0x00 ∷ 0x00 ∷ 0x00 ∷ 0x00 ∷ 0x00 ∷ 0x00 ∷
    0x00 ∷ 0x12 ∷ 0x00 ∷ 0x00 ∷ 0x00 ∷ 0x00 ∷ 0x00 ∷ 0x04 ∷ [])) ∷
    -- R2 "Two data bytes: 28-byte frame, byte 11 is 02h"
    (sends 2 [] (λ s. (ask s).says) is Result.value (Said.frame 28)) ∷
    (sends 2 [] (out 11 1) is Result.value (0x02 ∷ [])) ∷
    -- R3 "Count 0 and 16,777,217: 1. Count 1 and 16,777,216: taken"
    (counts 0 is replicate 3 (Result.number 1)) ∷
    (counts 16_777_217 is replicate 3 (Result.number 1)) ∷
    (counts 1 is replicate 3 (Result.value (read 1))) ∷
    (counts 16_777_216 is replicate 3 (Result.value (read 16_777_216))) ∷
    -- R4 "ACK at once: 4"
    (sends 16 [] (λ s. (ack_of s).says) is Result.value (Said.refused 4)) ∷
    -- R5 "Three sent, two ACKs, timeout: offset 0, CDP one": of four frames, bytes 20 to 23 and 10 of the next one
    (sends 16 (ask ∷ ask ∷ ask ∷ ack_of ∷ ack_of ∷ timeout_of ∷ []) (λ s. out 20 4 s ++ out 10 1 s) is Result.value (0 ∷ 0 ∷ 0 ∷ 0 ∷ 1 ∷ [])) ∷
    -- R6 "Three sent, NAK: wait; two ACKs: offset 0, CDP one"
    (sends 16 (ask ∷ ask ∷ ask ∷ nak_of ∷ []) (λ s. (ask s).says) is Result.value (Said.word Word.wait)) ∷
    (sends 16 (ask ∷ ask ∷ ask ∷ nak_of ∷ ask ∷ ack_of ∷ ack_of ∷ []) (λ s. out 20 4 s ++ out 10 1 s) is Result.value (0 ∷ 0 ∷ 0 ∷ 0 ∷ 1 ∷ [])) ∷
    -- R7 "Limit 1, one frame, timed out twice: 29"; two frames were handed out
    (sends 4 (ask ∷ timeout_of ∷ ask ∷ []) (λ s. (timeout_of s).says) is Result.value (Said.failed 29 2)) ∷
    -- R8 "Ten bytes: offset 10 gives 20; offset 0 with eleven bytes 21"
    (of (receiver.set_up_read_of (read 10)) (λ r. (arrival_of r 10 false 4 10).says) is Result.value (Said.failed 20 0)) ∷
    (of (receiver.set_up_read_of (read 10)) (λ r. (arrival_of r 0 false 11 10).says) is Result.value (Said.failed 21 0)) ∷
    -- R9 "Ten bytes, filled 8, CDP one, offset 4, four bytes: stored": expected is its end 8, filled stays, waiting stops
    (arrival_of eight 4 true 4 10 is ((eight with waiting≔ false) saying Said.stored)) ∷
    (storing (arrival_of eight 4 true 4 10).says 4 (replicate 4 0x5a) (replicate 10 0xff) is replicate 4 0xff ++ replicate 4 0x5a ++ replicate 2 0xff) ∷ []
