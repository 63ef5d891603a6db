-- The short paths of a write at the initiator: what they test and leave. Only private functions promise these; the contracts that C has do not name them.
use Rattle.std.specs.Prelude.{ℕ, ◌+◌, ◌<◌, max, ◌≡◌, true, false}
use Rattle.status.specs.Pick.{◌with◌}
use Rattle.sender_steps.specs.Fields.{unanswered≔}
use Rattle.sender_steps.specs.Transmit.{sent_of, waits_of}
use Rattle.initiator.specs.Fields.{sender≔, reached≔}
use Rattle.initiator.specs.WriteRecord.{holds_of}
use Rattle.initiator.specs.WriteSend.{lent_of}
use Rattle.initiator.specs.declared.types.Writer.{Writer}
use Rattle.ssp.specs.ShortSend.{FullDue}

-- 1 and 2 do not apply
abbrev pub WriteOpen : Writer → Type 0
WriteOpen w = (w.sender.ended ≡ false) × (holds_of w ≡ true)

-- an ACK leaves frames unanswered, a burst taken or not
abbrev pub OneOfMany : Writer → Type 0
OneOfMany w = (1 < w.sender.unanswered) × WriteOpen w

-- an ACK leaves nothing unanswered; no burst is taken, and no NAK is pending
abbrev pub LastOne : Writer → Type 0
LastOne w = (w.sender.unanswered ≡ 1) × (w.sender.nak ≡ false) × (w.pending ≡ false) × WriteOpen w

-- only the count moves
abbrev pub count_left : Writer → ℕ → Writer
count_left w n = w with sender≔ (w.sender with unanswered≔ n)

-- 1 and 2 do not apply, with a data buffer of n bytes
abbrev pub WriteLent : Writer → ℕ → Type 0
WriteLent w n = (w.sender.ended ≡ false) × (lent_of w n ≡ true)

-- no burst is taken; a frame of the full data size is due, and there is room for it
abbrev pub FullFrame : Writer → ℕ → ℕ → Type 0
FullFrame w n room = (w.pending ≡ false) × FullDue w.sender room × WriteLent w n

-- the record once it is handed out
abbrev pub handed_out : Writer → Writer
handed_out w = w with sender≔ (sent_of w.sender) with reached≔ (max w.reached (w.sender.next + w.sender.transfer.size))

-- no burst is taken, and no frame is due
abbrev pub WaitDue : Writer → ℕ → Type 0
WaitDue w n = (w.pending ≡ false) × (waits_of w.sender ≡ true) × WriteLent w n
