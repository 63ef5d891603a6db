-- Both roles that send DATA are the sending port: a read's target, and a write's initiator. So what sender specs/Retries and specs/FirstBadEvent say holds of their records too.
-- Proved in proofs/SameSending.antt.
use Rattle.std.specs.Prelude.{ℕ, ◌-◌, ◌<◌, max, List, true, false, ◌⊎◌, ◌≡◌, length}
use Rattle.status.specs.Pick.{◌with◌}
use Rattle.status.specs.Answer.{Word, Said, ◌saying◌}
use Rattle.frame.specs.Write.{handing}
use Rattle.sender_steps.specs.Fields.{unanswered≔}
use Rattle.sender_steps.specs.Transmit.{frame_of}
use Rattle.sender_steps.specs.declared.types.Sender.{Sender}
use Rattle.sender.specs.Transmit.{next_of}
use Rattle.initiator.specs.Fields.{sender≔, reached≔}
use Rattle.initiator.specs.WriteRecord.{holds_of}
use Rattle.initiator.specs.WriteSend.{lent_of}
use Rattle.initiator.specs.declared.types.Writer.{Writer}
use Rattle.link.specs.Ports.{lending, Signal}
use Rattle.link.specs.Calls.{read_asked, read_signalled, signalled, write_asked, write_signalled}

-- a write's record that 1 and 2 do not refuse, with a burst taken that waits for the one in service
pub record Waits (w : Writer) : Type 0 where
  pub holds : holds_of w ≡ true
  pub live : w.sender.ended ≡ false
  pub pending : w.pending ≡ true

-- "The new burst starts, retries zero, no NAK pending": nothing of it is handed out, and none is taken behind it
abbrev pub begun : Writer → Writer
begun w =
    record {
      sender =
          record {
            transfer = w.sender.transfer;
            burst = w.taken;
            next = w.taken.base;
            balance = w.taken.base;
            unanswered = 0;
            nak = false;
            cdp = false;
            retries = 0;
            frames = 0;
            ended = false;
          };
      reached = w.taken.base;
      pending = false;
      taken = record { base = 0; end = 0; tptt = 0; limit = 0 };
    }

pub record SameSending : Type 0 where
  -- a read at the target
  pub read_asked_lem : (s : Sender) (d out : List ℕ) → s.transfer.write ≡ false → read_asked s d out ≡ lending (next_of s d out) (handing (next_of s d out).says (frame_of s d) out)
  pub read_signalled_lem : (g : Signal) (s : Sender) → s.transfer.write ≡ false → read_signalled g s ≡ signalled g s
  -- a write at the initiator, with no burst pending: the burst in service moves so, and the furthest offset with it
  pub write_asked_lem : (w : Writer) (d out : List ℕ) → lent_of w (length d) ≡ true → w.pending ≡ false →
      let x = next_of w.sender d out in
      write_asked w d out ≡ lending ((w with sender≔ x.left with reached≔ (max w.reached x.left.next)) saying x.says) (handing x.says (frame_of w.sender d) out)
  pub write_signalled_lem : (g : Signal) (w : Writer) → holds_of w ≡ true → w.pending ≡ false →
      let x = signalled g w.sender in write_signalled g w ≡ ((w with sender≔ x.left) saying x.says)
  -- "once nothing is unanswered; till then wait", and "answers, timeout or cut only lower or clear the count, with no retry and no failure"
  pub waits : (w : Writer) (d out : List ℕ) → Waits w → length d ≡ w.sender.transfer.count → 0 < w.sender.unanswered → write_asked w d out ≡ lending (w saying Said.word Word.wait) out
  pub lowers : (g : Signal) (w : Writer) → Waits w → (g ≡ Signal.ack) ⊎ (g ≡ Signal.nak) → 1 < w.sender.unanswered →
      write_signalled g w ≡ ((w with sender≔ (w.sender with unanswered≔ (w.sender.unanswered - 1))) saying Said.word Word.taken)
  pub starts : (g : Signal) (w : Writer) → Waits w → (g ≡ Signal.ack) ⊎ (g ≡ Signal.nak) → w.sender.unanswered ≡ 1 → write_signalled g w ≡ (begun w saying Said.word Word.taken)
  pub clears : (g : Signal) (w : Writer) → Waits w → (g ≡ Signal.timeout) ⊎ (g ≡ Signal.cut) → 0 < w.sender.unanswered → write_signalled g w ≡ (begun w saying Said.word Word.taken)
