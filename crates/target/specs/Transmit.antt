-- "The target hands out one XFER_RDY per burst": an XFER_RDY asked for.
use Rattle.std.specs.Prelude.{ℕ, ◌+◌, ◌-◌, min, List, Bool, false, not, ◌&&◌, ◌||◌, ltb, eqb}
use Rattle.status.specs.Pick.{pick, ◌with◌}
use Rattle.status.specs.Entry.{entry_of}
use Rattle.status.specs.Answer.{Word, Said, Left, ◌saying◌, unless}
use Rattle.frame.specs.Format.{XFER-RDY, encode}
use Rattle.frame.specs.Write.{hands}
use Rattle.frame.specs.XferRdy.{xfer_rdy_bytes}
use Rattle.frame.specs.declared.types.Header.{Header}
use Rattle.receiver_steps.specs.Record.{beginning}
use Rattle.target.specs.Fields.{receiver≔, state≔, tptt≔, retries≔, since≔}
use Rattle.target.specs.Tag.{lowest, used}
use Rattle.target.specs.Record.{UNANSWERED, AGAIN, holds_of}
use Rattle.target.specs.declared.types.Target.{Target}

-- one is to be sent again, or "the previous one is filled" and the byte count is not reached; "when none is due it says wait"
unfoldable pub due_of : Target → Bool
due_of x =
    eqb x.state AGAIN ||
    (not (eqb x.state UNANSWERED) && eqb x.receiver.filled x.receiver.end && ltb x.receiver.end x.receiver.transfer.count)

-- "for the lesser of the burst size and what remains", behind the previous burst
abbrev pub burst_end : Target → ℕ
burst_end x = x.receiver.end + min x.receiver.transfer.burst (x.receiver.transfer.count - x.receiver.end)

-- the next burst; its marks stand at its base from the start, so that they are within it, and are set again at the ACK
abbrev pub next_burst : Target → Target
next_burst x = x with receiver≔ (beginning x.receiver.transfer x.receiver.end (burst_end x)) with retries≔ 0

-- resent: "the rest the same"
unfoldable pub burst_of : Target → Target
burst_of x = pick (eqb x.state AGAIN) x (next_burst x)

-- the record once the XFER_RDY is handed out: "a new TPTT"
unfoldable pub issued_of : Target → Target
issued_of x = burst_of x with state≔ UNANSWERED with tptt≔ (lowest (used x.stored x.under x.since)) with since≔ (x.since + 1)

-- the XFER_RDY that y hands out: "with RETRY DATA FRAMES one if retries are on"; RETRANSMIT one if it is sent again; TLR CONTROL (request K8) and data offset zero
unfoldable pub xfer_rdy_header : Target → Bool → Header
xfer_rdy_header y again =
    record {
      frametype = XFER-RDY;
      dest = y.receiver.transfer.remote;
      source = y.receiver.transfer.local;
      flags = record { tlr = 0; retry = ltb 0 y.receiver.transfer.limit; retransmit = again; cdp = false };
      tag = y.receiver.transfer.tag;
      tptt = y.tptt;
      offset = 0;
    }

unfoldable pub xfer_rdy_iu : Target → List ℕ
xfer_rdy_iu y = xfer_rdy_bytes (record { offset = y.receiver.base; len = y.receiver.end - y.receiver.base })

unfoldable pub frame_of : Target → List ℕ
frame_of x = encode (xfer_rdy_header (issued_of x) (eqb x.state AGAIN)) (xfer_rdy_iu (issued_of x))

-- an XFER_RDY is due
abbrev pub hands_of : Target → List ℕ → Left Target
hands_of x out = hands x (issued_of x) (frame_of x) out

unfoldable pub next_of : Target → List ℕ → Left Target
next_of x out = unless (entry_of (holds_of x) x.receiver.ended) x (pick (due_of x) (hands_of x out) (x saying Said.word Word.wait))
