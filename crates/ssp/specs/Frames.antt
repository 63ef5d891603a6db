-- Frames and XFER_RDY IUs for C.
use Rattle.std.specs.Prelude.{ℕ, ◌≡◌, List, length, ltb}
use Rattle.status.specs.Pick.{pick}
use Rattle.status.specs.Result.{Result}
use Rattle.frame.specs.declared.types.Header as frame-header
use Rattle.frame.specs.declared.types.XferRdy as frame-xfer-rdy
use Rattle.frame.specs.declared.types.Parsed.{Parsed}
use Rattle.ssp.specs.CAnswer.{REFUSED, FAILED, FRAME, PARSED, answer_with}
use Rattle.ssp.specs.declared.types.CAnswer.{CAnswer}
use Rattle.ssp.specs.declared.types.Header.{Header}
use Rattle.ssp.specs.declared.types.XferRdy.{XferRdy}

-- a header with TLR CONTROL and the flags in it is the frame's header, and back
abbrev pub framed : Header → frame-header.Header
framed h =
    record {
      frametype = h.frametype;
      dest = h.dest;
      source = h.source;
      flags = record { tlr = h.tlr; retry = h.retry; retransmit = h.retransmit; cdp = h.cdp };
      tag = h.tag;
      tptt = h.tptt;
      offset = h.offset;
    }

abbrev pub flat : frame-header.Header → Header
flat h =
    record {
      frametype = h.frametype;
      dest = h.dest;
      source = h.source;
      retry = h.flags.retry;
      retransmit = h.flags.retransmit;
      cdp = h.flags.cdp;
      tlr = h.flags.tlr;
      tag = h.tag;
      tptt = h.tptt;
      offset = h.offset;
    }

abbrev pub asked : XferRdy → frame-xfer-rdy.XferRdy
asked x = record { offset = x.offset; len = x.len }

abbrev pub plain : frame-xfer-rdy.XferRdy → XferRdy
plain x = record { offset = x.offset; len = x.len }

-- a writer's answer: FRAME with the length that stands in the output buffer, or REFUSED with the number
abbrev pub written_answer : Result ℕ → CAnswer
written_answer (Result.value n) = answer_with 0 FRAME 0 0 n
written_answer (Result.number n) = answer_with n REFUSED 0 0 0

-- an XFER_RDY's IU has 12 bytes: 3 where the output buffer is shorter
abbrev pub xfer_rdy_answer : List ℕ → Result ℕ
xfer_rdy_answer out = pick (ltb (length out) 12) (Result.number 3) (Result.value 12)

-- the frame reader's answer: PARSED with the IU's start and length, or REFUSED with the number, and then the header h stays
abbrev pub header_of : Result Parsed → Header → Header
header_of (Result.value p) h = flat p.header
header_of (Result.number n) h = h

abbrev pub parsed_answer : Result Parsed → CAnswer
parsed_answer (Result.value p) = answer_with 0 PARSED 0 p.start p.len
parsed_answer (Result.number n) = answer_with n REFUSED 0 0 0

abbrev pub ReadsHeader : Result Parsed → Header → Header → CAnswer → Type 0
ReadsHeader o h y a = (y ≡ header_of o h) × (a ≡ parsed_answer o)

-- the IU reader's: PARSED, or FAILED with the number, 23 or 24, and then x stays
abbrev pub xfer_rdy_in : Result frame-xfer-rdy.XferRdy → XferRdy → XferRdy
xfer_rdy_in (Result.value y) x = plain y
xfer_rdy_in (Result.number n) x = x

abbrev pub xfer_rdy_read_answer : Result frame-xfer-rdy.XferRdy → CAnswer
xfer_rdy_read_answer (Result.value y) = answer_with 0 PARSED 0 0 12
xfer_rdy_read_answer (Result.number n) = answer_with n FAILED 0 0 0

abbrev pub ReadsXferRdy : Result frame-xfer-rdy.XferRdy → XferRdy → XferRdy → CAnswer → Type 0
ReadsXferRdy o x y a = (y ≡ xfer_rdy_in o x) × (a ≡ xfer_rdy_read_answer o)
