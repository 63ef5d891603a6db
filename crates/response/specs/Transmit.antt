-- The RESPONSE asked for.
use Rattle.std.specs.Prelude.{ℕ, List, [], ◌∷◌, Bool, true, false, length, ltb, eqb}
use Rattle.status.specs.Pick.{pick, all, ◌with◌}
use Rattle.status.specs.Entry.{entry_of}
use Rattle.status.specs.Answer.{Word, Said, Left, ◌saying◌, unless}
use Rattle.frame.specs.Format.{RESPONSE, encode}
use Rattle.frame.specs.Write.{hands}
use Rattle.frame.specs.declared.types.Header.{Header}
use Rattle.response.specs.Fields.{unanswered≔}
use Rattle.response.specs.Record.{holds_of}
use Rattle.response.specs.declared.types.Responder.{Responder}

-- 1 as in `holds_of`, and an IU of another length than the record was set up with
abbrev pub lent_tests : Responder → ℕ → List Bool
lent_tests x n = holds_of x ∷ eqb n x.len ∷ []

unfoldable pub lent_of : Responder → ℕ → Bool
lent_of x n = all (lent_tests x n)

-- "every read DATA and RESPONSE of the command carries it, resent ones too": the transfer's value as TPTT (request K7; under SAS-1.1 zero); "data offset zero outside DATA";
-- resent with RETRANSMIT one, the rest the same; TLR CONTROL zero (request K8)
unfoldable pub response_header : Responder → Header
response_header x =
    record {
      frametype = RESPONSE;
      dest = x.transfer.remote;
      source = x.transfer.local;
      flags = record { tlr = 0; retry = false; retransmit = ltb 0 x.retries; cdp = false };
      tag = x.transfer.tag;
      tptt = x.transfer.value;
      offset = 0;
    }

unfoldable pub frame_of : Responder → List ℕ → List ℕ
frame_of x iu = encode (response_header x) iu

abbrev pub sent_of : Responder → Responder
sent_of x = x with unanswered≔ true

-- the RESPONSE is due
abbrev pub hands_of : Responder → List ℕ → List ℕ → Left Responder
hands_of x iu out = hands x (sent_of x) (frame_of x iu) out

-- "wait" while its confirmation is due
unfoldable pub next_of : Responder → List ℕ → List ℕ → Left Responder
next_of x iu out = unless (entry_of (lent_of x (length iu)) x.ended) x (pick x.unanswered (x saying Said.word Word.wait) (hands_of x iu out))
