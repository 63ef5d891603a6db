-- Request K7: "every read DATA and RESPONSE of the command carries it, resent ones too": the RESPONSE. Proved in proofs/CarriesValue.antt.
use Rattle.std.specs.Prelude.{ℕ, ◌^◌, ◌<◌, List, []}
use Rattle.status.specs.Answer.{Left}
use Rattle.frame.specs.Write.{handing}
use Rattle.frame.specs.HandedOut.{Calls, Carries}
use Rattle.response.specs.Transmit.{frame_of, next_of}
use Rattle.response.specs.Confirmation.{ack_of, nak_of, timeout_of, cut_of, loss_of}
use Rattle.response.specs.declared.types.Responder.{Responder}

-- every entry point that takes the record; asked for, with an IU and an output buffer
pub data Call : Type 0 where
  asking : List ℕ → List ℕ → Call
  ack nak timeout cut loss : Call

abbrev pub called : Call → Responder → Left Responder
called (Call.asking iu out) x = next_of x iu out
called Call.ack x = ack_of x
called Call.nak x = nak_of x
called Call.timeout x = timeout_of x
called Call.cut x = cut_of x
called Call.loss x = loss_of x

-- the output buffer that it was lent, as it is left
abbrev pub lent_by : Call → Responder → List ℕ
lent_by (Call.asking iu out) x = handing (next_of x iu out).says (frame_of x iu) out
lent_by Call.ack x = []
lent_by Call.nak x = []
lent_by Call.timeout x = []
lent_by Call.cut x = []
lent_by Call.loss x = []

abbrev pub response_calls : Calls Responder
response_calls = record { Call = Call; call = called; lent = lent_by }

-- from any record, in any list of calls, each RESPONSE handed out has the transfer's value as its TPTT; a number in a definition has no width, so it is said
abbrev pub CarriesValue : Type 0
CarriesValue = (x : Responder) → x.transfer.value < 2 ^ 16 → Carries response_calls x x.transfer.value
