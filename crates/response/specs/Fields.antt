-- The record's fields, each set anew by itself: a definition says only what moves.
use Rattle.std.specs.Prelude.{ℕ, Bool}
use Rattle.response.specs.declared.types.Responder.{Responder}

abbrev pub unanswered≔ : Bool → Responder → Responder
unanswered≔ v x = record { transfer = x.transfer; len = x.len; unanswered = v; retries = x.retries; ended = x.ended }

abbrev pub retries≔ : ℕ → Responder → Responder
retries≔ v x = record { transfer = x.transfer; len = x.len; unanswered = x.unanswered; retries = v; ended = x.ended }

abbrev pub ended≔ : Bool → Responder → Responder
ended≔ v x = record { transfer = x.transfer; len = x.len; unanswered = x.unanswered; retries = x.retries; ended = v }
