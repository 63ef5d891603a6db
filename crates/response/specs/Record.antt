-- "At the target a RESPONSE (IU of 24 to 1,024 bytes from the caller, else 1) has a record of its own."
use Rattle.std.specs.Prelude.{ℕ, max, List, [], ◌∷◌, Bool, true, false, leb}
use Rattle.status.specs.Pick.{all, ◌with◌}
use Rattle.status.specs.Result.{Result, granted}
use Rattle.transfer.specs.Limits.{limits_hold}
use Rattle.transfer.specs.declared.Transfer.{Transfer}
use Rattle.response.specs.Fields.{unanswered≔, ended≔}
use Rattle.response.specs.declared.types.Responder.{Responder}

-- "resent likewise, up to the limit, and once even with retries off"
abbrev pub most_of : Responder → ℕ
most_of x = max x.transfer.limit 1

-- 1: the limits, the IU's length, retries past their limit
unfoldable pub tests : Responder → List Bool
tests x = limits_hold x.transfer ∷ leb 24 x.len ∷ leb x.len 1_024 ∷ leb x.retries (most_of x) ∷ []

unfoldable pub holds_of : Responder → Bool
holds_of x = all (tests x)

-- an ended record has nothing unanswered
abbrev pub ended_of : Responder → Responder
ended_of x = x with unanswered≔ false with ended≔ true

abbrev pub start_of : Transfer → ℕ → Responder
start_of t len = record { transfer = t; len = len; unanswered = false; retries = 0; ended = false }

abbrev pub set_up_tests : Transfer → ℕ → List Bool
set_up_tests t len = limits_hold t ∷ leb 24 len ∷ leb len 1_024 ∷ []

abbrev pub set_up_of : Transfer → ℕ → Result Responder
set_up_of t len = granted (all (set_up_tests t len)) (start_of t len)
