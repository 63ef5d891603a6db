-- "The order is 1, 2, then by event": what every entry point tests first.
use Rattle.std.specs.Prelude.{Bool, Result, Ok, Err, ⊤}
use Rattle.status.specs.Pick.{pick}
use Rattle.status.specs.declared.words.Refusal.{Refusal}
use Rattle.status.specs.declared.words.Refusal.TheVariants.{BadRequest, TransferEnded, AnswerWithoutFrame}

-- a call is let in, or refused before its own work
abbrev pub Entry : Type 0
Entry = Result ⊤ Refusal

-- ok: number 1 does not apply; ended: number 2 does
unfoldable pub entry_of : Bool → Bool → Entry
entry_of ok ended = pick ok (pick ended (Err TransferEnded) (Ok tt)) (Err BadRequest)

-- 1, 2, then "4: ACK, NAK or timeout, none unanswered"; some: a frame is unanswered
abbrev pub and_some : Entry → Bool → Entry
and_some (Err why) some = Err why
and_some (Ok u) some = pick some (Ok u) (Err AnswerWithoutFrame)

unfoldable pub confirmable_of : Bool → Bool → Bool → Entry
confirmable_of ok ended some = and_some (entry_of ok ended) some
