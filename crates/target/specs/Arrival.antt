-- Arrivals of any bytes at the target of a write command: it takes DATA.
use Rattle.std.specs.Prelude.{ℕ, List, [], ◌∷◌, Bool, true, not, ◌&&◌, eqb}
use Rattle.status.specs.Pick.{pick, all, ◌with◌}
use Rattle.status.specs.Entry.{entry_of}
use Rattle.status.specs.Answer.{Word, Said, Left, ◌saying◌, stores, unless}
use Rattle.status.specs.Result.{Result}
use Rattle.frame.specs.declared.types.Header.{Header}
use Rattle.arrival.specs.Accept.{accept_of}
use Rattle.arrival.specs.declared.Role.TheVariants.{WriteTarget}
use Rattle.arrival.specs.declared.Arrived.{Arrived}
use Rattle.receiver.specs.DataFrame.{arrival_of}
use Rattle.receiver_steps.specs.declared.types.Receiver.{Receiver}
use Rattle.target.specs.Fields.{receiver≔, stored≔, under≔, since≔, elapsed≔}
use Rattle.target.specs.Record.{NONE, READY, holds_of}
use Rattle.target.specs.declared.types.Target.{Target}

-- "earlier tags leave use when DATA is stored under a later one"
abbrev pub freed_of : Target → Target
freed_of x = x with stored≔ true with under≔ x.tptt with since≔ 0

-- the receiving port's answer z; request K4: the sum starts from zero "at each DATA frame stored, not at a discarded one"
abbrev pub lifted_of : Target → Left Receiver → Left Target
lifted_of x z =
    pick (stores z.says) (freed_of (x with receiver≔ z.left with elapsed≔ 0)) (x with receiver≔ z.left) saying z.says

-- "in write DATA also a TPTT not current": the current one is that of the last XFER_RDY handed out
abbrev pub is_current : Target → Header → Bool
is_current x h = not (eqb x.state NONE) && eqb h.tptt x.tptt

-- DATA that has passed 5 to 7 and the tag: 8 for its TPTT; "until its ACK, write DATA that passes 5 to 8 is discarded"; at a buffer of m bytes
unfoldable pub taken_of : Target → Arrived → ℕ → Left Target
taken_of x a m =
    pick (is_current x a.header)
    (pick (eqb x.state READY) (lifted_of x (arrival_of x.receiver a.header.offset a.header.flags.cdp a.len m)) (x saying Said.word Word.discarded))
    (x saying Said.refused 8)

abbrev pub arrived_by : Result Arrived → Target → ℕ → Left Target
arrived_by (Result.number n) x m = x saying Said.refused n
arrived_by (Result.value a) x m = taken_of x a m

-- 1 as in `holds_of`, and "the data buffer has another length" than the byte count
abbrev pub lent_tests : Target → ℕ → List Bool
lent_tests x m = holds_of x ∷ eqb m x.receiver.transfer.count ∷ []

unfoldable pub lent_of : Target → ℕ → Bool
lent_of x m = all (lent_tests x m)

unfoldable pub write_arrival_of : Target → List ℕ → ℕ → Left Target
write_arrival_of x f m = unless (entry_of (lent_of x m) x.receiver.ended) x (arrived_by (accept_of WriteTarget x.receiver.transfer f) x m)
