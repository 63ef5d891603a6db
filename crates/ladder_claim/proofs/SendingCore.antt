-- The sending port of a ladder, a read's or a write's, moves as the sending core does: one argument over the core's record serves both.
use mathlib.Core.List.{List}
use mathlib.Core.Bool.{true}
use mathlib.Core.Path.{◌≡◌, ap}
use Prim.Native.Nat.{ℕ}
use lib.ListN.{length}
use Rattle.transfer.specs.Limits.{past}
use Rattle.sender_steps.specs.Record.{holds_of, lent_of}
use Rattle.sender.specs.Transmit.{next_of}
use Rattle.sender_steps.specs.declared.types.Sender.{Sender}
use Rattle.link.specs.Ports.{Signal}
use Rattle.link.specs.Calls.{signalled}
use Rattle.link.proofs.ReadSimulates.{read_simulates, read_is}
use Rattle.link.proofs.WriteSimulates.{write_simulates, write_is}
use Rattle.ladder_run.specs.Ends.{ask_of, signalled_of, past_of}
use Rattle.ladder_run.specs.declared.types.Sending.{Sending}
use Rattle.ladder_run.specs.declared.types.Sending.TheVariants as sending

-- the port x stands for the core's record s; the TPTT of its frames does not matter here
abbrev pub SendsAs : Sending → Sender → Type 0
SendsAs (sending.Read x) s = (read_simulates 0).SendsAs x s
SendsAs (sending.Write w) s = (write_simulates 0).SendsAs w s

-- of the same transfer
pub past_as : (x : Sending) (s : Sender) → SendsAs x s → past_of x ≡ past s.transfer
past_as (sending.Read x) s a = ap (λ (v : Sender). past v.transfer) (read_is 0 x s a)
past_as (sending.Write w) s a = ap (λ (v : Sender). past v.transfer) (write_is 0 w s a)

pub asks_as : (x : Sending) (s : Sender) (d out : List ℕ) → SendsAs x s → lent_of s (length d) ≡ true →
    SendsAs (ask_of x d out).left (next_of s d out).left × ((ask_of x d out).says ≡ (next_of s d out).says)
asks_as (sending.Read x) s d out a l = let q = (read_simulates 0).asks_as x s d out a l in (q.0, q.1)
asks_as (sending.Write w) s d out a l = let q = (write_simulates 0).asks_as w s d out a l in (q.0, q.1)

pub told_as : (g : Signal) (x : Sending) (s : Sender) → SendsAs x s → holds_of s ≡ true →
    SendsAs (signalled_of g x).left (signalled g s).left × ((signalled_of g x).says ≡ (signalled g s).says)
told_as g (sending.Read x) s a h = (read_simulates 0).signals_as g x s a h
told_as g (sending.Write w) s a h = (write_simulates 0).signals_as g w s a h
