-- The worked runs with reports of time, by computation and the theorem.
use mathlib.Core.Logic.{inl, inr}
use mathlib.Core.Path.{refl}
use native.Mathlib.Omega.{arith}
use Rattle.initiator.specs.WriteRecord as initiator
use Rattle.target.specs.Record as target
use Rattle.link.specs.World.{Allowed}
use Rattle.link.specs.Claim.{sas11, Starts, Alike}
use Rattle.link.specs.Writing.{write_ports}
use Rattle.worked.specs.Run.{burst}
use Rattle.worked.specs.Write.{ready}
use Rattle.worked.specs.Silent.{host, device, twelve, empty, Silent, Discarded, repeat_start, repeat_events, StoredRepeat, Summed}
use Rattle.worked.proofs.WriteComputes.{computed_write}
use Rattle.worked.proofs.Run.{given, ◌then◌, worked}

pub silent : Silent
unfolding computed_write
silent = record { sets_up = refl; answers = refl; filled = refl; ended = refl; elapsed = refl }

pub discarded : Discarded
unfolding computed_write
discarded = refl

device_alike : Alike host device
device_alike = record { count = refl; size = refl; window = refl; limit = refl; there = refl; back = refl; tag = refl; tag_bits = omega arith; value_bits = omega arith; start = refl }

repeat_starts : Starts write_ports sas11 (burst 0 12 3) repeat_start
unfolding computed_write repeat_start
repeat_starts = Starts.write (initiator.start_of host) (target.start_of device) ready twelve empty 36 refl refl refl device_alike (omega arith) refl refl refl refl refl

repeat_allowed : Allowed repeat_start repeat_events
unfolding computed_write repeat_start repeat_events
repeat_allowed =
    tt then tt then tt then tt then inr (inr (tt, refl)) then
    tt then tt then inr (inr (tt, refl)) then
    tt then tt then tt then tt then
    tt then inr (inr (tt, refl)) then
    tt then inr (inr (tt, refl)) then tt then inr (inr (tt, refl)) then
    tt then tt then tt then tt

pub stored_repeat : StoredRepeat
unfolding computed_write repeat_start repeat_events
stored_repeat = worked repeat_starts repeat_allowed refl refl refl refl refl (inl (given {n = 6} (inl refl)))

pub summed : Summed
unfolding computed_write
summed =
    record {
      past = refl;
      past_unanswered = refl;
      past_ended = refl;
      ended = refl;
      reached = refl;
      not_reached = refl;
      stored = refl;
      unanswered = refl;
      filled = refl;
      acknowledged = refl;
      counts_anew = refl;
    }
