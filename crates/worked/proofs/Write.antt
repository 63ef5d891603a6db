-- The write command's worked runs, by computation and the theorem.
use mathlib.Core.Logic.{inl, inr}
use mathlib.Core.Path.{refl}
use native.Mathlib.Omega.{arith}
use lib.ListN.{replicate}
use Rattle.initiator.specs.WriteRecord as initiator
use Rattle.target.specs.Record as target
use Rattle.link.specs.World.{Allowed}
use Rattle.link.specs.Claim.{sas11, Starts}
use Rattle.link.specs.Writing.{write_ports}
use Rattle.worked.specs.Setting.{ten}
use Rattle.worked.specs.Run.{burst}
use Rattle.worked.specs.Write.{host, device, ready, half, first_start, first_events, FirstDelivered, sent_first, filled_first, second_start, second_transfer, second_late, second_events, SecondDelivered, Command, unheard, resent_start, resent_transfer, resent_events, ResentDelivered, Resent}
use Rattle.worked.proofs.WriteComputes.{computed_write}
use Rattle.worked.proofs.Run.{given, alike, ◌then◌, worked}

first_starts : Starts write_ports sas11 (burst 0 5 3) first_start
unfolding computed_write first_start
first_starts = Starts.write (initiator.start_of host) (target.start_of device) ready ten (replicate 10 0xff) 36 refl refl refl alike (omega arith) refl refl refl refl refl

first_allowed : Allowed first_start first_events
unfolding computed_write first_start first_events
first_allowed = tt then tt then tt then tt then tt then tt then tt

first_delivered : FirstDelivered
unfolding computed_write first_start first_events
first_delivered = worked first_starts first_allowed refl refl refl refl refl (inl (given {n = 2} (inl refl)))

pub second_starts : Starts write_ports sas11 (burst 5 10 3) second_start
unfolding computed_write second_start
second_starts = Starts.write sent_first filled_first ready ten half 36 refl refl refl alike (omega arith) refl refl refl refl refl

second_allowed : Allowed second_start second_events
unfolding computed_write second_start second_transfer second_late
second_allowed =
    inl (inl refl) then inl (inr (refl, refl, refl)) then inl (inl refl) then inl (inl refl) then
    tt then tt then tt then tt then tt then tt then
    inl (inl refl) then inl (inl refl) then
    tt then
    tt then tt then tt then tt then tt then tt then
    tt then tt then tt then tt then
    tt then tt then tt then inl (inl refl) then tt then
    tt then tt then
    inl (inl refl) then tt then
    inr (inl (given {n = 8} (inl refl), refl)) then tt then
    inr (inl (given {n = 8} (inl refl), tt)) then inl (inl refl) then tt

second_delivered : SecondDelivered
unfolding computed_write second_start second_transfer second_late
second_delivered = worked second_starts second_allowed refl refl refl refl refl (inl (given {n = 8} (inl refl)))

pub command : Command
unfolding computed_write first_start first_events second_start second_transfer second_late
command =
    record {
      sets_up_host = refl;
      sets_up_device = refl;
      asks_first = refl;
      asks_second = refl;
      first = first_delivered;
      leaves_writer = refl;
      leaves_target = refl;
      second = second_delivered;
      four = refl;
      six = refl;
      five = refl;
      eight = refl;
      seven = refl;
      one = refl;
      longer = refl;
      longer_core = refl;
      ends = refl;
      loses = refl;
      ended_host = refl;
      ended_device = refl;
      first_tags = refl;
      second_tags = refl;
    }

resent_starts : Starts write_ports sas11 (burst 5 10 3) resent_start
unfolding computed_write resent_start
resent_starts = Starts.write sent_first unheard ready ten half 36 refl refl refl alike (omega arith) refl refl refl refl refl

resent_allowed : Allowed resent_start resent_events
unfolding computed_write resent_start resent_transfer
resent_allowed =
    inl (inl refl) then
    tt then tt then tt then tt then tt then tt then
    tt then tt then tt then tt then tt then tt then
    inr (inl (given {n = 4} (inl refl), tt)) then tt

resent_delivered : ResentDelivered
unfolding computed_write resent_start resent_transfer
resent_delivered = worked resent_starts resent_allowed refl refl refl refl refl (inl (given {n = 4} (inl refl)))

pub resent : Resent
unfolding computed_write resent_start resent_transfer
resent = record { times_out = refl; asks_again = refl; takes = refl; delivered = resent_delivered; tags = refl; loses = refl }
