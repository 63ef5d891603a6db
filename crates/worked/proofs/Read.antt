-- The two reads: everything but the claim itself by computation, the claim by the theorem.
use mathlib.Core.Logic.{inl, inr}
use mathlib.Core.Path.{refl}
use lib.ListN.{replicate}
use native.Mathlib.Omega.{arith}
use Rattle.link.specs.World.{Allowed}
use Rattle.link.specs.Claim.{sas11, Starts}
use Rattle.link.specs.Reading.{read_ports}
use Rattle.worked.specs.Setting.{target, host}
use Rattle.worked.specs.Run.{burst}
use Rattle.worked.specs.Read.{ten_start, ten_transfer, ten_late, ten_events, TenDelivered, six_start, six_transfer, six_late, six_events, SixFailed, Late}
use Rattle.worked.proofs.ReadComputes.{computed}
use Rattle.worked.proofs.Run.{given, alike, ◌then◌, worked}

ten_starts : Starts read_ports sas11 (burst 0 10 5) ten_start
unfolding computed ten_start
ten_starts = Starts.read (target 10 3 5) (host 10 3 5) _ _ _ (replicate 10 0xff) refl refl alike (omega arith) refl (omega arith)

six_starts : Starts read_ports sas11 (burst 0 6 1) six_start
unfolding computed six_start
six_starts = Starts.read (target 6 2 1) (host 6 2 1) _ _ _ (replicate 6 0xff) refl refl alike (omega arith) refl (omega arith)

ten_allowed : Allowed ten_start ten_events
unfolding computed ten_start ten_transfer ten_late
ten_allowed =
    inl (inr (refl, refl, refl)) then inl (inl refl) then
    tt then tt then tt then tt then tt then
    tt then tt then tt then
    inl (inl refl) then inl (inl refl) then
    tt then tt then tt then
    tt then tt then tt then tt then tt then
    tt then tt then tt then
    tt then tt then tt then tt then
    tt then tt then tt then tt then
    tt then tt then tt then
    inl (inl refl) then
    tt then tt then tt then
    inl (inl refl) then tt then
    inr (inl (given {n = 11} (inl refl), refl)) then inr (inl (given {n = 11} (inl refl), tt)) then tt

pub ten_delivered : TenDelivered
unfolding computed ten_start ten_transfer ten_late
ten_delivered = worked ten_starts ten_allowed refl refl refl refl refl (inl (given {n = 11} (inl refl)))

six_allowed : Allowed six_start six_events
unfolding computed six_start six_transfer six_late
six_allowed =
    tt then tt then tt then tt then tt then tt then tt then tt then tt then tt then
    tt then inl (inl refl) then
    inr (inl (given {n = 3} (inr (29, refl)), tt)) then inr (inl (given {n = 3} (inr (29, refl)), refl)) then tt

pub six_failed : SixFailed
unfolding computed six_start six_transfer six_late
six_failed = worked six_starts six_allowed refl refl refl refl refl (inl (given {n = 3} (inr (29, refl))))

pub late : Late
unfolding computed ten_start ten_transfer ten_late six_start six_transfer six_late
late = record { ends = refl; loses = refl; ended_ten = refl; ended_six = refl }
