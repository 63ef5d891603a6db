-- The three reads, by computation and the theorem.
use mathlib.Core.Logic.{inl, inr}
use mathlib.Core.Path.{refl}
use lib.ListN.{replicate}
use native.Mathlib.Omega.{arith}
use Rattle.link.specs.World.{Allowed}
use Rattle.link.specs.Claim.{sas11, Starts}
use Rattle.link.specs.Reading.{read_ports}
use Rattle.worked.specs.Setting.{target, host}
use Rattle.worked.specs.Run.{burst}
use Rattle.worked.specs.Faults.{eight_start, nak_lost_events, NakLost, at_rest_events, AtRest, ended_events, Ended}
use Rattle.worked.proofs.ReadComputes.{computed}
use Rattle.worked.proofs.Run.{given, alike, ◌then◌, worked}

eight_starts : Starts read_ports sas11 (burst 0 8 1) eight_start
unfolding computed eight_start
eight_starts = Starts.read (target 8 2 1) (host 8 2 1) _ _ _ (replicate 8 0xff) refl refl alike (omega arith) refl (omega arith)

nak_lost_allowed : Allowed eight_start nak_lost_events
unfolding computed eight_start nak_lost_events
nak_lost_allowed =
    tt then tt then tt then tt then tt then tt then tt then
    tt then tt then tt then tt then tt then tt then tt

pub nak_lost : NakLost
unfolding computed eight_start nak_lost_events
nak_lost = worked eight_starts nak_lost_allowed refl refl refl refl refl (inl (given {n = 4} (inl refl)))

at_rest_allowed : Allowed eight_start at_rest_events
unfolding computed eight_start at_rest_events
at_rest_allowed =
    tt then tt then tt then tt then tt then
    tt then tt then tt then tt then tt then tt

pub at_rest : AtRest
unfolding computed eight_start at_rest_events
at_rest = worked eight_starts at_rest_allowed refl refl refl refl refl (inl (given {n = 2} (inl refl)))

ended_allowed : Allowed eight_start ended_events
unfolding computed eight_start ended_events
ended_allowed =
    tt then tt then tt then tt then tt then tt then
    inr (inl (given {n = 2} (inl refl), tt)) then inr (inl (given {n = 2} (inl refl), refl)) then
    inl (inl refl) then inl (inl refl) then inl (inl refl) then inl (inl refl) then
    inl (inl refl) then inl (inl refl) then inl (inl refl) then
    tt then tt then tt

pub ended : Ended
unfolding computed eight_start ended_events
ended = worked eight_starts ended_allowed refl refl refl refl refl (inl (given {n = 2} (inl refl)))
