-- The two pairings, by computation and the theorem.
use mathlib.Core.Logic.{inl}
use mathlib.Core.Path.{refl}
use lib.ListN.{replicate}
use native.Mathlib.Omega.{arith}
use Rattle.link.specs.World.{Allowed}
use Rattle.link.specs.Claim.{editions, Starts, Alike}
use Rattle.link.specs.Reading.{read_ports}
use Rattle.worked.specs.Setting.{target, host}
use Rattle.worked.specs.Run.{burst}
use Rattle.worked.specs.Faults.{nak_lost_events}
use Rattle.worked.specs.Pairing.{sas2, new_target, new_initiator, NewTarget, NewInitiator, NewTags, OldTags}
use Rattle.worked.proofs.ReadComputes.{computed}
use Rattle.worked.proofs.Run.{given, ◌then◌, worked}

new_target_alike : Alike (sas2 0xbeef (target 8 2 1)) (host 8 2 1)
new_target_alike = record { count = refl; size = refl; window = refl; limit = refl; there = refl; back = refl; tag = refl; tag_bits = omega arith; value_bits = omega arith; start = refl }

new_initiator_alike : Alike (target 8 2 1) (sas2 0xbeef (host 8 2 1))
new_initiator_alike = record { count = refl; size = refl; window = refl; limit = refl; there = refl; back = refl; tag = refl; tag_bits = omega arith; value_bits = omega arith; start = refl }

new_target_starts : Starts read_ports (editions (sas2 0xbeef (target 8 2 1)) (host 8 2 1)) (burst 0 8 1) new_target
unfolding computed new_target
new_target_starts = Starts.read (sas2 0xbeef (target 8 2 1)) (host 8 2 1) _ _ _ (replicate 8 0xff) refl refl new_target_alike (omega arith) refl (omega arith)

new_initiator_starts : Starts read_ports (editions (target 8 2 1) (sas2 0xbeef (host 8 2 1))) (burst 0 8 1) new_initiator
unfolding computed new_initiator
new_initiator_starts = Starts.read (target 8 2 1) (sas2 0xbeef (host 8 2 1)) _ _ _ (replicate 8 0xff) refl refl new_initiator_alike (omega arith) refl (omega arith)

new_target_allowed : Allowed new_target nak_lost_events
unfolding computed new_target nak_lost_events
new_target_allowed =
    tt then tt then tt then tt then tt then tt then tt then
    tt then tt then tt then tt then tt then tt then tt

new_initiator_allowed : Allowed new_initiator nak_lost_events
unfolding computed new_initiator nak_lost_events
new_initiator_allowed =
    tt then tt then tt then tt then tt then tt then tt then
    tt then tt then tt then tt then tt then tt then tt

pub new_target_lem : NewTarget
unfolding computed new_target nak_lost_events
new_target_lem = worked new_target_starts new_target_allowed refl refl refl refl refl (inl (given {n = 4} (inl refl)))

pub new_initiator_lem : NewInitiator
unfolding computed new_initiator nak_lost_events
new_initiator_lem = worked new_initiator_starts new_initiator_allowed refl refl refl refl refl (inl (given {n = 4} (inl refl)))

pub new_tags : NewTags
unfolding computed new_target nak_lost_events
new_tags = refl

pub old_tags : OldTags
unfolding computed new_initiator nak_lost_events
old_tags = refl
