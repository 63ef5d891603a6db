-- The read that starts further in, by computation and the theorem.
use mathlib.Core.Logic.{inl}
use mathlib.Core.Path.{refl}
use native.Mathlib.Omega.{arith}
use lib.ListN.{replicate}
use Rattle.link.specs.World.{Allowed}
use Rattle.link.specs.Claim.{Alike, sas11, Starts}
use Rattle.link.specs.Reading.{read_ports}
use Rattle.worked.specs.Further.{there, here, around, further_start, further_events, FurtherDelivered, Edges}
use Rattle.worked.proofs.ReadComputes.{computed}
use Rattle.worked.proofs.Run.{given, ◌then◌, worked}

further_alike : Alike there here
further_alike = record { count = refl; size = refl; window = refl; limit = refl; there = refl; back = refl; tag = refl; tag_bits = omega arith; value_bits = omega arith; start = refl }

further_starts : Starts read_ports sas11 (record { start = 6; base = 6; end = 16; size = 4; limit = 1 }) further_start
unfolding computed further_start
further_starts = Starts.read there here _ _ _ (around (replicate 10 0xff)) refl refl further_alike (omega arith) refl (omega arith)

further_allowed : Allowed further_start further_events
unfolding computed further_start further_events
further_allowed =
    inl (inl refl) then
    tt then tt then tt then
    tt then tt then tt then tt then tt then
    tt then
    inl (inl refl) then
    tt then tt then tt then tt then tt then tt then tt

pub further_delivered : FurtherDelivered
unfolding computed further_start further_events
further_delivered = worked further_starts further_allowed refl refl refl refl refl (inl (given {n = 5} (inl refl)))

pub edges : Edges
unfolding computed
edges = record { most = refl; beyond = refl; wraps = refl; written = refl; below = λ cdp. refl; behind = λ cdp. refl; long = refl; first = refl; short = refl; exact = refl; inner = refl }
