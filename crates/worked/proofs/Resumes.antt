-- The five runs, by computation and the theorem.
use mathlib.Core.Bool.{true}
use mathlib.Core.Logic.{inl, inr}
use mathlib.Core.Path.{refl}
use lib.ListN.{replicate}
use native.Mathlib.Omega.{arith}
use Rattle.initiator.specs.WriteRecord as initiator
use Rattle.target.specs.Record as device
use Rattle.link.specs.Ports.{Ports}
use Rattle.link.specs.World.{World, Allowed}
use Rattle.link.specs.Claim.{sas11, Starts}
use Rattle.link.specs.Reading.{read_ports}
use Rattle.link.specs.Writing.{write_ports}
use Rattle.worked.specs.Setting.{between, target, host}
use Rattle.worked.specs.Run.{burst}
use Rattle.worked.specs.Write.{ready, second_start}
use Rattle.worked.specs.Silent.{twelve}
use Rattle.worked.specs.Resumes.{one_read, one_write, two_read, two_write, every_frame_lost, CountsAnew, CountsOn, third_lost, AtTheThird, AtTheBase, last_lost, AtTheSecondBase}
use Rattle.worked.proofs.WriteComputes.{computed_write}
use Rattle.worked.proofs.Write.{second_starts}
use Rattle.worked.proofs.Run.{given, alike, ◌then◌, worked}

one_read_lem : Starts read_ports sas11 (burst 0 12 1) one_read
unfolding computed_write one_read
one_read_lem = Starts.read (target 12 1 1) (host 12 1 1) _ _ _ (replicate 12 0xff) refl refl alike (omega arith) refl (omega arith)

one_write_lem : Starts write_ports sas11 (burst 0 12 1) one_write
unfolding computed_write one_write
one_write_lem =
    Starts.write (initiator.start_of (between 0x123456 0xabcdef true 12 1 1 12)) (device.start_of (between 0xabcdef 0x123456 true 12 1 1 12)) ready twelve (replicate 12 0xff) 36 refl refl refl alike
    (omega arith) refl refl refl refl refl

two_read_lem : Starts read_ports sas11 (burst 0 12 1) two_read
unfolding computed_write two_read
two_read_lem = Starts.read (target 12 2 1) (host 12 2 1) _ _ _ (replicate 12 0xff) refl refl alike (omega arith) refl (omega arith)

two_write_lem : Starts write_ports sas11 (burst 0 12 1) two_write
unfolding computed_write two_write
two_write_lem =
    Starts.write (initiator.start_of (between 0x123456 0xabcdef true 12 2 1 12)) (device.start_of (between 0xabcdef 0x123456 true 12 2 1 12)) ready twelve (replicate 12 0xff) 36 refl refl refl alike
    (omega arith) refl refl refl refl refl

every_frame_lost_allowed : {P : Ports} (w : World P) → Allowed w (every_frame_lost P)
unfolding every_frame_lost
every_frame_lost_allowed w =
    tt then tt then tt then tt then tt then tt then
    tt then tt then tt then tt then tt then tt then
    tt then tt then tt then tt then tt then tt then tt

third_lost_allowed : {P : Ports} (w : World P) → Allowed w (third_lost P)
unfolding third_lost
third_lost_allowed w =
    tt then tt then tt then tt then tt then tt then
    tt then tt then tt then
    tt then tt then tt then tt then tt then tt then tt then tt then tt then tt

pub counts_anew : CountsAnew
unfolding computed_write one_read every_frame_lost
counts_anew = worked one_read_lem (every_frame_lost_allowed one_read) refl refl refl refl refl (inl (given {n = 6} (inl refl)))

pub counts_on : CountsOn
unfolding computed_write one_write every_frame_lost
counts_on = worked one_write_lem (every_frame_lost_allowed one_write) refl refl refl refl refl (inl (given {n = 3} (inr (29, refl))))

pub at_the_third : AtTheThird
unfolding computed_write two_read third_lost
at_the_third = worked two_read_lem (third_lost_allowed two_read) refl refl refl refl refl (inl (given {n = 4} (inl refl)))

pub at_the_base : AtTheBase
unfolding computed_write two_write third_lost
at_the_base = worked two_write_lem (third_lost_allowed two_write) refl refl refl refl refl (inl (given {n = 6} (inl refl)))

last_lost_allowed : Allowed second_start last_lost
unfolding last_lost
last_lost_allowed =
    tt then tt then tt then tt then tt then tt then
    tt then tt then tt then tt then tt then tt then tt

pub at_the_second_base : AtTheSecondBase
unfolding computed_write second_start last_lost
at_the_second_base = worked second_starts last_lost_allowed refl refl refl refl refl (inl (given {n = 4} (inl refl)))
