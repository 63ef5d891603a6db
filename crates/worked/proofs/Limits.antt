-- The limits used up, by computation and the theorem.
use mathlib.Core.Bool.{true}
use mathlib.Core.Logic.{inl, inr}
use mathlib.Core.Path.{refl}
use lib.ListN.{replicate}
use native.Mathlib.Omega.{arith}
use Rattle.initiator.specs.WriteRecord as initiator
use Rattle.target.specs.Record as device
use Rattle.link.specs.Ports.{Ports}
use Rattle.link.specs.World.{World, Allowed}
use Rattle.link.specs.Claim.{sas11, Starts}
use Rattle.link.specs.Reading.{read_ports}
use Rattle.link.specs.Writing.{write_ports}
use Rattle.worked.specs.Setting.{between, target, host}
use Rattle.worked.specs.Run.{burst}
use Rattle.worked.specs.Write.{ready}
use Rattle.worked.specs.Faults.{eight}
use Rattle.worked.specs.Limits.{four, four_read, four_write, naks, timeouts, cuts, cut_last, UsedUp, eight_read, eight_write, nak_then_timeout, nak_then_cut, nak_then_ack, ack_then_nak, NakFirst, Answers}
use Rattle.worked.proofs.WriteComputes.{computed_write}
use Rattle.worked.proofs.Run.{given, alike, ◌then◌, worked}

four_read_lem : Starts read_ports sas11 (burst 0 4 2) four_read
unfolding computed_write four_read
four_read_lem = Starts.read (target 4 1 2) (host 4 1 2) _ _ _ (replicate 4 0xff) refl refl alike (omega arith) refl (omega arith)

four_write_lem : Starts write_ports sas11 (burst 0 4 2) four_write
unfolding computed_write four_write
four_write_lem =
    Starts.write (initiator.start_of (between 0x123456 0xabcdef true 4 1 2 4)) (device.start_of (between 0xabcdef 0x123456 true 4 1 2 4)) ready four (replicate 4 0xff) 36 refl refl refl alike
    (omega arith) refl refl refl refl refl

eight_read_lem : Starts read_ports sas11 (burst 0 8 1) eight_read
unfolding computed_write eight_read
eight_read_lem = Starts.read (target 8 2 1) (host 8 2 1) _ _ _ (replicate 8 0xff) refl refl alike (omega arith) refl (omega arith)

eight_write_lem : Starts write_ports sas11 (burst 0 8 1) eight_write
unfolding computed_write eight_write
eight_write_lem =
    Starts.write (initiator.start_of (between 0x123456 0xabcdef true 8 2 1 8)) (device.start_of (between 0xabcdef 0x123456 true 8 2 1 8)) ready eight (replicate 8 0xff) 36 refl refl refl alike
    (omega arith) refl refl refl refl refl

-- a link event is always allowed
naks_allowed : {P : Ports} (w : World P) → Allowed w (naks P)
unfolding naks
naks_allowed w = tt then tt then tt then tt then tt then tt then tt then tt then tt then tt

timeouts_allowed : {P : Ports} (w : World P) → Allowed w (timeouts P)
unfolding timeouts
timeouts_allowed w = tt then tt then tt then tt then tt then tt then tt then tt then tt then tt

cuts_allowed : {P : Ports} (w : World P) → Allowed w (cuts P)
unfolding cuts
cuts_allowed w = tt then tt then tt then tt then tt then tt then tt

cut_last_allowed : {P : Ports} (w : World P) → Allowed w (cut_last P)
unfolding cut_last
cut_last_allowed w = tt then tt then tt then tt then tt then tt then tt then tt then tt

nak_then_timeout_allowed : {P : Ports} (w : World P) → Allowed w (nak_then_timeout P)
unfolding nak_then_timeout
nak_then_timeout_allowed w = tt then tt then tt then tt then tt then tt then tt then tt then tt then tt then tt then tt then tt

nak_then_cut_allowed : {P : Ports} (w : World P) → Allowed w (nak_then_cut P)
unfolding nak_then_cut
nak_then_cut_allowed w = tt then tt then tt then tt then tt then tt then tt then tt then tt then tt then tt

nak_then_ack_allowed : {P : Ports} (w : World P) → Allowed w (nak_then_ack P)
unfolding nak_then_ack
nak_then_ack_allowed w = tt then tt then tt then tt then tt then tt then tt then tt then tt then tt then tt then tt

ack_then_nak_allowed : {P : Ports} (w : World P) → Allowed w (ack_then_nak P)
unfolding ack_then_nak
ack_then_nak_allowed w = tt then tt then tt then tt then tt then tt then tt then tt then tt then tt then tt then tt

pub used_up : UsedUp
unfolding computed_write four_read four_write naks timeouts cuts cut_last
used_up =
    record {
      by_naks =
          record {
            read = worked four_read_lem (naks_allowed four_read) refl refl refl refl refl (inl (given {n = 3} (inr (28, refl))));
            write = worked four_write_lem (naks_allowed four_write) refl refl refl refl refl (inl (given {n = 3} (inr (28, refl))));
          };
      by_timeouts =
          record {
            read = worked four_read_lem (timeouts_allowed four_read) refl refl refl refl refl (inl (given {n = 3} (inr (29, refl))));
            write = worked four_write_lem (timeouts_allowed four_write) refl refl refl refl refl (inl (given {n = 3} (inr (29, refl))));
          };
      by_cuts =
          record {
            read = worked four_read_lem (cuts_allowed four_read) refl refl refl refl refl (inl (given {n = 3} (inr (30, refl))));
            write = worked four_write_lem (cuts_allowed four_write) refl refl refl refl refl (inl (given {n = 3} (inr (30, refl))));
          };
      by_a_cut_at_last =
          record {
            read = worked four_read_lem (cut_last_allowed four_read) refl refl refl refl refl (inl (given {n = 3} (inr (30, refl))));
            write = worked four_write_lem (cut_last_allowed four_write) refl refl refl refl refl (inl (given {n = 3} (inr (30, refl))));
          };
    }

pub nak_first : NakFirst
unfolding computed_write eight_read eight_write nak_then_timeout nak_then_cut nak_then_ack ack_then_nak
nak_first =
    record {
      then_a_timeout =
          record {
            read = worked eight_read_lem (nak_then_timeout_allowed eight_read) refl refl refl refl refl (inl (given {n = 4} (inr (28, refl))));
            write = worked eight_write_lem (nak_then_timeout_allowed eight_write) refl refl refl refl refl (inl (given {n = 4} (inr (28, refl))));
          };
      then_a_cut =
          record {
            read = worked eight_read_lem (nak_then_cut_allowed eight_read) refl refl refl refl refl (inl (given {n = 4} (inr (28, refl))));
            write = worked eight_write_lem (nak_then_cut_allowed eight_write) refl refl refl refl refl (inl (given {n = 4} (inr (28, refl))));
          };
      then_an_ack =
          record {
            read = worked eight_read_lem (nak_then_ack_allowed eight_read) refl refl refl refl refl (inl (given {n = 4} (inr (28, refl))));
            write = worked eight_write_lem (nak_then_ack_allowed eight_write) refl refl refl refl refl (inl (given {n = 4} (inr (28, refl))));
          };
      after_an_ack =
          record {
            read = worked eight_read_lem (ack_then_nak_allowed eight_read) refl refl refl refl refl (inl (given {n = 4} (inr (28, refl))));
            write = worked eight_write_lem (ack_then_nak_allowed eight_write) refl refl refl refl refl (inl (given {n = 4} (inr (28, refl))));
          };
    }

pub answers : Answers
unfolding computed_write
answers =
    record {
      read_one = record { timeout = refl; cut = refl; nak = refl; nak_last = refl; nak_timeout = refl; nak_cut = refl };
      write_one = record { timeout = refl; cut = refl; nak = refl; nak_last = refl; nak_timeout = refl; nak_cut = refl };
      read_off = record { timeout = refl; cut = refl; nak = refl; nak_last = refl; nak_timeout = refl; nak_cut = refl };
      write_off = record { timeout = refl; cut = refl; nak = refl; nak_last = refl; nak_timeout = refl; nak_cut = refl };
      write_off_at_host = record { timeout = refl; cut = refl; nak = refl; nak_last = refl; nak_timeout = refl; nak_cut = refl };
      write_off_at_target = record { timeout = refl; cut = refl; nak = refl; nak_last = refl; nak_timeout = refl; nak_cut = refl };
    }
