-- Every ladder of a run within its limits ends with a report, after at most so many rows.
use Prim.Native.Nat.{ℕ, ◌+◌, ◌-◌, ◌≤◌, ◌<◌}
use mathlib.Core.List.{List, []}
use mathlib.Core.Bool.{Bool, true, false}
use mathlib.Core.Path.{◌≡◌, refl}
use native.Mathlib.Nat.{zero-mul, lt_of_mul-lt-mul_right, div-add-mod'}
use native.Mathlib.Omega.{arith}
use lib.ListN.{length}
use Rattle.status.proofs.Leaves.{picked}
use Rattle.transfer.specs.Limits.{limits_hold}
use Rattle.transfer.specs.declared.Transfer.{Transfer}
use Rattle.sender_steps.specs.Record.{beginning}
use Rattle.sender.proofs.Kept.{begins_holds}
use Rattle.initiator.proofs.WriteHeld.{held}
use Rattle.link.proofs.Grid.{needed}
use Rattle.link.proofs.ReadSimulates.{read_sends}
use Rattle.link.proofs.WriteSimulates.{write_sends}
use Rattle.ladder_text.specs.declared.types.Run.{Run}
use Rattle.ladder_run.specs.Row.{FATES-MOST, ROWS-MOST}
use Rattle.ladder_run.specs.Setup.{INITIATOR, TARGET, transfer_of, fresh}
use Rattle.ladder_run.specs.Whole.{Whole, whole_of}
use Rattle.ladder_run.specs.declared.types.Sending.{Sending}
use Rattle.ladder_run.specs.declared.types.Sending.TheVariants as sending
use Rattle.ladder_run.specs.declared.types.Receiving.{Receiving}
use Rattle.ladder_run.specs.declared.types.Ladder.{Ladder}
use Rattle.ladder_claim.specs.Rows.{RowsFrom}
use Rattle.ladder_claim.specs.Claim.{Ended, Ends}
use Rattle.ladder_claim.proofs.Begun.{Within, within, target_limits, initiator_limits, first_burst, read_sender, write_sender, Begun, begun, write_sender_holds}
use Rattle.ladder_claim.proofs.SendingCore.{SendsAs}
use Rattle.ladder_claim.proofs.Course.{Course, place}
use Rattle.ladder_claim.proofs.Going.{Going, Live}
use Rattle.ladder_claim.proofs.Lines.{Climbed, Any, climbs_any}
use Rattle.ladder_claim.proofs.Rows.{climb_rows}

-- 65,536 bytes in frames of four
frames_most : (r : Run) → Within r → needed 0 r.count r.size ≤ 16_384
frames_most r w =
    let x = r.count - 0 + (r.size - 1) in
    let n = needed 0 r.count r.size in
    let h : n < 16_385 = lt_of_mul-lt-mul_right r.size (omega (arith, div-add-mod' x r.size)) in
    omega arith

module _ (r : Run) (w : Within r) (n : ℕ) (few : n ≤ FATES-MOST) (write : Bool) (local remote : ℕ) (limits : limits_hold (transfer_of r write local remote) ≡ true) where
  abbrev t : Transfer
  t = transfer_of r write local remote

  -- 21,844 fates, 63 more frames of a window, and those of a faultless transfer
  pub rows_few : n + (r.window - 1) + needed 0 r.count r.size ≤ ROWS-MOST
  rows_few = omega (arith, frames_most r w)

  abbrev pub course : Course
  course = record { t = t; b = first_burst r; listed = n; limits_held = limits; some = w.count_least; small = omega (arith, w.count_most); few = rows_few }

  -- nothing is handed out yet
  starts : (x : Sending) → SendsAs x (beginning t (first_burst r)) → Going course x 0 0
  starts x a =
      let first : 0 ≡ place course 0 = omega (arith, zero-mul r.size) in
      record {
        s = beginning t (first_burst r);
        j = 0;
        m = 0;
        sends = a;
        on = record {
          transfer = refl;
          burst = refl;
          holds = begins_holds t (first_burst r) limits (omega arith) (omega arith) (omega arith) (omega arith);
          live = refl;
          next_at = first;
          all_in = λ i q. absurd (omega arith);
          restart = picked (λ (v : ℕ). v ≡ place course 0) write 0 0 first first;
          restart_in = omega (arith, zero-mul r.size, w.count_least);
          frames = refl;
        };
        quiet = refl;
        owed = refl;
        undone = λ e q. omega (arith, w.count_least);
        bound = omega arith;
      }

  pub begins : (x : Sending) (y : Receiving) → SendsAs x (beginning t (first_burst r)) → Live course (fresh x y)
  begins x y a = record { going = starts x a; nothing = refl }

  -- a ladder x, line after line from its start
  ended : (fs d : List ℕ) (lists : length fs ≡ n) (sent : length d ≡ r.count) (x : Whole) → Climbed course fs d lists sent Any Any 0 [] x → RowsFrom fs 0 x.rows → Ended r fs x
  ended fs d lists sent x c rows =
      let q = c.reports in
      record { reported = q.reported; number = q.number; frames = omega (arith, c.frames); counted = omega (arith, c.frames, q.counted); rows = rows; most = omega (arith, c.frames, q.bound) }

  from_start : (fs d b : List ℕ) (x : Sending) (y : Receiving) → length fs ≡ n → length d ≡ r.count → SendsAs x (beginning t (first_burst r)) → Ended r fs (whole_of fs d (fresh x y) b)
  from_start fs d b x y lists sent a =
      ended fs d lists sent (whole_of fs d (fresh x y) b) (climbs_any course fs d lists sent (ROWS-MOST + 1) (fresh x y) b (begins x y a) (omega arith))
      (climb_rows fs d (ROWS-MOST + 1) (fresh x y) b)

-- in either direction, the port stands for the core's record
pub read_as : (r : Run) → SendsAs (sending.Read (read_sender r)) (beginning (transfer_of r false TARGET INITIATOR) (first_burst r))
read_as r = read_sends 0 (read_sender r) refl

pub write_as : (r : Run) → Within r → SendsAs (sending.Write (write_sender r)) (beginning (transfer_of r true INITIATOR TARGET) (first_burst r))
write_as r w =
    let m = (held (write_sender r) (write_sender_holds r w)).marks in
    write_sends 0 (write_sender r) (write_sender r).sender (record { sender = refl; ready = record { idle = refl; write = refl; marks = m } })

pub ends : Ends
ends r l fs d b s = go (begun r l s.within s.ready)
  where
    go : {m : Ladder} → Begun r m → Ended r fs (whole_of fs d m b)
    go (Begun.read e) =
        let w = within r s.within in
        from_start r w (length fs) s.few false TARGET INITIATOR (target_limits r false w) fs d b _ _ refl s.sent (read_as r)
    go (Begun.write e) =
        let w = within r s.within in
        from_start r w (length fs) s.few true INITIATOR TARGET (initiator_limits r true w) fs d b _ _ refl s.sent (write_as r w)
