-- With 1 and 2 tested, a frame asked for is its step.
use Prim.Native.Nat.{ℕ, ◌+◌}
use mathlib.Core.List.{List}
use mathlib.Core.Bool.{true, false}
use mathlib.Core.Path.{◌≡◌, refl}
use native.Mathlib.Omega.{arith}
use lib.ListN.{length}
use borrow.Author.Tests.{le-leb, lt-ltb}
use Rattle.status.specs.Pick.{pick}
use Rattle.status.proofs.OpenedCall.{open_entry}
use Rattle.frame.specs.Write.{writable}
use Rattle.frame.proofs.Hands.{hands_answered}
use Rattle.sender_steps.specs.Record.{lent_of}
use Rattle.sender_steps.specs.Transmit.{data_header, part_of, frame_of, sent_of, fits_of, frame_step_of}
use Rattle.sender.specs.Transmit.{next_of}
use Rattle.sender_steps.specs.declared.types.Sender.{Sender}
use Rattle.sender_steps.proofs.Held.{held, lent_holds}
use Rattle.sender_steps.proofs.Due.{part_length, can_write}

module _ (s : Sender) (d out : List ℕ) (e : lent_of s (length d) ≡ true) where
  lent_fits : fits_of s (length d) ≡ true
  unfolding fits_of
  lent_fits =
      let l = lent_holds s (length d) e in
      let m = (held s l.0).marks in
      simp (le-leb s.transfer.start s.next (omega arith), le-leb _ _ m.next_most, le-leb s.burst.end (s.transfer.start + length d) (omega arith), lt-ltb _ _ m.frames_most)

  can : writable (data_header s) (length (part_of s d)) ≡ true
  can =
      let l = lent_holds s (length d) e in
      let h = held s l.0 in
      can_write s (length (part_of s d)) h (omega (arith, part_length s d h l.1, h.limits.size_most))

  pub next_step : s.ended ≡ false → next_of s d out ≡ frame_step_of s d out
  unfolding next_of frame_step_of frame_of pick
  next_step f = rw (open_entry (lent_of s (length d)) s.ended e f, lent_fits, hands_answered s (sent_of s) (data_header s) (part_of s d) out can) refl
