-- "A fault is a frame lost, damaged or whose answer is lost (one per frame), or a cut or early timeout with frames unanswered (one, ..)": what counts as one, and what
-- as none. Proved in proofs/OneFault.antt.
use Rattle.std.specs.Prelude.{◌+◌, ◌≡◌}
use Rattle.link.specs.Tally.{Confirmation, Tally, handed_out, frame_lost_of, frame_damaged, confirmation_reached, confirmation_lost_of, cut_fault, timeout_fault}

pub record OneFault : Type 0 where
  -- a frame lost; damaged; damaged, and its NAK lost too; its ACK lost
  pub lost : (t : Tally) → (frame_lost_of t).faults ≡ t.faults + 1
  pub damaged : (t : Tally) → (frame_damaged t).faults ≡ t.faults + 1
  pub nak_lost : (t : Tally) → (confirmation_lost_of Confirmation.nak (frame_damaged t)).faults ≡ t.faults + 1
  pub ack_lost : (t : Tally) → (confirmation_lost_of Confirmation.ack t).faults ≡ t.faults + 1
  -- a cut with frames unanswered; an early timeout is as a cut
  pub cut : (t : Tally) → (t.unanswered ≡ 0 → ⊥) → cut_fault t ≡ 1
  pub early : (t : Tally) → t.lost ≡ 0 → timeout_fault t ≡ cut_fault t
  -- none: a cut at rest, a timeout that is not early, a frame handed out, a confirmation that arrives
  pub at_rest : (t : Tally) → t.unanswered ≡ 0 → cut_fault t ≡ 0
  pub not_early : (t : Tally) → (t.lost ≡ 0 → ⊥) → timeout_fault t ≡ 0
  pub handed : (t : Tally) → (handed_out t).faults ≡ t.faults
  pub reached : (t : Tally) → (confirmation_reached t).faults ≡ t.faults
