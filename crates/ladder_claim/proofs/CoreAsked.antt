-- The sending core asked for a frame in a ladder: its output area has room for every frame, so a frame that is due is handed out.
use Prim.Native.Nat.{ℕ, ◌≤◌}
use mathlib.Core.List.{List}
use mathlib.Core.Bool.{Bool, true, false, ◌||◌, false≢true}
use mathlib.Core.Path.{◌≡◌, refl, sym, ◌∙◌}
use native.Mathlib.Omega.{arith}
use lib.Dec.{leb, eqb}
use lib.ListN.{length}
use borrow.Author.Tests.{leb-true, le-leb, eqb-true, eqb-false}
use Rattle.status.specs.Pick.{pick}
use Rattle.status.specs.Answer.{Word, Said, Left, ◌saying◌}
use Rattle.status.proofs.OpenedCall.{open_entry}
use Rattle.frame.specs.Write.{hands as due-frame}
use Rattle.frame.proofs.Writer.{encode_length}
use Rattle.sender_steps.specs.Record.{lent_of}
use Rattle.sender_steps.specs.Transmit.{waits_of, frame_of, data_header, part_of, sent_of}
use Rattle.sender.specs.Transmit.{next_of}
use Rattle.sender_steps.specs.declared.types.Sender.{Sender}
use Rattle.sender_steps.proofs.Held.{held, lent_holds}
use Rattle.sender_steps.proofs.Due.{Due, due, part_length}
use Rattle.sender.proofs.Next.{next_waits, next_due}

pub data Asking (s : Sender) (d : List ℕ) : Left Sender → Type 0 where
  waits : 1 ≤ s.unanswered → Asking s d (s saying Said.word Word.wait)
  hands : Due s → Asking s d (sent_of s saying Said.frame (length (frame_of s d)))

module _ (s : Sender) (d out : List ℕ) (l : lent_of s (length d) ≡ true) where
  -- 24 bytes of header, at most 1,024 of data
  pub frame_most : length (frame_of s d) ≤ 1_048
  unfolding frame_of
  frame_most =
      let c = lent_holds s (length d) l in
      let h = held s c.0 in
      let p = part_length s d h c.1 in
      omega (arith, encode_length (data_header s) (part_of s d), h.limits.size_most)

  module _ (o : s.ended ≡ false) (k : s.nak ≡ false) (u : s.unanswered ≡ 0 → s.next ≡ s.burst.end → ⊥) where
    -- nothing unanswered, then a frame is due
    owed : waits_of s ≡ true → 1 ≤ s.unanswered
    unfolding waits_of
    owed e = go s.nak (leb s.transfer.window s.unanswered) (eqb s.next s.burst.end) (eqb s.unanswered 0) refl refl refl refl e
      where
        go : (a b c v : Bool) → s.nak ≡ a → leb s.transfer.window s.unanswered ≡ b → eqb s.next s.burst.end ≡ c → eqb s.unanswered 0 ≡ v → (a || b || c) ≡ true → 1 ≤ s.unanswered
        go true b c v p q r z e = absurd (false≢true (sym k ∙ p))
        go false true c v p q r z e = let w = (held s (lent_holds s (length d) l).0).limits.window_least in omega (arith, leb-true s.transfer.window s.unanswered q)
        go false false true true p q r z e = absurd (u (eqb-true _ _ z) (eqb-true _ _ r))
        go false false true false p q r z e = omega (arith, eqb-false s.unanswered 0 z)
        go false false false v p q r z e = absurd (false≢true e)

    pub asking : 1_048 ≤ length out → Asking s d (next_of s d out)
    unfolding due-frame pick
    asking room = go (waits_of s) refl
      where
        go : (t : Bool) → waits_of s ≡ t → Asking s d (next_of s d out)
        go true e = rw (next_waits s d out (open_entry _ _ l o) e) (waits (owed e))
        go false e = rw (next_due s d out (open_entry _ _ l o) e, le-leb (length (frame_of s d)) (length out) (omega (arith, frame_most))) (hands (due s e))
