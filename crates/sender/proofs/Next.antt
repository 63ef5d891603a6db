-- A frame asked for, by what is tested first.
use Prim.Native.Nat.{ℕ}
use mathlib.Core.List.{List}
use mathlib.Core.Bool.{true, false}
use mathlib.Core.Path.{◌≡◌, refl, sym, subst}
use lib.ListN.{length}
use Rattle.status.specs.Entry.{entry_of}
use Rattle.status.specs.Pick.{pick}
use Rattle.status.specs.Answer.{Word, Said, Left, ◌saying◌}
use Rattle.std.specs.Prelude.{Ok}
use Rattle.frame.specs.Write.{handing}
use Rattle.frame.proofs.Hands as frame
use Rattle.sender_steps.specs.Record.{lent_of}
use Rattle.sender_steps.specs.Transmit.{waits_of, frame_of}
use Rattle.sender.specs.Transmit.{hands_of, next_of}
use Rattle.sender_steps.specs.Count.{Counts}
use Rattle.sender_steps.specs.declared.types.Sender.{Sender}
use Rattle.sender.proofs.Counting.{next_counts}

module _ (s : Sender) (d out : List ℕ) where
  pub next_waits : entry_of (lent_of s (length d)) s.ended ≡ (Ok tt) → waits_of s ≡ true → next_of s d out ≡ (s saying Said.word Word.wait)
  unfolding next_of pick
  next_waits e w = rw (e, w) refl

  pub next_due : entry_of (lent_of s (length d)) s.ended ≡ (Ok tt) → waits_of s ≡ false → next_of s d out ≡ hands_of s d out
  unfolding next_of pick
  next_due e w = rw (e, w) refl

  -- a result x that left the buffer so
  pub told : (x y : Left Sender) (left : List ℕ) → next_of s d out ≡ y → x ≡ y → left ≡ handing y.says (frame_of s d) out → (x ≡ next_of s d out) × (left ≡ handing (next_of s d out).says (frame_of s d) out) × Counts s (frame_of s d) x
  told x y left e p q = let t = frame.told (frame_of s d) out e p q in (t.0, t.1, subst (Counts s (frame_of s d)) (sym t.0) (next_counts s d out))
