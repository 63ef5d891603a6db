-- A frame that is due: the writer takes its header and data, and refuses only with 3.
use Prim.Native.Nat.{ℕ, ◌≤◌, ◌<◌}
use mathlib.Core.List.{List}
use mathlib.Core.Bool.{true, false, ◌||◌}
use mathlib.Core.Path.{◌≡◌}
use native.Mathlib.Omega.{arith}
use lib.Dec.{leb, eqb}
use lib.ListN.{length, length-take, length-drop}
use borrow.Author.Tests.{le-leb, lt-ltb, leb-false, eqb-false}
use Rattle.std.proofs.lemmas.Bool.{or_parts}
use Rattle.frame.specs.Write.{writable}
use Rattle.sender_steps.specs.Transmit.{waits_of, lesser, data_header, part_of}
use Rattle.sender_steps.specs.declared.types.Sender.{Sender}
use Rattle.sender_steps.proofs.Held.{Held}

-- no NAK is pending, the window is not full, the next offset is below the end
pub record Due (s : Sender) : Type 0 where
  pub nak : s.nak ≡ false
  pub window : s.unanswered < s.transfer.window
  pub next : (s.next ≡ s.burst.end) → ⊥

pub due : (s : Sender) → waits_of s ≡ false → Due s
unfolding waits_of
due s e =
    let p = or_parts (s.nak || leb s.transfer.window s.unanswered) (eqb s.next s.burst.end) e in
    let q = or_parts s.nak (leb s.transfer.window s.unanswered) p.0 in
    record { nak = q.0; window = leb-false _ _ q.1; next = eqb-false _ _ p.1 }

pub part_length : (s : Sender) (d : List ℕ) → Held s → length d ≡ s.transfer.count → length (part_of s d) ≡ lesser s
part_length s d h e = let m = h.marks in rw (length-take, length-drop) (omega arith)

pub can_write : (s : Sender) (n : ℕ) → Held s → n ≤ 1_024 → writable (data_header s) n ≡ true
unfolding data_header
can_write s n h m = let l = h.limits in simp (lt-ltb _ _ l.remote, lt-ltb _ _ l.local, le-leb _ _ m)
