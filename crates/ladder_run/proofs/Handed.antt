-- A frame that was handed out fits the area of a ladder.
use Prim.Native.Nat.{ℕ, ◌≤◌}
use mathlib.Core.Bool.{Bool, true, false}
use mathlib.Core.List.{List}
use mathlib.Core.Path.{◌≡◌, refl, ap}
use native.Mathlib.Omega.{arith}
use lib.ListN.{length, length-replicate}
use lib.Dec.{leb}
use borrow.Author.Tests.{leb-true}
use Rattle.std.specs.Prelude.{Option, Some, unwrap_or}
use Rattle.status.specs.Pick.{pick}
use Rattle.status.specs.Answer.{Said, Left, ◌saying◌}
use Rattle.status.specs.Entry.{entry_of}
use Rattle.status.proofs.Leaves.{picked, unless_gives}
use Rattle.frame.specs.Write.{hands}
use Rattle.target.specs.Record.{holds_of}
use Rattle.target.specs.Transmit as target
use Rattle.target.specs.declared.types.Target.{Target}
use Rattle.ladder_run.specs.Ends.{ask_of}
use Rattle.ladder_run.specs.Row.{area, handed}
use Rattle.ladder_run.specs.declared.types.Sending.{Sending}
use Rattle.ladder_run.proofs.SmallFrame.{Hands, ask_hands}

-- 0 where none was
abbrev pub handed_length : Said → ℕ
handed_length a = unwrap_or (handed a) 0

pub area_most : (s : Sending) (d : List ℕ) {n : ℕ} → Some n ≡ handed (ask_of s d area).says → n ≤ 1_048
area_most s d {n} e = go (ask_hands s d area) e
  where
    go : {p : ℕ} {f : List ℕ} {x : Said} → Hands p (length area) f x → Some n ≡ handed x → n ≤ 1_048
    go (Hands.nothing z) e = absurd (cc)
    go (Hands.frame q m) e = omega (arith, ap (λ (v : Option ℕ). unwrap_or v 0) e, length-replicate {A = ℕ} 1_048 0)

-- the XFER_RDY of a write
issued_fits : (y : Target) (out : List ℕ) → handed_length (target.next_of y out).says ≤ length out
unfolding target.next_of hands pick
issued_fits y out =
    unless_gives fits (entry_of (holds_of y) y.receiver.ended) y _ (λ n. omega arith)
    (picked fits (target.due_of y) _ _ (go (leb (length (target.frame_of y)) (length out)) refl) (omega arith))
  where
    fits : Left Target → Type 0
    fits x = handed_length x.says ≤ length out

    go : (t : Bool) → leb (length (target.frame_of y)) (length out) ≡ t → fits (pick t (target.issued_of y saying Said.frame (length (target.frame_of y))) (y saying Said.refused 3))
    go true e = leb-true _ _ e
    go false e = omega arith

pub issued_most : (y : Target) {n : ℕ} → n ≡ handed_length (target.next_of y area).says → n ≤ 1_048
issued_most y e = omega (arith, e, issued_fits y area, length-replicate {A = ℕ} 1_048 0)
