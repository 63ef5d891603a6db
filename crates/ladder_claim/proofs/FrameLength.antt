-- The length of a frame handed out, read as an Option, says what it said with 0 for "none": no call hands out a frame of 0 bytes.
use Prim.Native.Nat.{ℕ, ◌≤◌}
use mathlib.Core.List.{List}
use mathlib.Core.Path.{◌≡◌, refl}
use native.Mathlib.Omega.{arith}
use lib.Dec.{eqb}
use borrow.Author.Tests.{ne_eqb}
use lib.ListN.{take}
use Rattle.std.specs.Prelude.{Option, Some, None}
use Rattle.status.specs.Pick.{pick}
use Rattle.status.specs.Answer.{Said}
use Rattle.link.specs.Ports.{Called}
use Rattle.ladder_run.specs.Ends.{ask_of}
use Rattle.ladder_run.specs.Row.{Sent, area, handed, next_line_by, nothing_of, sent_of, due_of, asked_by}
use Rattle.ladder_run.specs.declared.types.Sending.{Sending}
use Rattle.ladder_run.specs.declared.types.Sending.TheVariants as sending
use Rattle.ladder_run.specs.declared.types.Ladder.{Ladder}
use Rattle.ladder_claim.proofs.Embeds.{Fair, read_fair, write_fair}

ask_fair : (s : Sending) (d out : List ℕ) → Fair (ask_of s d out).says
ask_fair (sending.Read s) d out = read_fair s d out
ask_fair (sending.Write w) d out = write_fair w d out

-- the length, 0 where no frame was handed out
abbrev length_or_0 : Option ℕ → ℕ
length_or_0 (Some n) = n
length_or_0 None = 0

-- what is due, by that length
abbrev by_length : Ladder → Called Sending → List ℕ → List ℕ → ℕ → Sent
by_length l x fs b n = pick (eqb n 0) (next_line_by (nothing_of l x.left) b) (sent_of l x.left (take n x.lent) fs b)

pub asked_by_length : (l : Ladder) (fs d b : List ℕ) → let x = ask_of l.sending d area in asked_by l x fs b ≡ by_length l x fs b (length_or_0 (handed x.says))
unfolding pick
asked_by_length l fs d b = go (ask_of l.sending d area) x.says (ask_fair l.sending d area)
  where
    x : Called Sending
    x = ask_of l.sending d area

    go : (y : Called Sending) (a : Said) → Fair a → due_of l y fs b (handed a) ≡ by_length l y fs b (length_or_0 (handed a))
    go y (Said.frame n) f = rw (ne_eqb n 0 (λ e. absurd (omega arith))) refl
    go y (Said.refused n) f = refl
    go y (Said.failed m n) f = refl
    go y (Said.delivered n) f = refl
    go y Said.stored f = refl
    go y Said.received f = refl
    go y (Said.xfer_rdy t) f = refl
    go y (Said.response start len o n) f = refl
    go y (Said.word w) f = refl
