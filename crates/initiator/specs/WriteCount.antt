-- The count of a write's burst is the length of its history of frames, "since its write burst began".
use Rattle.std.specs.Prelude.{ℕ, List, [], Bool, not, ◌&&◌, ◌||◌, ◌≡◌, length}
use Rattle.status.specs.Pick.{pick}
use Rattle.status.specs.Answer.{Said, view, Left}
use Rattle.sender_steps.specs.Count.{history, Tells}
use Rattle.initiator.specs.declared.types.Writer.{Writer}

-- an XFER_RDY was taken
abbrev pub takes : Said → Bool
takes a = (view a).takes

-- a burst started in this call: the one that was pending, or the one that was taken now
abbrev pub began : Writer → Left Writer → Bool
began w x = not x.left.pending && (w.pending || takes x.says)

-- h: the frames handed out of the burst in service at w, which an answer's count speaks of; a burst that started now has a history of its own
abbrev pub Counts : Writer → List ℕ → Left Writer → Type 0
Counts w f x =
    (h : List (List ℕ)) → length h ≡ w.sender.frames →
    (length (history x.says f (pick (began w x) [] h)) ≡ x.left.sender.frames) × Tells x.says (length h)
