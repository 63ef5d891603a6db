-- "The report says how many frames it handed out since set_up, or since its write burst began": the history of frames, and its length.
use Rattle.std.specs.Prelude.{ℕ, List, [], ◌∷◌, ◌++◌, ◌≡◌, length}
use Rattle.status.specs.Pick.{if_any}
use Rattle.status.specs.Answer.{Said, view, Left}
use Rattle.sender_steps.specs.declared.types.Sender.{Sender}

-- the frames handed out, in order: f behind them if it was handed out now
abbrev pub history : Said → List ℕ → List (List ℕ) → List (List ℕ)
history a f h = if_any (view a).frame (λ n. h ++ (f ∷ [])) h

-- a count in the answer is k
abbrev pub Tells : Said → ℕ → Type 0
Tells a k = if_any (view a).count (λ n. n ≡ k) (Unit {0})

-- the record's count, and the count in an answer, are the length of the history of frames
abbrev pub Counts : Sender → List ℕ → Left Sender → Type 0
Counts s f x = (h : List (List ℕ)) → length h ≡ s.frames → (length (history x.says f h) ≡ x.left.frames) × Tells x.says (length h)
