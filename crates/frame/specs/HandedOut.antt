-- The frames that a record hands out in a list of calls, whatever the record is; request K7: "every read DATA and RESPONSE of the command carries it, resent ones too".
use Rattle.std.specs.Prelude.{ℕ, List, [], ◌∷◌, ◌++◌, ◌≡◌, take}
use Rattle.status.specs.Pick.{if_any}
use Rattle.status.specs.Answer.{Said, view, Left}
use Rattle.frame.specs.Read.{header_in}

-- the frame that a call handed out, if any: the bytes at the front of the output buffer
abbrev pub frame_in : Said → List ℕ → List (List ℕ)
frame_in a out = if_any (view a).frame (λ n. take n out ∷ []) []

-- the calls on a record: what each leaves and answers, and the output buffer as it is left
pub record Calls (X : Type 0) : Type 1 where
  pub Call : Type 0
  pub call : Call → X → Left X
  pub lent : Call → X → List ℕ

-- the frames of a list of calls, in order
abbrev pub frames_of : {X : Type 0} (K : Calls X) → X → List K.Call → List (List ℕ)
frames_of K x [] = []
frames_of K x (c ∷ cs) = frame_in (K.call c x).says (K.lent c x) ++ frames_of K (K.call c x).left cs

-- each frame has the TPTT n
abbrev pub Carry : ℕ → List (List ℕ) → Type 0
Carry n [] = Unit {0}
Carry n (f ∷ fs) = ((header_in f).tptt ≡ n) × Carry n fs

-- in any list of calls from x
abbrev pub Carries : {X : Type 0} → Calls X → X → ℕ → Type 0
Carries K x n = (cs : List K.Call) → Carry n (frames_of K x cs)
