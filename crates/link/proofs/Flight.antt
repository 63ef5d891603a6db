-- The frames on the way, as numbers: those from k up to j, of which only the first can have CDP one; and the answers on the way.
use Prim.Native.Nat.{ℕ, suc, ◌≤◌}
use mathlib.Core.List.{List, [], ◌∷◌, ◌++◌}
use mathlib.Core.Bool.{Bool, false}
use mathlib.Core.Path.{◌≡◌, refl}
use native.Mathlib.Omega.{arith}
use native.Mathlib.Nat.{le_refl}
use Rattle.link.specs.Tally.{Confirmation}

-- from (c, k), the first frame on the way or the next to be handed out, up to (d, j), the next to be handed out
pub data Flight (f : Bool → ℕ → List ℕ) : Bool → ℕ → Bool → ℕ → List (List ℕ) → Type 0 where
  none : {c : Bool} {k : ℕ} → Flight f c k c k []
  first : {c d : Bool} {k j : ℕ} {fs : List (List ℕ)} → Flight f false (suc k) d j fs → Flight f c k d j (f c k ∷ fs)

module _ {f : Bool → ℕ → List ℕ} where
  pub joins : {c d : Bool} {k j : ℕ} {fs : List (List ℕ)} → Flight f c k d j fs → Flight f c k false (suc j) (fs ++ (f d j ∷ []))
  joins none = first none
  joins (first x) = first (joins x)

  pub ordered : {c d : Bool} {k j : ℕ} {fs : List (List ℕ)} → Flight f c k d j fs → k ≤ j
  ordered {k = k} none = le_refl k
  ordered (first x) = let h = ordered x in omega arith

-- every answer on the way is an ACK; some is a NAK
abbrev pub AllAck : List Confirmation → Type 0
AllAck [] = Unit {0}
AllAck (Confirmation.ack ∷ rest) = AllAck rest
AllAck (Confirmation.nak ∷ rest) = ⊥

abbrev pub SomeNak : List Confirmation → Type 0
SomeNak [] = ⊥
SomeNak (Confirmation.ack ∷ rest) = SomeNak rest
SomeNak (Confirmation.nak ∷ rest) = Unit {0}

pub ack_joins : (l : List Confirmation) → AllAck l → AllAck (l ++ (Confirmation.ack ∷ []))
ack_joins [] h = tt
ack_joins (Confirmation.ack ∷ l) h = ack_joins l h
ack_joins (Confirmation.nak ∷ l) h = absurd h

pub nak_stays : (l : List Confirmation) (a : Confirmation) → SomeNak l → SomeNak (l ++ (a ∷ []))
nak_stays [] a h = absurd h
nak_stays (Confirmation.ack ∷ l) a h = nak_stays l a h
nak_stays (Confirmation.nak ∷ l) a h = tt

pub nak_joins : (l : List Confirmation) → SomeNak (l ++ (Confirmation.nak ∷ []))
nak_joins [] = tt
nak_joins (Confirmation.ack ∷ l) = nak_joins l
nak_joins (Confirmation.nak ∷ l) = tt

module _ {f : Bool → ℕ → List ℕ} where
  -- the first frame, and the rest
  pub uncons : {c d : Bool} {k j : ℕ} {g : List ℕ} {fs : List (List ℕ)} → Flight f c k d j (g ∷ fs) → (g ≡ f c k) × Flight f false (suc k) d j fs
  uncons (first x) = (refl, x)

  -- none on the way
  pub landed : {c d : Bool} {k j : ℕ} → Flight f c k d j [] → (c ≡ d) × (k ≡ j)
  landed none = (refl, refl)
