-- A port that has a frame due and asks the writer for it: the writer takes header and IU, and refuses only with 3.
use Prim.Native.Nat.{ℕ}
use mathlib.Core.List.{List}
use mathlib.Core.Bool.{Bool, true, false}
use mathlib.Core.Path.{◌≡◌, refl, sym, ap, ◌∙◌}
use lib.Dec.{leb}
use lib.ListN.{length, take, drop}
use lib.Seq.{take_at}
use Rattle.status.specs.Pick.{pick}
use Rattle.status.specs.Answer.{Said, Left, ◌saying◌}
use Rattle.status.specs.Result.{Result}
use Rattle.frame.specs.Format.{encode}
use Rattle.frame.specs.Write.{writable, write_answer, answered, over, put, handing, hands}
use Rattle.frame.specs.declared.types.Header.{Header}

-- a frame handed out stands at the front of the output buffer
pub over_front : (f d : List ℕ) → take (length f) (over f d) ≡ f
unfolding over
over_front f d = take_at f (drop (length f) d) (length f) refl

-- the writer leaves what the port says that it left
put_handing : {X : Type 0} (x y : X) (f out : List ℕ) (a : Result ℕ) → put a f out ≡ handing (answered x y a).says f out
put_handing x y f out (Result.value n) = refl
put_handing x y f out (Result.number n) = refl

-- the code's answer z and what it left, for a header and an IU that equal the frame's
pub wrote : {X : Type 0} (x y : X) (h : Header) (iu out : List ℕ) {z : Left X} {g : Header} {j : List ℕ} {a : Result ℕ} {left : List ℕ} → z ≡ answered x y a → g ≡ h → j ≡ iu → (a ≡ write_answer g j out) × (left ≡ put (write_answer g j out) (encode g j) out) → (z ≡ answered x y (write_answer h iu out)) × (left ≡ handing (answered x y (write_answer h iu out)).says (encode h iu) out)
wrote x y h iu out ez eg ej p = let v = rw (eg, ej) at p in (ez ∙ ap (answered x y) v.0, v.1 ∙ put_handing x y (encode h iu) out (write_answer h iu out))

module _ {X : Type 0} (x y : X) (h : Header) (iu out : List ℕ) (w : writable h (length iu) ≡ true) where
  pub hands_answered : hands x y (encode h iu) out ≡ answered x y (write_answer h iu out)
  unfolding hands pick
  hands_answered = rw w (go (leb (length (encode h iu)) (length out)))
    where
      go : (t : Bool) → pick t (y saying Said.frame (length (encode h iu))) (x saying Said.refused 3) ≡ answered x y (pick t (Result.value (length (encode h iu))) (Result.number 3))
      go true = refl
      go false = refl

  -- the same where the writer takes header and IU: it refuses only with 3
  pub handed : {z : Left X} {g : Header} {j : List ℕ} {a : Result ℕ} {left : List ℕ} → z ≡ answered x y a → g ≡ h → j ≡ iu → (a ≡ write_answer g j out) × (left ≡ put (write_answer g j out) (encode g j) out) → (z ≡ hands x y (encode h iu) out) × (left ≡ handing (hands x y (encode h iu) out).says (encode h iu) out)
  handed ez eg ej p = rw hands_answered (wrote x y h iu out ez eg ej p)

-- a result z that is the definition's d, both being y, and that left the output buffer so
pub told : {X : Type 0} {d y z : Left X} {left : List ℕ} (f out : List ℕ) → d ≡ y → z ≡ y → left ≡ handing y.says f out → (z ≡ d) × (left ≡ handing d.says f out)
told {X} f out e p q = (p ∙ sym e, q ∙ ap (λ (w : Left X). handing w.says f out) (sym e))
