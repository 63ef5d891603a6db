-- Frames that agree in form, frame type, addresses and tag pass the tests behind their form alike, at any role.
use Prim.Native.Nat.{ℕ}
use mathlib.Core.List.{List}
use mathlib.Core.Bool.{Bool, true, false, not, ◌||◌}
use mathlib.Core.Path.{◌≡◌, refl, ◌∙◌}
use lib.Dec.{eqb}
use Rattle.std.specs.Prelude.{Option, Some, None}
use Rattle.status.specs.Pick.{pick}
use Rattle.status.specs.Result.{Result}
use Rattle.transfer.specs.declared.Transfer.{Transfer}
use Rattle.frame.specs.Read.{header_in, well_formed, parsed}
use Rattle.arrival.specs.Accept.{class_of, by_class, screen_of}
use Rattle.arrival.specs.declared.Role.{Role}
use Rattle.arrival.specs.declared.Arrived.{Arrived}
use Rattle.arrival.specs.declared.Class.{Class}
use Rattle.arrival.proofs.Passed.{arrived_in}

pub record Agree (f g : List ℕ) : Type 0 where
  pub form : well_formed f ≡ well_formed g
  pub frametype : (header_in f).frametype ≡ (header_in g).frametype
  pub dest : (header_in f).dest ≡ (header_in g).dest
  pub source : (header_in f).source ≡ (header_in g).source
  pub tag : (header_in f).tag ≡ (header_in g).tag

-- what a port makes of an accepted frame, by `by f`, is the same for both frames where it is so for each number and for these frames, accepted
module _ (f g : List ℕ) (s : Agree f g) {X : Type 0} (role : Role) (t : Transfer) (by : List ℕ → Result Arrived → X) (refused : (n : ℕ) → by f (Result.number n) ≡ by g (Result.number n)) (taken : (k : Class) → class_of role (header_in f).frametype ≡ Some k → by f (Result.value (arrived_in k f)) ≡ by g (Result.value (arrived_in k g))) where
  pub screens : by f (screen_of t (class_of role (header_in f).frametype) (parsed f)) ≡ by g (screen_of t (class_of role (header_in g).frametype) (parsed g))
  unfolding screen_of pick
  screens =
      go (class_of role (header_in f).frametype) refl (not (eqb (header_in f).dest t.local) || not (eqb (header_in f).source t.remote)) (not (eqb (header_in f).tag t.tag))
      ∙ (λ i. by g (by_class (class_of role (s.frametype i)) (λ k. pick (not (eqb (s.dest i) t.local) || not (eqb (s.source i) t.remote)) (Result.number 7) (pick (not (eqb (s.tag i) t.tag)) (Result.number 8) (Result.value (arrived_in k g))))))
    where
      go : (c : Option Class) → class_of role (header_in f).frametype ≡ c → (y z : Bool) → by f (by_class c (λ k. pick y (Result.number 7) (pick z (Result.number 8) (Result.value (arrived_in k f))))) ≡ by g (by_class c (λ k. pick y (Result.number 7) (pick z (Result.number 8) (Result.value (arrived_in k g)))))
      go None e y z = refused 6
      go (Some k) e true z = refused 7
      go (Some k) e false true = refused 8
      go (Some k) e false false = taken k e
