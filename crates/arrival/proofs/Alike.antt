-- Frames that agree in form, frame type, addresses and tag, at any role: the same number, or each as it stands. TLR CONTROL and TPTT are not looked at.
use Prim.Native.Nat.{ℕ}
use mathlib.Core.List.{List}
use mathlib.Core.Bool.{Bool, true, false}
use mathlib.Core.Path.{◌≡◌, ◌∙◌}
use Rattle.status.specs.Pick.{pick}
use Rattle.status.specs.Result.{Result}
use Rattle.transfer.specs.declared.Transfer.{Transfer}
use Rattle.frame.specs.Format.{is_type}
use Rattle.frame.specs.Read.{header_in, well_formed, parsed, decode}
use Rattle.arrival.specs.Accept.{class_of, screened, accept_of}
use Rattle.arrival.specs.declared.Role.{Role}
use Rattle.arrival.specs.declared.Arrived.{Arrived}
use Rattle.arrival.specs.declared.Class.{Class}
use Rattle.std.specs.Prelude.{Some}
use Rattle.arrival.proofs.Passed.{arrived_in}
use Rattle.arrival.proofs.Screens.{Agree, screens}

-- what a port makes of an accepted frame, by `by f`, is the same for both frames where it is so for each number and for these frames, accepted
module _ (f g : List ℕ) (s : Agree f g) {X : Type 0} (role : Role) (t : Transfer) (by : List ℕ → Result Arrived → X) (refused : (n : ℕ) → by f (Result.number n) ≡ by g (Result.number n)) (taken : (k : Class) → class_of role (header_in f).frametype ≡ Some k → by f (Result.value (arrived_in k f)) ≡ by g (Result.value (arrived_in k g))) where
  pub alike : by f (accept_of role t f) ≡ by g (accept_of role t g)
  unfolding accept_of decode header_in pick
  alike = go (well_formed f) (is_type (header_in f).frametype) ∙ (λ i. by g (screened (pick (s.form i) (pick (is_type (s.frametype i)) (Result.value (parsed g)) (Result.number 6)) (Result.number 5)) role t))
    where
      go : (a b : Bool) → by f (screened (pick a (pick b (Result.value (parsed f)) (Result.number 6)) (Result.number 5)) role t) ≡ by g (screened (pick a (pick b (Result.value (parsed g)) (Result.number 6)) (Result.number 5)) role t)
      go true true = screens f g s role t by refused taken
      go true false = refused 6
      go false b = refused 5
