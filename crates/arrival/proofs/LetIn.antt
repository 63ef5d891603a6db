-- A frame that arrives at a call which 1 and 2 may refuse.
use Prim.Native.Nat.{ℕ}
use mathlib.Core.Path.{◌≡◌, refl}
use Rattle.std.specs.Prelude.{Ok, Err}
use Rattle.status.specs.Entry.{Entry}
use Rattle.status.specs.Answer.{Said, Left, ◌saying◌, unless}
use Rattle.status.specs.Result.{Result}
use Rattle.status.proofs.OpenedCall.{differ}
use Rattle.arrival.specs.Accept.{let_in}
use Rattle.arrival.specs.declared.Arrived.{Arrived}

-- a frame is accepted: the call is let in
pub let_in_is : (e : Entry) (x : Result Arrived) (a : Arrived) → let_in e x ≡ Result.value a → (Ok tt ≡ e) × (x ≡ Result.value a)
let_in_is (Ok tt) x a p = (refl, p)
let_in_is (Err why) x a p = differ (cc)

-- what a port makes of a frame, where each number is a refusal: 1 and 2 may be tested with the frame
pub let_in_by : {X : Type 0} (e : Entry) (x : Result Arrived) (s : X) (by : Result Arrived → Left X) → ((n : ℕ) → by (Result.number n) ≡ (s saying Said.refused n)) → unless e s (by x) ≡ by (let_in e x)
let_in_by (Ok tt) x s by h = refl
let_in_by (Err why) x s by h = cc (h _)
