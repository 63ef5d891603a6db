-- What the proofs of worked runs share.
use Prim.Native.Nat.{ℕ}
use mathlib.Core.Bool.{Bool}
use mathlib.Core.List.{List}
use mathlib.Core.Logic.{◌⊎◌, inl, inr}
use mathlib.Core.Path.{◌≡◌, refl}
use native.Mathlib.Omega.{arith}
use lib.ListN.{length}
use Rattle.link.specs.Ports.{Ports}
use Rattle.link.specs.World.{World, Report, Event, run, Allowed}
use Rattle.link.specs.Delivers.{BurstParameters, Concluded}
use Rattle.link.specs.Claim.{Editions, Starts, Alike}
use Rattle.link.proofs.Theorem.{delivery}
use Rattle.worked.specs.Setting.{between}
use Rattle.worked.specs.Run.{pointers, Worked}

-- a report was given
pub given : {q : Report} {n : ℕ} → (q ≡ Report.delivered n) ⊎ ((f : ℕ) × (q ≡ Report.failed f n)) → q ≡ Report.none → ⊥
given (inl d) e = let z : ◌≡◌ {A = ℕ} 0 1 = cc in omega arith
given (inr (f, d)) e = let z : ◌≡◌ {A = ℕ} 0 1 = cc in omega arith

-- two ports with each other's addresses
pub alike : {here there : ℕ} {write : Bool} {count window limit burst : ℕ} → Alike (between here there write count window limit burst) (between there here write count window limit burst)
alike = record { count = refl; size = refl; window = refl; limit = refl; there = refl; back = refl; tag = refl; tag_bits = omega arith; value_bits = omega arith; start = refl }

-- an event's part of `Allowed`, then those of the rest
infixr 40 ◌then◌
pub ◌then◌ : {A B : Type 0} → A → B → A × B
a then b = (a, b)

-- a worked run from its premises and what it computes to; the claim by the theorem
pub worked : {P : Ports} {e : Editions} {b : BurstParameters} {start : World P} {es : List (Event P)} {report : Report} {received : List ℕ} {faults count : ℕ} {handed : List (ℕ × ℕ)} →
    Starts P e b start → Allowed start es → (run start es).report ≡ report → (run start es).received ≡ received → (run start es).tally.faults ≡ faults →
    length (run start es).handed ≡ count → pointers (run start es).handed ≡ handed → Concluded (run start es) → Worked b start es report received faults count handed
worked {P} {e} {b} {start} {es} s a re rc fa co ha cl =
    record { editions = e; starts = s; allowed = a; reports = re; receives = rc; suffers = fa; counts = co; hands_out = ha; concludes = cl; claims = delivery P e b start s es a }
