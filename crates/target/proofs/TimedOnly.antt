-- A report of time fails there only, and changes nothing outside that span.
use Prim.Native.Nat.{ℕ}
use mathlib.Core.Bool.{true, false≢true}
use mathlib.Core.Logic.{inl, inr}
use mathlib.Core.Path.{◌≡◌, refl}
use native.Mathlib.Omega.{arith}
use Rattle.status.specs.Answer.{Left, fails}
use Rattle.target.specs.Time.{time_of}
use Rattle.target.specs.declared.types.Target.{Target}
use Rattle.target.proofs.InSpan.{Reaches, Outside}
use Rattle.target.proofs.Timed.{Timed, timed}

module _ (x : Target) (ms : ℕ) where
  pub fails_only : fails (time_of x ms).says ≡ true → Reaches x ms
  fails_only e = go (timed x ms) e
    where
      go : {z : Left Target} → Timed x ms z → fails z.says ≡ true → Reaches x ms
      go (Timed.refused n c) e = absurd (false≢true e)
      go (Timed.outside c) e = absurd (false≢true e)
      go (Timed.expires r) e = r
      go (Timed.counts b) e = absurd (false≢true e)

  -- "Time reported outside that span changes nothing"
  pub outside_stays : Outside x → (time_of x ms).left ≡ x
  outside_stays o = go (timed x ms) o
    where
      go : {z : Left Target} → Timed x ms z → Outside x → z.left ≡ x
      go (Timed.refused n c) o = refl
      go (Timed.outside c) o = refl
      go (Timed.expires r) (inl z) = absurd (r.on z)
      go (Timed.expires r) (inr (inl n)) = absurd (n r.span.ready)
      go (Timed.expires r) (inr (inr l)) = absurd (omega (arith, r.span))
      go (Timed.counts b) (inl z) = absurd (omega arith)
      go (Timed.counts b) (inr (inl n)) = absurd (n b.span.ready)
      go (Timed.counts b) (inr (inr l)) = absurd (omega (arith, b.span))
