-- The fates' list, read by index.
use Prim.Native.Nat.{ℕ, suc, ◌+◌, ◌-◌, ◌≤◌, ◌<◌}
use mathlib.Core.List.{List}
use mathlib.Core.Path.{◌≡◌, ap}
use native.Mathlib.Omega.{arith}
use native.Mathlib.Numerals.{add-one}
use Rattle.ladder_text.specs.declared.types.Fate.{Fate}
use Rattle.ladder_text.specs.declared.types.Fate.TheVariants.{Ok, Noack, Bad, Nonak, Lost}
use Rattle.ladder_run.specs.Fates.{fate_of, fault, faults_of}
use Rattle.ladder_run.specs.Round.{confirmed_by, confirmations_of}
use Rattle.ladder_run.specs.declared.types.Confirming.{Confirming}

pub fault_most : (f : Fate) → fault f ≤ 1
fault_most Ok = omega arith
fault_most Noack = omega arith
fault_most Bad = omega arith
fault_most Nonak = omega arith
fault_most Lost = omega arith

-- one frame more
pub faults_next : (fs : List ℕ) (n : ℕ) → faults_of fs (n + 1) ≡ faults_of fs n + fault (fate_of fs n)
faults_next fs n = ap (faults_of fs) (add-one n)

-- the answers from frame i up to frame k, the first of them taken
pub confirmations_next : (fs : List ℕ) (k i : ℕ) (x : Confirming) → i < k → confirmations_of fs (k - i) i x ≡ confirmations_of fs (k - (i + 1)) (i + 1) (confirmed_by (fate_of fs i) x)
confirmations_next fs k i x h = ap (λ (n : ℕ). confirmations_of fs n i x) (as_suc)
  where
    as_suc : k - i ≡ suc (k - (i + 1))
    as_suc = omega arith

pub confirmations_end : (fs : List ℕ) (k i : ℕ) (x : Confirming) → k ≤ i → x ≡ confirmations_of fs (k - i) i x
confirmations_end fs k i x h = ap (λ (n : ℕ). confirmations_of fs n i x) (none)
  where
    none : 0 ≡ k - i
    none = omega arith
