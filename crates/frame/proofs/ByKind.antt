-- The RESPONSE's IU: what each kind's arm of the reader comes to.
use Prim.Native.Nat.{ℕ}
use mathlib.Core.List.{List}
use mathlib.Core.Path.{◌≡◌}
use native.Mathlib.Omega.{arith}
use lib.ListN.{length}
use lib.Dec.{eqb}
use borrow.Author.Tests.{eq-eqb, ne_eqb}
use Rattle.status.specs.Result.{Result}
use Rattle.status.specs.declared.answer.Opened.{Opened}
use Rattle.status.proofs.Choose.{in_true, in_false}
use Rattle.frame.specs.Response.{kind_in, sense_length, response_fits, sense_fits, needing, by_kind}

module _ (iu : List ℕ) (x : Result Opened) where
  pub no_data : kind_in iu ≡ 0 → x ≡ needing (eqb (length iu) 24) iu 0 → x ≡ by_kind iu
  unfolding by_kind
  no_data k e = in_true _ x _ _ (eq-eqb _ _ k) e

  pub response_data : kind_in iu ≡ 1 → x ≡ needing (response_fits iu) iu 0 → x ≡ by_kind iu
  unfolding by_kind
  response_data k e = in_false _ x _ _ (ne_eqb (kind_in iu) _ (omega arith)) (in_true _ x _ _ (eq-eqb _ _ k) e)

  pub sense_data : kind_in iu ≡ 2 → x ≡ needing (sense_fits iu) iu (sense_length iu) → x ≡ by_kind iu
  unfolding by_kind
  sense_data k e = in_false _ x _ _ (ne_eqb (kind_in iu) _ (omega arith)) (in_false _ x _ _ (ne_eqb (kind_in iu) _ (omega arith)) (in_true _ x _ _ (eq-eqb _ _ k) e))
