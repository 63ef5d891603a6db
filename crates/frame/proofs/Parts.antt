-- A part of lent bytes: none of them, or as many as were asked for; and references that show one.
use Prim.Native.Nat.{ℕ, ◌+◌, ◌≤◌}
use mathlib.Core.List.{List}
use mathlib.Core.Path.{◌≡◌, refl, sym, ap, ◌∙◌}
use native.Mathlib.Omega.{arith}
use lib.ListN.{length, take, drop}
use borrow.Author.Tests.{le-leb}
use denote.Ref.{Bor}
use Rattle.status.proofs.Choose.{in_true}
use Rattle.frame.specs.Lent.{Lent, none, part_of, within, Shows}

module _ (b : List ℕ) where
  pub no_part : part_of b 0 0 ≡ none
  unfolding part_of
  no_part = sym (in_true _ _ _ _ (le-leb 0 (length b) (omega arith)) refl)

  module _ (i n : ℕ) where
    pub whole_part : i + n ≤ length b → part_of b i n ≡ record { place = i; bytes = take n (drop i b) }
    unfolding part_of
    whole_part h = sym (in_true _ _ _ _ (le-leb _ _ h) refl)

-- r shows a part of what q shows, which is a part of what b shows
pub shows_within : (r q b : Bor (List ℕ)) (p : Lent) (f : List ℕ → Lent) → Shows q b p → Shows r q (f q.now) → Shows r b (within p f)
shows_within r q b p f s t =
    let e : f q.now ≡ f p.bytes = ap f s.0 in
    let k = ap (λ (x : Lent). x.place) e in
    (t.0 ∙ ap (λ (x : Lent). x.bytes) e, t.1 ∙ s.1, t.2 ∙ omega (arith, s.2, k))
