-- A line of a known number of fields, and four numbers side by side in it.
use Rattle.std.specs.Prelude.{Option, None, Some}
use Prim.Native.Nat.{ℕ, zero, suc, ◌+◌, ◌≤◌}
use mathlib.Core.List.{List, [], ◌∷◌}
use mathlib.Core.Bool.{true}
use mathlib.Core.Path.{◌≡◌, refl, sym, ap, ◌∙◌}
use lib.ListN.{length, get_or}
use lib.Dec.{eqb}
use borrow.Author.Tests.{eqb-true}
use Rattle.ladder_text.specs.Text.{fields, joined}
use Rattle.ladder_text.specs.Decimal.{decimal}
use Rattle.ladder_text.specs.Words.{MOST}
use Rattle.ladder_text.specs.Rows.{field_at, number_at, given, quad_at}
use Rattle.ladder_text.specs.declared.types.Quad.{Quad}
use Rattle.ladder_text.proofs.Numbers.{numbers}
use Rattle.ladder_text.proofs.Joined.{fields_print_again}

-- n parts from place i on
abbrev pub parts : List (List ℕ) → ℕ → ℕ → List (List ℕ)
parts fs i zero = []
parts fs i (suc n) = get_or fs i [] ∷ parts fs (suc i) n

shifted : (f : List ℕ) (fs : List (List ℕ)) (i n : ℕ) → parts (f ∷ fs) (suc i) n ≡ parts fs i n
shifted f fs i zero = refl
shifted f fs i (suc n) = ap (λ (r : List (List ℕ)). get_or fs i [] ∷ r) (shifted f fs (suc i) n)

whole : (fs : List (List ℕ)) → parts fs 0 (length fs) ≡ fs
whole [] = refl
whole (f ∷ fs) = ap (λ (r : List (List ℕ)). f ∷ r) (shifted f fs 0 (length fs) ∙ whole fs)

-- a line of n fields is those, with tabs between
pub line_is : (b : List ℕ) (n : ℕ) → eqb (length (fields b)) n ≡ true → joined (parts (fields b) 0 n) ≡ b
line_is b n p =
    let count : n ≡ length (fields b) = sym (eqb-true (length (fields b)) n p) in
    rw (count, whole (fields b)) (fields_print_again b)

-- the four numbers from field i of l on are those of q
pub record Side (l : List ℕ) (i : ℕ) (q : Quad) : Type 0 where
  pub a : field_at l i ≡ decimal q.a
  pub b : field_at l (i + 1) ≡ decimal q.b
  pub c : field_at l (i + 2) ≡ decimal q.c
  pub d : field_at l (i + 3) ≡ decimal q.d

pub record QuadFits (q : Quad) : Type 0 where
  pub a : q.a ≤ MOST
  pub b : q.b ≤ MOST
  pub c : q.c ≤ MOST
  pub d : q.d ≤ MOST

pub quad_back : (l : List ℕ) (i : ℕ) (q : Quad) → QuadFits q → Side l i q → quad_at l i ≡ Some q
unfolding quad_at
quad_back l i q f s =
    rw (s.a, s.b, s.c, s.d, (numbers MOST).back q.a f.a, (numbers MOST).back q.b f.b, (numbers MOST).back q.c f.c, (numbers MOST).back q.d f.d) refl

pub quad_again : (l : List ℕ) (i : ℕ) (q : Quad) → quad_at l i ≡ Some q → QuadFits q × Side l i q
unfolding quad_at
quad_again l i q e = go (number_at l i) (number_at l (i + 1)) (number_at l (i + 2)) (number_at l (i + 3)) refl refl refl refl e
  where
    go : (a b c d : Option ℕ) → number_at l i ≡ a → number_at l (i + 1) ≡ b → number_at l (i + 2) ≡ c → number_at l (i + 3) ≡ d → (given a λ a'. given b λ b'. given c λ c'. given d λ d'. Some (record { a = a'; b = b'; c = c'; d = d' })) ≡ Some q → QuadFits q × Side l i q
    go (Some a) (Some b) (Some c) (Some d) p r s t e =
        let m : Quad = record { a = a; b = b; c = c; d = d } in
        let same : m ≡ q = cc in
        let w = (numbers MOST).again (field_at l i) a p in
        let x = (numbers MOST).again (field_at l (i + 1)) b r in
        let y = (numbers MOST).again (field_at l (i + 2)) c s in
        let z = (numbers MOST).again (field_at l (i + 3)) d t in
        let r : QuadFits m × Side l i m = (record { a = w.0; b = x.0; c = y.0; d = z.0 }, record { a = sym w.1; b = sym x.1; c = sym y.1; d = sym z.1 }) in
        rw same at r
    go None b c d p r s t e = absurd cc
    go (Some a) None c d p r s t e = absurd cc
    go (Some a) (Some b) None d p r s t e = absurd cc
    go (Some a) (Some b) (Some c) None p r s t e = absurd cc
