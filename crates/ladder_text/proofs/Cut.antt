-- Bytes cut at a byte c: the first part, what is behind it, and where they stand.
use Rattle.std.specs.Prelude.{position, unwrap_or, Option, None, Some}
use Rattle.std.specs.List.{position_or_len, count_by}
use Rattle.std.proofs.lemmas.List.Recursion.{is_count_by}
use Prim.Native.Nat.{ℕ, zero, suc, ◌+◌, ◌-◌, min, ◌≤◌, ◌<◌}
use mathlib.Core.List.{List, [], ◌∷◌}
use mathlib.Core.Bool.{Bool, true, false, cond, not}
use mathlib.Core.Path.{◌≡◌, refl, sym, ap, ◌∙◌}
use native.Mathlib.Omega.{arith}
use lib.ListN.{length, get_or, take, drop, drop_of_length-le, length-take, length-drop}
use borrow.Author.Tests.{leb-true, leb-false, ltb-false}
use lib.Seq.{drop-drop, take-length}
use lib.Dec.{eqb, leb, ltb}
use Rattle.ladder_text.specs.Pick.{pick}
use Rattle.ladder_text.specs.Text.{LF, TAB, glue, lines, fields, before, behind}
use Rattle.ladder_text.specs.Lent.{field_start}

-- the first part is what stands up to the first c
pub take_before : (c : ℕ) (b : List ℕ) → take (length (before c b)) b ≡ before c b
unfolding pick
take_before c [] = refl
take_before c (x ∷ xs) = go (eqb x c) (take_before c xs)
  where
    go : (t : Bool) → take (length (before c xs)) xs ≡ before c xs → take (length (pick t [] (x ∷ before c xs))) (x ∷ xs) ≡ pick t [] (x ∷ before c xs)
    go true e = refl
    go false e = ap (λ (l : List ℕ). x ∷ l) e

pub drop_before : (c : ℕ) (b : List ℕ) → drop (suc (length (before c b))) b ≡ behind c b
unfolding pick
drop_before c [] = refl
drop_before c (x ∷ xs) = go (eqb x c) (drop_before c xs)
  where
    go : (t : Bool) → drop (suc (length (before c xs))) xs ≡ behind c xs → drop (length (pick t [] (x ∷ before c xs))) xs ≡ pick t xs (behind c xs)
    go true e = refl
    go false e = e

pub short_before : (c : ℕ) (b : List ℕ) → length (before c b) ≤ length b
short_before c b = omega (arith, ap length (take_before c b), length-take (length (before c b)) b)

-- the index of the first c is how many bytes stand before it
pub first_before : (c : ℕ) (b : List ℕ) → position_or_len (λ x. eqb x c) b ≡ length (before c b)
unfolding pick
first_before c [] = refl
first_before c (x ∷ xs) = go (eqb x c) (first_before c xs)
  where
    go : (t : Bool) → position_or_len (λ x. eqb x c) xs ≡ length (before c xs) → cond (not t) (1 + position_or_len (λ x. eqb x c) xs) 0 ≡ length (pick t [] (x ∷ before c xs))
    go true e = refl
    go false e = omega arith

pub end_of : (c : ℕ) (b : List ℕ) → unwrap_or (position (λ x. eqb x c) b) (length b) ≡ length (before c b)
end_of c b = go (ltb (position_or_len (λ x. eqb x c) b) (length b)) refl
  where
    go : (t : Bool) → ltb (position_or_len (λ x. eqb x c) b) (length b) ≡ t → unwrap_or (cond t (Some (position_or_len (λ x. eqb x c) b)) None) (length b) ≡ length (before c b)
    go true e = first_before c b
    go false e = omega (arith, ltb-false (position_or_len (λ x. eqb x c) b) (length b) e, first_before c b, short_before c b)

-- s from `at` on, or from its end where `at` is beyond
pub rest_is : (at m : ℕ) (s : List ℕ) → m ≡ min at (length s) → take (length s - m) (drop m s) ≡ drop at s
rest_is at m s e =
    let n : length s - m ≡ length (drop m s) = omega (arith, length-drop m s) in
    rw (n, take-length) (go (leb at (length s)) refl)
  where
    go : (t : Bool) → leb at (length s) ≡ t → drop m s ≡ drop at s
    go true p = let same : m ≡ at = omega (arith, leb-true at (length s) p) in ap (λ (k : ℕ). drop k s) same
    go false p = drop_of_length-le s (omega (arith, leb-false at (length s) p)) ∙ sym (drop_of_length-le s (omega (arith, leb-false at (length s) p)))

-- the part of it before c, where the search for c answered r, and so the part ends at n
module _ (c at m n : ℕ) (s : List ℕ) {r : Option ℕ} (e : m ≡ min at (length s)) (found : r ≡ position (λ x. eqb x c) (take (length s - m) (drop m s))) (is : n ≡ unwrap_or r (length (take (length s - m) (drop m s)))) where
  end_is : n ≡ length (before c (take (length s - m) (drop m s)))
  end_is = is ∙ (rw found (end_of c (take (length s - m) (drop m s))))

  pub part_within : n ≡ length (take n (take (length s - m) (drop m s)))
  part_within = omega (arith, end_is, length-take n (take (length s - m) (drop m s)), short_before c (take (length s - m) (drop m s)))

  pub part_is : take n (take (length s - m) (drop m s)) ≡ before c (drop at s)
  part_is = rw (end_is, rest_is at m s e) (take_before c (drop at s))

-- the bytes from `at` on are no fewer than the part q there
pub within : (c at : ℕ) (s q : List ℕ) → at ≤ length s → q ≡ before c (drop at s) → at + length q ≤ length s
within c at s q p e = omega (arith, ap length e, short_before c (drop at s), length-drop at s)

-- the place behind the part that starts at `at`
pub next_place : (c at : ℕ) (b : List ℕ) → drop (at + length (before c (drop at b)) + 1) b ≡ behind c (drop at b)
next_place c at b =
    let n = length (before c (drop at b)) in
    let e : at + n + 1 ≡ at + suc n = omega arith in
    rw e (sym (drop-drop (suc n) at b) ∙ drop_before c (drop at b))

-- lines: the first, and those behind its line feed
pub first_line : (x : ℕ) (xs : List ℕ) → lines (x ∷ xs) ≡ before LF (x ∷ xs) ∷ lines (behind LF (x ∷ xs))
unfolding pick lines
first_line x [] = go (eqb x LF)
  where
    go : (t : Bool) → pick t ([] ∷ []) ((x ∷ []) ∷ []) ≡ pick t [] (x ∷ []) ∷ lines (pick t [] [])
    go true = refl
    go false = refl
first_line x (y ∷ ys) = go (eqb x LF) (first_line y ys)
  where
    go : (t : Bool) → lines (y ∷ ys) ≡ before LF (y ∷ ys) ∷ lines (behind LF (y ∷ ys)) → pick t ([] ∷ lines (y ∷ ys)) (glue x (lines (y ∷ ys))) ≡ pick t [] (x ∷ before LF (y ∷ ys)) ∷ lines (pick t (y ∷ ys) (behind LF (y ∷ ys)))
    go true e = refl
    go false e = ap (glue x) e

-- fields: there is a first one
opened : (x : ℕ) (f : List (List ℕ)) (g : List ℕ) (r : List (List ℕ)) → f ≡ g ∷ r → glue x f ≡ (x ∷ g) ∷ drop 1 (glue x f)
opened x [] g r e = absurd cc
opened x (h ∷ s) g r e =
    let same : h ≡ g = cc in
    ap (λ (l : List ℕ). (x ∷ l) ∷ s) same

pub first_field : (l : List ℕ) → fields l ≡ before TAB l ∷ drop 1 (fields l)
unfolding pick fields
first_field [] = refl
first_field (x ∷ xs) = go (eqb x TAB) (first_field xs)
  where
    go : (t : Bool) → fields xs ≡ before TAB xs ∷ drop 1 (fields xs) → pick t ([] ∷ fields xs) (glue x (fields xs)) ≡ pick t [] (x ∷ before TAB xs) ∷ drop 1 (pick t ([] ∷ fields xs) (glue x (fields xs)))
    go true e = refl
    go false e = opened x (fields xs) (before TAB xs) (drop 1 (fields xs)) e

field_zero : (l : List ℕ) → get_or (fields l) 0 [] ≡ before TAB l
field_zero l = ap (λ (fs : List (List ℕ)). get_or fs 0 []) (first_field l)

glued : (x : ℕ) (f : List (List ℕ)) (m : ℕ) → get_or (glue x f) (suc m) [] ≡ get_or f (suc m) []
glued x [] m = refl
glued x (h ∷ s) m = refl

-- field i stands where `field_start` says
start_first : (l : List ℕ) → field_start l 0 ≡ 0
unfolding field_start
start_first [] = refl
start_first (x ∷ xs) = refl

pub field_there : (l : List ℕ) (i : ℕ) → before TAB (drop (field_start l i) l) ≡ get_or (fields l) i []
unfolding pick fields field_start
field_there [] zero = refl
field_there [] (suc i) = refl
field_there (x ∷ xs) zero = sym (field_zero (x ∷ xs))
field_there (x ∷ xs) (suc i) = go (eqb x TAB) (field_there xs)
  where
    go : (t : Bool) → ((k : ℕ) → before TAB (drop (field_start xs k) xs) ≡ get_or (fields xs) k []) → before TAB (drop (field_start xs (pick t i (suc i))) xs) ≡ get_or (pick t ([] ∷ fields xs) (glue x (fields xs))) (suc i) []
    go true e = e i
    go false e = e (suc i) ∙ sym (glued x (fields xs) i)

pub start_within : (l : List ℕ) (i : ℕ) → field_start l i ≤ length l
unfolding field_start
start_within [] i = omega arith
start_within (x ∷ xs) zero = omega arith
start_within (x ∷ xs) (suc i) = omega (arith, start_within xs (pick (eqb x TAB) i (suc i)))

-- behind one tab more, or at the end
start_next : (b : List ℕ) (m : ℕ) → field_start b (suc m) ≡ min (length b) (length (before TAB b) + 1 + field_start (behind TAB b) m)
unfolding pick field_start
start_next [] m = omega arith
start_next (x ∷ xs) m = go (eqb x TAB) (start_next xs m)
  where
    go : (t : Bool) → field_start xs (suc m) ≡ min (length xs) (length (before TAB xs) + 1 + field_start (behind TAB xs) m) → suc (field_start xs (pick t m (suc m))) ≡ min (suc (length xs)) (length (pick t [] (x ∷ before TAB xs)) + 1 + field_start (pick t xs (behind TAB xs)) m)
    go true e = omega (arith, start_within xs m)
    go false e = omega arith

-- the search for field i: from `at`, `left` tabs are to pass, and m behind the next
module _ (l : List ℕ) (at left m : ℕ) (p : m + 1 ≡ left) where
  abbrev past : ℕ
  past = at + (length (before TAB (drop at l)) + 1)

  jump : at + field_start (drop at l) left ≡ at + min (length (drop at l)) (length (before TAB (drop at l)) + 1 + field_start (drop past l) m)
  jump =
      let one : left ≡ suc m = omega arith in
      let sums : past ≡ at + length (before TAB (drop at l)) + 1 = omega arith in
      rw (one, sums, next_place TAB at l, start_next (drop at l) m) refl

  pub passed : past ≤ length l → at + field_start (drop at l) left ≡ past + field_start (drop past l) m
  passed room = omega (arith, jump, length-drop at l, start_within (drop past l) m, length-drop past l)

-- no tab is left to pass
pub none_left : (l : List ℕ) (at left : ℕ) → 0 < left → at ≤ length l → length l < at + (length (before TAB (drop at l)) + 1) → at + field_start (drop at l) left ≡ length l
none_left l at left p inside out = omega (arith, jump l at left (left - 1) (omega arith), length-drop at l)

pub arrived : (l : List ℕ) (at left : ℕ) {k : ℕ} → left ≤ 0 → at + field_start (drop at l) left ≡ k → at ≡ k
arrived l at left p e =
    let none : left ≡ 0 = omega arith in
    omega (arith, start_first (drop at l), rw none at e)

-- how many fields
pub count_tab : (x : ℕ) (xs : List ℕ) → eqb x TAB ≡ true → length (fields (x ∷ xs)) ≡ suc (length (fields xs))
unfolding pick fields
count_tab x xs e = rw e refl

pub count_other : (x : ℕ) (xs : List ℕ) → eqb x TAB ≡ false → length (fields (x ∷ xs)) ≡ length (fields xs)
unfolding pick fields
count_other x xs e = rw e (go (fields xs) (first_field xs))
  where
    go : (f : List (List ℕ)) {g : List ℕ} {r : List (List ℕ)} → f ≡ g ∷ r → length (glue x f) ≡ length f
    go [] e = absurd cc
    go (h ∷ s) e = refl

-- one more than the tabs
tabs : List ℕ → ℕ
tabs l = length (fields l) - 1

tabs_none : tabs [] ≡ 0
unfolding tabs fields
tabs_none = refl

tabs_step : (x : ℕ) (xs : List ℕ) → tabs (x ∷ xs) ≡ cond (eqb x TAB) (1 + tabs xs) (tabs xs)
unfolding tabs
tabs_step x xs = go (eqb x TAB) refl (ap length (first_field xs))
  where
    go : (t : Bool) → eqb x TAB ≡ t → length (fields xs) ≡ suc (length (drop 1 (fields xs))) → length (fields (x ∷ xs)) - 1 ≡ cond t (1 + (length (fields xs) - 1)) (length (fields xs) - 1)
    go true e p = omega (arith, count_tab x xs e)
    go false e p = omega (arith, count_other x xs e)

pub count_fields : (l : List ℕ) → count_by (λ x. eqb x TAB) l + 1 ≡ length (fields l)
unfolding tabs
count_fields l = omega (arith, is_count_by tabs (λ x. eqb x TAB) tabs_none tabs_step l, ap length (first_field l))
