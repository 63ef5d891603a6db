-- The laws of lines and fields: put together and cut again, cut and put together again.
use Prim.Native.Nat.{ℕ}
use mathlib.Core.List.{List, [], ◌∷◌, ◌++◌, append_assoc, append-nil}
use mathlib.Core.Bool.{Bool, true, false, not}
use mathlib.Core.Path.{◌≡◌, refl, ap, ◌∙◌}
use lib.Dec.{eqb}
use borrow.Author.Tests.{eq-eqb, eqb-true, not-true}
use Rattle.ladder_text.specs.Pick.{pick}
use Rattle.ladder_text.specs.Text.{LF, TAB, glue, cut, lines, fields, unlines, tabbed, joined, free, all_free, finished}
use Rattle.ladder_text.specs.Laws.{LinesReadBack, LinesPrintAgain, LinesBehind, FieldsReadBack, FieldsPrintAgain}
use Rattle.ladder_text.proofs.Choose.{and_true, and_both}
use Rattle.ladder_text.proofs.Cut.{first_field, first_line}

pub free_append : (c : ℕ) (s t : List ℕ) → free c s ≡ true → free c t ≡ true → free c (s ++ t) ≡ true
free_append c [] t p q = q
free_append c (x ∷ xs) t p q =
    let h = and_true (not (eqb x c)) (free c xs) p in
    and_both (not (eqb x c)) (free c (xs ++ t)) h.0 (free_append c xs t h.1 q)

free_tabbed : (fs : List (List ℕ)) → all_free LF fs ≡ true → free LF (tabbed fs) ≡ true
free_tabbed [] p = refl
free_tabbed (f ∷ fs) p =
    let h = and_true (free LF f) (all_free LF fs) p in
    free_append LF f (tabbed fs) h.0 (free_tabbed fs h.1)

-- a line whose fields have no line feed has none
pub free_joined : (f : List ℕ) (fs : List (List ℕ)) → all_free LF (f ∷ fs) ≡ true → free LF (joined (f ∷ fs)) ≡ true
free_joined f fs p =
    let h = and_true (free LF f) (all_free LF fs) p in
    free_append LF f (tabbed fs) h.0 (free_tabbed fs h.1)

-- a part without c, then c
cut_at : (c : ℕ) (none : List (List ℕ)) (f r : List ℕ) → free c f ≡ true → cut c none (f ++ c ∷ r) ≡ f ∷ cut c none r
unfolding pick
cut_at c none [] r p = rw (eq-eqb c c refl) refl
cut_at c none (x ∷ xs) r p =
    let h = and_true (not (eqb x c)) (free c xs) p in
    rw (not-true (eqb x c) h.0, cut_at c none xs r h.1) refl

-- a part without c at the end of a line
cut_end : (f : List ℕ) → free TAB f ≡ true → fields f ≡ f ∷ []
unfolding pick fields
cut_end [] p = refl
cut_end (x ∷ xs) p =
    let h = and_true (not (eqb x TAB)) (free TAB xs) p in
    rw (not-true (eqb x TAB) h.0, cut_end xs h.1) refl

pub lines_read_back : LinesReadBack
unfolding lines
lines_read_back [] p = refl
lines_read_back (l ∷ ls) p =
    let h = and_true (free LF l) (all_free LF ls) p in
    cut_at LF [] l (unlines ls) h.0 ∙ ap (λ (r : List (List ℕ)). l ∷ r) (lines_read_back ls h.1)

pub fields_read_back : FieldsReadBack
unfolding fields
fields_read_back f [] p = rw (append-nil f) (cut_end f (and_true (free TAB f) true p).0)
fields_read_back f (g ∷ gs) p =
    let h = and_true (free TAB f) (all_free TAB (g ∷ gs)) p in
    cut_at TAB ([] ∷ []) f (joined (g ∷ gs)) h.0 ∙ ap (λ (r : List (List ℕ)). f ∷ r) (fields_read_back g gs h.1)

glued : (x : ℕ) (fs : List (List ℕ)) → joined (glue x fs) ≡ x ∷ joined fs
glued x [] = refl
glued x (f ∷ fs) = refl

more : (fs : List (List ℕ)) {g : List ℕ} {r : List (List ℕ)} → fs ≡ g ∷ r → tabbed fs ≡ TAB ∷ joined fs
more [] e = absurd cc
more (f ∷ fs) e = refl

pub fields_print_again : FieldsPrintAgain
unfolding pick fields
fields_print_again [] = refl
fields_print_again (x ∷ xs) = go (eqb x TAB) refl (fields_print_again xs)
  where
    go : (t : Bool) → eqb x TAB ≡ t → joined (fields xs) ≡ xs → joined (pick t ([] ∷ fields xs) (glue x (fields xs))) ≡ x ∷ xs
    go true e h = more (fields xs) (first_field xs) ∙ (rw (h, eqb-true x TAB e) refl)
    go false e h = glued x (fields xs) ∙ ap (λ (l : List ℕ). x ∷ l) h

glued_lines : (x : ℕ) (ls : List (List ℕ)) {g : List ℕ} {r : List (List ℕ)} → ls ≡ g ∷ r → unlines (glue x ls) ≡ x ∷ unlines ls
glued_lines x [] e = absurd cc
glued_lines x (f ∷ fs) e = refl

pub lines_print_again : LinesPrintAgain
unfolding pick lines
lines_print_again [] = refl
lines_print_again (x ∷ []) = go (eqb x LF) refl
  where
    go : (t : Bool) → eqb x LF ≡ t → unlines (pick t ([] ∷ []) ((x ∷ []) ∷ [])) ≡ pick t (x ∷ []) (x ∷ LF ∷ [])
    go true e = rw (eqb-true x LF e) refl
    go false e = refl
lines_print_again (x ∷ y ∷ r) = go (eqb x LF) refl (lines_print_again (y ∷ r))
  where
    go : (t : Bool) → eqb x LF ≡ t → unlines (lines (y ∷ r)) ≡ finished (y ∷ r) → unlines (pick t ([] ∷ lines (y ∷ r)) (glue x (lines (y ∷ r)))) ≡ x ∷ finished (y ∷ r)
    go true e h = rw (h, eqb-true x LF e) refl
    go false e h = glued_lines x (lines (y ∷ r)) (first_line y r) ∙ ap (λ (l : List ℕ). x ∷ l) h

pub lines_behind : LinesBehind
lines_behind [] ms = refl
lines_behind (l ∷ ls) ms = rw (append_assoc l, lines_behind ls ms) refl
