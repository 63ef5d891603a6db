-- Where a line and a field stand in the bytes that they are a part of.
use Rattle.std.specs.Prelude.{ℕ, zero, suc, ◌+◌, min, List, [], ◌∷◌, ◌≡◌, length, get_or, drop, eqb}
use Rattle.std.specs.Borrow.{Bor}
use Rattle.ladder_text.specs.Pick.{pick}
use Rattle.ladder_text.specs.Text.{LF, TAB, before, fields}

-- the bytes, and how far behind the front they stand
pub record Lent : Type 0 where
  pub place : ℕ
  pub bytes : List ℕ

-- the reference r shows that part of what b shows, in place: no byte is copied (ptr: which memory, and how far into it)
abbrev pub Shows : Bor (List ℕ) → Bor (List ℕ) → Lent → Type 0
Shows r b p = (r.now ≡ p.bytes) × (r.ref_ptr.0 ≡ b.ref_ptr.0) × (r.ref_ptr.1 ≡ b.ref_ptr.1 + p.place)

-- from `at`, or from the end where `at` is beyond, up to the first c
abbrev pub part_in : ℕ → List ℕ → ℕ → Lent
part_in c b at = record { place = min at (length b); bytes = before c (drop at b) }

-- the line that starts at `at`
abbrev pub line_in : List ℕ → ℕ → Lent
line_in b at = part_in LF b at

-- behind the first i tabs; at the end where there are fewer
unfoldable pub field_start : List ℕ → ℕ → ℕ
field_start [] i = 0
field_start (x ∷ xs) zero = 0
field_start (x ∷ xs) (suc i) = suc (field_start xs (pick (eqb x TAB) i (suc i)))

-- field i, counted from 0
abbrev pub field_in : List ℕ → ℕ → Lent
field_in l i = record { place = field_start l i; bytes = get_or (fields l) i [] }
