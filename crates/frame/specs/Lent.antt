-- A part of lent bytes: which bytes, and where they stand.
use Rattle.std.specs.Prelude.{ℕ, ◌+◌, List, [], ◌≡◌, length, take, drop, leb}
use Rattle.std.specs.Borrow.{Bor}
use Rattle.status.specs.Pick.{pick}

-- the bytes, and how far behind the front they stand
pub record Lent : Type 0 where
  pub place : ℕ
  pub bytes : List ℕ

abbrev pub none : Lent
none = record { place = 0; bytes = [] }

-- of b the n bytes from i, or none where b does not reach so far
unfoldable pub part_of : List ℕ → ℕ → ℕ → Lent
part_of b i n = pick (leb (i + n) (length b)) (record { place = i; bytes = take n (drop i b) }) none

-- a part of a part
abbrev pub within : Lent → (List ℕ → Lent) → Lent
within p f = record { place = p.place + (f p.bytes).place; bytes = (f p.bytes).bytes }

-- the reference r shows that part of what b shows, in place: no byte is copied (ptr: which memory, and how far into it)
abbrev pub Shows : Bor (List ℕ) → Bor (List ℕ) → Lent → Type 0
Shows r b p = (r.now ≡ p.bytes) × (r.ref_ptr.0 ≡ b.ref_ptr.0) × (r.ref_ptr.1 ≡ b.ref_ptr.1 + p.place)
