-- What a printer leaves in the lent buffer.
use Rattle.std.specs.Prelude.{ℕ, ◌+◌, Bool, List, [], ◌∷◌, ◌++◌, ◌≡◌, length, take, drop, leb, Option, None, Some}
use Rattle.ladder_text.specs.Pick.{pick}
use Rattle.ladder_text.specs.Text.{LF}
use Rattle.ladder_text.specs.Decimal.{decimal}

-- t in d at place i, the rest unchanged
unfoldable pub placed : List ℕ → ℕ → List ℕ → List ℕ
placed d i t = take i d ++ (t ++ drop (i + length t) d)

-- a printer that put t into d at place i answers the place behind it, r, and leaves e
abbrev pub Puts : List ℕ → ℕ → List ℕ → ℕ → List ℕ → Type 0
Puts d i t r e = (r ≡ i + length t) × (e ≡ placed d i t)

-- what a public printer asks for; no text is longer (`WithinRoom`)
abbrev pub ROOM : ℕ
ROOM = 64

-- of n bytes, at least `ROOM` from place i on
abbrev pub has_room : ℕ → ℕ → Bool
has_room n i = leb (i + ROOM) n

-- asked to put t into d at place i, a public printer answers r and leaves e: with room, the place behind t, and t in d; without, d unchanged
abbrev pub Placed : List ℕ → ℕ → List ℕ → Option ℕ → List ℕ → Type 0
Placed d i t r e =
    (r ≡ pick (has_room (length d) i) (Some (i + length t)) None)
    × (e ≡ pick (has_room (length d) i) (placed d i t) d)

-- a field or a line, and the byte that ends it
abbrev pub ended : ℕ → List ℕ → List ℕ
ended end t = t ++ (end ∷ [])

-- a line with its line feed
abbrev pub line_text : List ℕ → List ℕ
line_text l = ended LF l

abbrev pub cell : ℕ → ℕ → List ℕ
cell n end = ended end (decimal n)
