-- "differs at most in reserved bits and fill": a frame with those at zero.
use Rattle.std.specs.Prelude.{ℕ, zero, suc, ◌+◌, ◌%◌, List, [], ◌∷◌, ◌++◌, get_or, replicate}
use Rattle.frame.specs.Read.{fill_count, iu_of}

-- the n bytes of b from i
abbrev pub bytes_at : List ℕ → ℕ → ℕ → List ℕ
bytes_at b i zero = []
bytes_at b i (suc n) = bytes_at b i n ++ (get_or b (i + n) 0 ∷ [])

-- b with reserved bits and fill at zero: bytes 4, 8, 9 and 12 to 15 are reserved whole, of byte 10 the bits above 4, of byte 11 those above 1
unfoldable pub cleared : List ℕ → List ℕ
cleared b =
    (bytes_at b 0 4 ++ 0 ∷ bytes_at b 5 3 ++ 0 ∷ 0 ∷ get_or b 10 0 % 32 ∷ get_or b 11 0 % 4 ∷ 0 ∷ 0 ∷ 0 ∷ 0 ∷ bytes_at b 16 8) ++
    iu_of b ++
    replicate (fill_count b) 0

-- how many values of each header byte are no reserved ones: 256 of a whole byte, 1 of a reserved byte; reserved bits stand above the others
abbrev pub kept : List ℕ
kept =
    256 ∷ 256 ∷ 256 ∷ 256 ∷
    1 ∷ 256 ∷ 256 ∷ 256 ∷
    1 ∷ 1 ∷ 32 ∷ 4 ∷
    1 ∷ 1 ∷ 1 ∷ 1 ∷
    256 ∷ 256 ∷ 256 ∷ 256 ∷
    256 ∷ 256 ∷ 256 ∷ 256 ∷ []
