-- How bytes are cut into lines and lines into fields, and put together again.
use Rattle.std.specs.Prelude.{ℕ, List, [], ◌∷◌, ◌++◌, Bool, true, not, ◌&&◌, eqb}
use Prim.Native.Char.{code}
use Prim.Native.String.{String, [] as empty, ◌∷◌ as ◌then◌}
use Rattle.ladder_text.specs.Pick.{pick}

-- the bytes of a text
abbrev pub bytes : String → List ℕ
bytes empty = []
bytes (c then s) = code c ∷ bytes s

abbrev pub TAB : ℕ
TAB = 9

abbrev pub LF : ℕ
LF = 10

-- x in front of the first part
abbrev pub glue : ℕ → List (List ℕ) → List (List ℕ)
glue x [] = (x ∷ []) ∷ []
glue x (p ∷ ps) = (x ∷ p) ∷ ps

-- bytes cut at every c; `none` are the parts of no bytes
abbrev pub cut : ℕ → List (List ℕ) → List ℕ → List (List ℕ)
cut c none [] = none
cut c none (x ∷ xs) = pick (eqb x c) ([] ∷ cut c none xs) (glue x (cut c none xs))

-- "Lines end with a line feed, which the last line read may lack": no bytes are no line, so a line feed at the end starts none
unfoldable pub lines : List ℕ → List (List ℕ)
lines b = cut LF [] b

-- "by tabs": no bytes are one field, an empty one
unfoldable pub fields : List ℕ → List (List ℕ)
fields l = cut TAB ([] ∷ []) l

-- lines, each with its line feed
abbrev pub unlines : List (List ℕ) → List ℕ
unlines [] = []
unlines (l ∷ ls) = l ++ (LF ∷ unlines ls)

-- a tab in front of each field
abbrev pub tabbed : List (List ℕ) → List ℕ
tabbed [] = []
tabbed (f ∷ fs) = TAB ∷ (f ++ tabbed fs)

-- tabs between the fields
abbrev pub joined : List (List ℕ) → List ℕ
joined [] = []
joined (f ∷ fs) = f ++ tabbed fs

-- the bytes before the first c, and those behind it
abbrev pub before : ℕ → List ℕ → List ℕ
before c [] = []
before c (x ∷ xs) = pick (eqb x c) [] (x ∷ before c xs)

abbrev pub behind : ℕ → List ℕ → List ℕ
behind c [] = []
behind c (x ∷ xs) = pick (eqb x c) xs (behind c xs)

-- no byte is c
abbrev pub free : ℕ → List ℕ → Bool
free c [] = true
free c (x ∷ xs) = not (eqb x c) && free c xs

abbrev pub all_free : ℕ → List (List ℕ) → Bool
all_free c [] = true
all_free c (p ∷ ps) = free c p && all_free c ps

-- the same bytes, a line feed put behind a last line that lacks it
abbrev pub finished : List ℕ → List ℕ
finished [] = []
finished (x ∷ []) = pick (eqb x LF) (x ∷ []) (x ∷ LF ∷ [])
finished (x ∷ y ∷ r) = x ∷ finished (y ∷ r)
