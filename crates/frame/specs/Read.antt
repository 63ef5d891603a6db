-- The frame reader: what it answers to any bytes.
use Rattle.std.specs.Prelude.{ℕ, ◌-◌, ◌%◌, List, [], ◌∷◌, Bool, length, get_or, take, drop, leb, eqb}
use Rattle.status.specs.Pick.{pick, all}
use Rattle.status.specs.Result.{Result}
use Rattle.frame.specs.Format.{is_type, field, flags_of}
use Rattle.frame.specs.declared.types.Header.{Header}
use Rattle.frame.specs.declared.types.Parsed.{Parsed}

-- "byte 11, bits 1 and 0: number of fill bytes"
abbrev pub fill_count : List ℕ → ℕ
fill_count b = get_or b 11 0 % 4

-- the table of "The frame"; "other header bits are reserved: .. ignored when read"
unfoldable pub header_in : List ℕ → Header
header_in b =
    record {
      frametype = get_or b 0 0;
      dest = field b 1 3;
      source = field b 5 3;
      flags = flags_of (get_or b 10 0);
      tag = field b 16 2;
      tptt = field b 18 2;
      offset = field b 20 4;
    }

-- not "under 24 or over 1,048 bytes, no multiple of four, or more fill than bytes after the header"
abbrev pub form : List ℕ → List Bool
form b = leb 24 (length b) ∷ leb (length b) 1_048 ∷ eqb (length b % 4) 0 ∷ leb (fill_count b) (length b - 24) ∷ []

abbrev pub well_formed : List ℕ → Bool
well_formed b = all (form b)

abbrev pub iu_length : List ℕ → ℕ
iu_length b = length b - 24 - fill_count b

abbrev pub iu_of : List ℕ → List ℕ
iu_of b = take (iu_length b) (drop 24 b)

-- the frame that well-formed bytes are: header, and where the IU stands
abbrev pub parsed : List ℕ → Parsed
parsed b = record { header = header_in b; start = 24; len = iu_length b }

-- 5, then 6, else the frame
unfoldable pub decode : List ℕ → Result Parsed
decode b = pick (well_formed b) (pick (is_type (get_or b 0 0)) (Result.value (parsed b)) (Result.number 6)) (Result.number 5)
