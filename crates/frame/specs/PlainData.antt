-- Plain DATA frames: no reserved bit, no flag and no fill. They are told by their first 24 bytes. What the reader gives of one is proved in proofs/PlainFrame.antt.
use Rattle.std.specs.Prelude.{ℕ, ◌%◌, ◌^◌, ◌≤◌, List, [], ◌∷◌, Bool, false, ◌≡◌, length, take, drop, leb, ltb, eqb}
use Rattle.std.specs.Str.{bytes_eq}
use Rattle.status.specs.Pick.{pick, all}
use Rattle.status.specs.Result.{Result}
use Rattle.frame.specs.Format.{DATA, field, header_bytes}
use Rattle.frame.specs.Read.{fill_count, header_in, iu_of, parsed, decode}
use Rattle.frame.specs.declared.types.Header.{Header}

-- the header of a plain DATA frame
abbrev pub plain_header : ℕ → ℕ → ℕ → ℕ → ℕ → Header
plain_header dest source tag tptt offset =
    record {
      frametype = DATA;
      dest = dest;
      source = source;
      flags = record { tlr = 0; retry = false; retransmit = false; cdp = false };
      tag = tag;
      tptt = tptt;
      offset = offset;
    }

-- 28 to 1,048 bytes, a multiple of four, and the header with these addresses, tag and offset; of TPTT the frame's own
abbrev pub plain : List ℕ → ℕ → ℕ → ℕ → ℕ → List Bool
plain b dest source tag offset =
    leb 28 (length b) ∷
    leb (length b) 1_048 ∷
    eqb (length b % 4) 0 ∷
    ltb dest (2 ^ 24) ∷
    ltb source (2 ^ 24) ∷
    bytes_eq (take 24 b) (header_bytes (plain_header dest source tag (field b 18 2) offset) 0) ∷ []

unfoldable pub is_plain_data : List ℕ → ℕ → ℕ → ℕ → ℕ → Bool
is_plain_data b dest source tag offset = all (plain b dest source tag offset)

-- the reader takes it and gives that header; all bytes behind the header are the IU
pub record PlainData (b : List ℕ) (dest source tag offset : ℕ) : Type 0 where
  pub least : 28 ≤ length b
  pub most : length b ≤ 1_048
  pub read : decode b ≡ Result.value (parsed b)
  pub header : header_in b ≡ plain_header dest source tag (field b 18 2) offset
  pub fill : fill_count b ≡ 0
  pub iu : iu_of b ≡ drop 24 b

-- bytes 18 and 19, or 0 where they are not there
abbrev pub transfer_tag : List ℕ → ℕ
transfer_tag b = pick (leb 20 (length b)) (field b 18 2) 0
