-- Frames that a read's initiator does not take: 7 and 8 by each byte of addresses and tag, and an XFER_RDY in a read. Proved in proofs/Screened.antt.
use Rattle.std.specs.Prelude.{ℕ, List, [], ◌∷◌, ◌++◌, ◌≡◌, replicate}
use Rattle.status.specs.Answer.{Said}
use Rattle.worked.specs.Setting.{to_initiator}
use Rattle.worked.specs.Response.{read, failed}

-- a DATA frame of four bytes at offset 0: bytes 1 to 3, 5 to 7, and the tag
abbrev pub data_from : List ℕ → List ℕ → List ℕ → List ℕ
data_from dest source tag = 0x01 ∷ (dest ++ (0x00 ∷ source) ++ replicate 8 0x00 ++ tag ++ replicate 6 0x00 ++ replicate 4 0x77)

abbrev pub here : List ℕ
here = 0x12 ∷ 0x34 ∷ 0x56 ∷ []

abbrev pub there : List ℕ
there = 0xab ∷ 0xcd ∷ 0xef ∷ []

abbrev pub ours : List ℕ
ours = 0x00 ∷ 0x12 ∷ []

-- an XFER_RDY with an IU of so many zero bytes, and its fill
abbrev pub xfer_rdy_of : ℕ → ℕ → List ℕ
xfer_rdy_of n fill = to_initiator 0x05 0x04 fill 0x12 0 (replicate n 0x00 ++ replicate fill 0x00)

pub record Screened : Type 0 where
  -- with both addresses and the tag right it is stored
  pub right : (read (data_from here there ours)).says ≡ Said.stored
  -- 7 "a hashed address differs": one byte of one of them
  pub dest_first : (read (data_from (0x13 ∷ 0x34 ∷ 0x56 ∷ []) there ours)).says ≡ Said.refused 7
  pub dest_second : (read (data_from (0x12 ∷ 0x35 ∷ 0x56 ∷ []) there ours)).says ≡ Said.refused 7
  pub dest_third : (read (data_from (0x12 ∷ 0x34 ∷ 0x57 ∷ []) there ours)).says ≡ Said.refused 7
  pub source_first : (read (data_from here (0xaa ∷ 0xcd ∷ 0xef ∷ []) ours)).says ≡ Said.refused 7
  pub source_second : (read (data_from here (0xab ∷ 0xcc ∷ 0xef ∷ []) ours)).says ≡ Said.refused 7
  pub source_third : (read (data_from here (0xab ∷ 0xcd ∷ 0xee ∷ []) ours)).says ≡ Said.refused 7
  -- 8 "tag differs": either byte; 7 before 8
  pub tag_first : (read (data_from here there (0x01 ∷ 0x12 ∷ []))).says ≡ Said.refused 8
  pub tag_second : (read (data_from here there (0x00 ∷ 0x13 ∷ []))).says ≡ Said.refused 8
  pub both : (read (data_from (0x13 ∷ 0x34 ∷ 0x56 ∷ []) there (0x01 ∷ 0x12 ∷ []))).says ≡ Said.refused 7
  -- "An XFER_RDY in a read command is 27", after 23 and 24; it ends the command
  pub xfer_rdy : read (xfer_rdy_of 12 0) ≡ failed 27
  pub xfer_rdy_short : read (xfer_rdy_of 11 1) ≡ failed 23
  pub xfer_rdy_long : read (xfer_rdy_of 13 3) ≡ failed 24
