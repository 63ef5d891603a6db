-- Demand 2 on frames: "fields written come back; an accepted frame read and written again differs at most in reserved bits and fill".
-- Each is stated here and proved in proofs/RoundTrip.antt.
use Rattle.std.specs.Prelude.{ℕ, ◌+◌, ◌%◌, ◌^◌, ◌≤◌, ◌<◌, List, true, ◌≡◌, length, get_or, take, drop}
use Rattle.frame.specs.Format.{encode}
use Rattle.frame.specs.Write.{writable}
use Rattle.frame.specs.Read.{decode, iu_of, iu_length}
use Rattle.frame.specs.Reserved.{cleared, kept}
use Rattle.frame.specs.XferRdy.{xfer_rdy_bytes, xfer_rdy_of}
use Rattle.frame.specs.declared.types.Header.{Header}
use Rattle.status.specs.Result.{Result}
use Rattle.frame.specs.declared.types.Parsed.{Parsed}
use Rattle.frame.specs.declared.types.XferRdy.{XferRdy}

-- a list that a slice of bytes can hold
abbrev pub Bytes : List ℕ → Type 0
Bytes b = (i : ℕ) → get_or b i 0 < 256

-- a header that its fields' types can hold
pub record InRange (h : Header) : Type 0 where
  pub tag : h.tag < 2 ^ 16
  pub tptt : h.tptt < 2 ^ 16
  pub offset : h.offset < 2 ^ 32

-- (a) what is written comes back when read, header and IU
abbrev pub ComesBack : Type 0
ComesBack = (h : Header) (iu : List ℕ) → InRange h → writable h (length iu) ≡ true → (decode (encode h iu) ≡ Result.value (record { header = h; start = 24; len = length iu })) × (iu_of (encode h iu) ≡ iu)

-- (b) an accepted frame read and written again is the frame with its reserved bits and fill at zero, and the writer takes what the reader gave
abbrev pub WrittenAgain : Type 0
WrittenAgain = (b : List ℕ) (p : Parsed) → Bytes b → decode b ≡ Result.value p → (writable p.header p.len ≡ true) × (encode p.header (take p.len (drop p.start b)) ≡ cleared b)

-- (c) that differs from the frame at most in reserved bits and fill
pub record Differs (b : List ℕ) : Type 0 where
  pub size : length (cleared b) ≡ length b
  pub header : (i : ℕ) → i < 24 → get_or (cleared b) i 0 ≡ get_or b i 0 % get_or kept i 1
  pub iu : (i : ℕ) → 24 ≤ i → i < 24 + iu_length b → get_or (cleared b) i 0 ≡ get_or b i 0

abbrev pub DiffersAtMost : Type 0
DiffersAtMost = (b : List ℕ) (p : Parsed) → Bytes b → decode b ≡ Result.value p → Differs b

-- the same of an XFER_RDY's IU
abbrev pub XferRdyComesBack : Type 0
XferRdyComesBack = (x : XferRdy) → x.offset < 2 ^ 32 → x.len < 2 ^ 32 → xfer_rdy_of (xfer_rdy_bytes x) ≡ Result.value x
