-- "The frame": which bytes a header, an IU and the fill are.
use Rattle.std.specs.Prelude.{ℕ, zero, suc, ◌+◌, ◌-◌, ◌*◌, ◌/◌, ◌%◌, List, [], ◌∷◌, ◌++◌, Bool, true, false, ◌||◌, length, get_or, replicate, eqb}
use Rattle.frame.specs.declared.types.Flags.{Flags}
use Rattle.frame.specs.declared.types.Header.{Header}

-- "frame type: 01h DATA, 05h XFER_RDY, 06h COMMAND, 07h RESPONSE, 16h TASK"
abbrev pub DATA : ℕ
DATA = 0x01

abbrev pub XFER-RDY : ℕ
XFER-RDY = 0x05

abbrev pub COMMAND : ℕ
COMMAND = 0x06

abbrev pub RESPONSE : ℕ
RESPONSE = 0x07

abbrev pub TASK : ℕ
TASK = 0x16

abbrev pub is_type : ℕ → Bool
is_type k = eqb k DATA || eqb k XFER-RDY || eqb k COMMAND || eqb k RESPONSE || eqb k TASK

-- "Fields are big-endian": a number in n bytes, and the number that the n bytes of b from i are
abbrev pub digits : ℕ → ℕ → List ℕ
digits zero x = []
digits (suc n) x = digits n (x / 256) ++ (x % 256 ∷ [])

abbrev pub field : List ℕ → ℕ → ℕ → ℕ
field b i zero = 0
field b i (suc n) = field b i n * 256 + get_or b (i + n) 0

-- a flag as a bit
abbrev pub bit : Bool → ℕ
bit true = 1
bit false = 0

-- byte 10: "bit 2 RETRY DATA FRAMES, bit 1 RETRANSMIT, bit 0 CHANGING DATA POINTER (CDP)"; request K8: "bits 4 and 3 .. TLR CONTROL", a number of two bits
unfoldable pub flag_byte : Flags → ℕ
flag_byte f = f.tlr % 4 * 8 + bit f.retry * 4 + bit f.retransmit * 2 + bit f.cdp

unfoldable pub flags_of : ℕ → Flags
flags_of b = record { tlr = b / 8 % 4; retry = eqb (b / 4 % 2) 1; retransmit = eqb (b / 2 % 2) 1; cdp = eqb (b % 2) 1 }

-- "then fill to a multiple of four": the number of fill bytes after an IU of n bytes
abbrev pub fill_of : ℕ → ℕ
fill_of n = (4 - n % 4) % 4

-- the table of "The frame", bytes 0 to 23; "other header bits are reserved: written zero"
unfoldable pub header_bytes : Header → ℕ → List ℕ
header_bytes h fill =
    (h.frametype ∷ digits 3 h.dest) ++
    (0 ∷ digits 3 h.source) ++
    (0 ∷ 0 ∷ flag_byte h.flags ∷ fill ∷ 0 ∷ 0 ∷ 0 ∷ 0 ∷ digits 2 h.tag) ++
    digits 2 h.tptt ++
    digits 4 h.offset

-- "24 on: information unit (IU), then fill"; "fill is written zero"
unfoldable pub data_bytes : List ℕ → List ℕ
data_bytes iu = iu ++ replicate (fill_of (length iu)) 0

unfoldable pub encode : Header → List ℕ → List ℕ
encode h iu = header_bytes h (fill_of (length iu)) ++ data_bytes iu
