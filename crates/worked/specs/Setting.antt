-- What several files share: the two ports' transfer records, buffers, and frames that arrive at the initiator.
use Rattle.std.specs.Prelude.{ℕ, List, [], ◌∷◌, ◌++◌, Bool, false, replicate}
use Rattle.status.specs.declared.answer.Opened.{Opened}
use Rattle.transfer.specs.declared.Transfer.{Transfer}

-- a transfer record at one of two ports, by its own hashed address and the other's: SAS-1.1, four bytes per frame, tag 0012h; the byte count, window, retry limit and burst size
abbrev pub between : ℕ → ℕ → Bool → ℕ → ℕ → ℕ → ℕ → Transfer
between here there write count window limit burst =
    record { write = write; count = count; size = 4; window = window; limit = limit; burst = burst; local = here; remote = there; tag = 0x0012; sas2 = false; value = 0; irt = 0; start = 0 }

-- a read of so many bytes, with a window and a retry limit: the target's transfer record and the initiator's
abbrev pub target : ℕ → ℕ → ℕ → Transfer
target count window limit = between 0xabcdef 0x123456 false count window limit count

abbrev pub host : ℕ → ℕ → ℕ → Transfer
host count window limit = between 0x123456 0xabcdef false count window limit count

-- ten bytes of data
abbrev pub ten : List ℕ
ten = 10 ∷ 11 ∷ 12 ∷ 13 ∷ 14 ∷ 15 ∷ 16 ∷ 17 ∷ 18 ∷ 19 ∷ []

-- an output buffer with space for a frame
abbrev pub space : List ℕ
space = replicate 28 0xff

-- a frame from the target to the initiator: its type, byte 10, the number of fill bytes, the tag, the TPTT and the bytes after the header
abbrev pub to_initiator : ℕ → ℕ → ℕ → ℕ → ℕ → List ℕ → List ℕ
to_initiator type flags fill tag tptt rest =
    type ∷ 0x12 ∷ 0x34 ∷ 0x56 ∷ 0x00 ∷ 0xab ∷ 0xcd ∷ 0xef ∷
    0x00 ∷ 0x00 ∷ flags ∷ fill ∷ 0x00 ∷ 0x00 ∷ 0x00 ∷ 0x00 ∷
    0x00 ∷ tag ∷ 0x00 ∷ tptt ∷ 0x00 ∷ 0x00 ∷ 0x00 ∷ 0x00 ∷ rest

-- a DATA frame at offset 0 with another tag, 0013h
abbrev pub foreign : List ℕ
foreign = to_initiator 0x01 0x00 0 0x13 0 (0x77 ∷ 0x77 ∷ 0x77 ∷ 0x77 ∷ [])

-- the target's RESPONSE with a tag, so many fill bytes and an IU
abbrev pub tagged : ℕ → ℕ → List ℕ → List ℕ
tagged tag fill x = to_initiator 0x07 0x00 fill tag 0 x ++ replicate fill 0

-- one of 48 bytes, so an IU of 24: no data below other bits of byte 10, BUSY (08h), and lengths that kind 0 does not look at
abbrev pub response : List ℕ
response = tagged 0x12 0 (replicate 10 0x55 ++ 0x54 ∷ 0x08 ∷ replicate 12 0x55)

abbrev pub busy : Opened
busy = record { kind = 0; status = 8; sense = 0 }
