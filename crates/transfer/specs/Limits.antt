-- "Limits of a transfer": "byte count 1 to 16,777,216. Data per frame a multiple of four, 4 to 1,024. Unanswered frames (the window) 1 to 64.
-- Retry limit 0 to 15 .. Write burst 1 to the byte count"; and "a hashed address passes 24 bits" is 1 too.
-- Request K7: "Under SAS-2 the caller gives a value of 0 to 65,535"; "a nonzero value under SAS-1.1 is 1". Request K4: "0 to 65,535 milliseconds", all that 16 bits hold.
-- Request K5: "Start plus count is at most 16,777,216"; "1 gains the sum and a write's start other than 0".
use Rattle.std.specs.Prelude.{ℕ, ◌+◌, ◌%◌, ◌^◌, ◌-◌, Bool, true, false, not, ◌||◌, List, [], ◌∷◌, ◌≡◌, leb, eqb}
use Rattle.status.specs.Pick.{all}
use Rattle.status.specs.Number.{refusal_number}
use Rattle.status.specs.Result.{Result, granted}
use Rattle.transfer.specs.declared.Transfer.{Transfer}

-- "start plus count": where a read ends in the host's buffer, which "is at least that sum long"; in a write it is the byte count
abbrev pub past : Transfer → ℕ
past t = t.start + t.count

unfoldable pub limits : Transfer → List Bool
limits t =
    leb 1 t.count ∷ leb t.count 16_777_216 ∷
    leb 4 t.size ∷ leb t.size 1_024 ∷ eqb (t.size % 4) 0 ∷
    leb 1 t.window ∷ leb t.window 64 ∷
    leb t.limit 15 ∷
    leb 1 t.burst ∷ leb t.burst t.count ∷
    leb t.local (2 ^ 24 - 1) ∷ leb t.remote (2 ^ 24 - 1) ∷
    (t.sas2 || eqb t.value 0) ∷
    leb (past t) 16_777_216 ∷ (not t.write || eqb t.start 0) ∷ []

unfoldable pub limits_hold : Transfer → Bool
limits_hold t = all (limits t)

-- a transfer outside the limits is 1
abbrev pub made_of : Transfer → Result Transfer
made_of t = granted (limits_hold t) t

-- "Under SAS-1.1 frames are as today": the value is zero. Proved in proofs/Bounds.antt
abbrev pub ZeroBefore : Type 0
ZeroBefore = (t : Transfer) → limits_hold t ≡ true → t.sas2 ≡ false → t.value ≡ 0
