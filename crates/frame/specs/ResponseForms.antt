-- Request K9: the IUs of a RESPONSE that the reader takes, one form for each kind, and what it gives of them. Proved in proofs/ResponseForms.antt.
use Rattle.std.specs.Prelude.{ℕ, ◌+◌, ◌*◌, ◌≤◌, ◌<◌, List, [], ◌∷◌, ◌++◌, ◌≡◌, length}
use Rattle.status.specs.Result.{Result}
use Rattle.status.specs.declared.answer.Opened.{Opened}
use Rattle.frame.specs.Format.{digits}
use Rattle.frame.specs.RoundTrip.{Bytes}
use Rattle.frame.specs.Response.{response_iu_of, sense_of}

-- bytes 0 to 23: any bytes a where nothing is read, the kind below any six bits of byte 10, the status, sense length and response length
abbrev pub front : (ℕ → ℕ) → ℕ → ℕ → ℕ → ℕ → ℕ → List ℕ
front a bits kind status sense response =
    (a 0 ∷ a 1 ∷ a 2 ∷ a 3 ∷ a 4 ∷ a 5 ∷ a 6 ∷ a 7 ∷ a 8 ∷ a 9 ∷ (bits * 4 + kind) ∷ status ∷ a 12 ∷ a 13 ∷ a 14 ∷ a 15 ∷ []) ++
    digits 4 sense ++
    digits 4 response

-- an IU of that kind, status and sense data; n, m: lengths that are not looked at, any numbers
pub data Form : List ℕ → ℕ → ℕ → List ℕ → Type 0 where
  no_data : (a : ℕ → ℕ) (bits status n m : ℕ) → Form (front a bits 0 status n m) 0 status []
  response_data : (a : ℕ → ℕ) (bits status n : ℕ) (d : List ℕ) → length d ≡ 4 → Form (front a bits 1 status n 4 ++ d) 1 status []
  sense_data : (a : ℕ → ℕ) (bits status n : ℕ) (d : List ℕ) → 1 ≤ length d → length d ≤ 1_000 → Form (front a bits 2 status (length d) n ++ d) 2 status d

-- (a) each is taken, and kind, status and sense data come back
abbrev pub Opens : Type 0
Opens =
    (iu : List ℕ) (k s : ℕ) (d : List ℕ) → Form iu k s d →
    (response_iu_of iu ≡ Result.value (record { kind = k; status = s; sense = length d })) × ((sense_of (record { kind = k; status = s; sense = length d }) iu).bytes ≡ d)

-- (b) nothing else is: under 24 bytes 32, else 34
pub data Read (iu : List ℕ) : Result Opened → Type 0 where
  short : length iu < 24 → Read iu (Result.number 32)
  wrong : 24 ≤ length iu → Read iu (Result.number 34)
  taken : (o : Opened) → Form iu o.kind o.status (sense_of o iu).bytes → Read iu (Result.value o)

abbrev pub NoOther : Type 0
NoOther = (iu : List ℕ) → Bytes iu → Read iu (response_iu_of iu)
