-- Request K2, "Data before header": the writer in two steps that can be called apart. "Each takes what the writer takes and refuses as it does": each
-- answers `write_answer`. The laws are stated here and proved in proofs/TwoSteps.antt.
use Rattle.std.specs.Prelude.{ℕ, List, ◌≡◌, length, take, drop}
use Rattle.status.specs.Result.{Result}
use Rattle.frame.specs.Format.{fill_of, header_bytes, data_bytes, encode}
use Rattle.frame.specs.Write.{writable, write_answer, placed, put}
use Rattle.frame.specs.declared.types.Header.{Header}

-- the output buffer d after an answer for the bytes s at place i: a refusal changes no byte
abbrev pub put_at : ℕ → Result ℕ → List ℕ → List ℕ → List ℕ
put_at i (Result.value n) s d = placed d i s
put_at i (Result.number n) s d = d

-- "the first puts down data and fill and leaves the first 24 bytes unchanged": what it leaves in the output buffer
abbrev pub put_data : Header → List ℕ → List ℕ → List ℕ
put_data h iu out = put_at 24 (write_answer h iu out) (data_bytes iu) out

-- "the second puts down the header and changes no other byte"
abbrev pub put_header : Header → List ℕ → List ℕ → List ℕ
put_header h iu out = put_at 0 (write_answer h iu out) (header_bytes h (fill_of (length iu))) out

-- (a) "One after the other they are the writer", in either order
abbrev pub AreTheWriter : Type 0
AreTheWriter = (h : Header) (iu out : List ℕ) → (put_header h iu (put_data h iu out) ≡ put (write_answer h iu out) (encode h iu) out) × (put_data h iu (put_header h iu out) ≡ put (write_answer h iu out) (encode h iu) out)

-- (b) each step twice is that step once
abbrev pub TwiceIsOnce : Type 0
TwiceIsOnce = (h : Header) (iu out : List ℕ) → (put_data h iu (put_data h iu out) ≡ put_data h iu out) × (put_header h iu (put_header h iu out) ≡ put_header h iu out)

-- (c) a step leaves the answer as it was, number or length; all three answer `write_answer`, so what either step refuses, the other and the writer refuse with the
-- same number, before it and after
abbrev pub LeaveTheAnswer : Type 0
LeaveTheAnswer = (h : Header) (iu out : List ℕ) → (write_answer h iu (put_data h iu out) ≡ write_answer h iu out) × (write_answer h iu (put_header h iu out) ≡ write_answer h iu out)

-- (d) the bytes that stay: before the IU and beyond the frame at the data step, all from 24 on at the header step
abbrev pub LeaveTheRest : Type 0
LeaveTheRest = (h : Header) (iu out : List ℕ) → (take 24 (put_data h iu out) ≡ take 24 out) × (drop (length (encode h iu)) (put_data h iu out) ≡ drop (length (encode h iu)) out) × (drop 24 (put_header h iu out) ≡ drop 24 out)

-- (e) of the IU counts at the header step only the length
abbrev pub OnlyTheLength : Type 0
OnlyTheLength = (h : Header) (iu ju out : List ℕ) → length iu ≡ length ju → (write_answer h iu out ≡ write_answer h ju out) × (put_header h iu out ≡ put_header h ju out)

-- (f) of the header counts at the data step only whether it is taken
abbrev pub OnlyWhetherTaken : Type 0
OnlyWhetherTaken = (h g : Header) (iu out : List ℕ) → writable h (length iu) ≡ writable g (length iu) → (write_answer h iu out ≡ write_answer g iu out) × (put_data h iu out ≡ put_data g iu out)
