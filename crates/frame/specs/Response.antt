-- Request K9, the RESPONSE's IU: "byte 10, bits 1 and 0, is DATAPRES: 0 no data, 1 response data, 2 sense data, 3 reserved. Byte 11 is the status,
-- bytes 16 to 19 the sense length, 20 to 23 the response length, lists from byte 24."
use Rattle.std.specs.Prelude.{ℕ, ◌+◌, ◌%◌, List, Bool, ◌&&◌, length, get_or, eqb, leb, ltb}
use Rattle.status.specs.Pick.{pick}
use Rattle.status.specs.Result.{Result}
use Rattle.status.specs.declared.answer.Opened.{Opened}
use Rattle.frame.specs.Format.{field}
use Rattle.frame.specs.Lent.{Lent, none, part_of}

-- DATAPRES; the other bits of byte 10 are ignored
abbrev pub kind_in : List ℕ → ℕ
kind_in iu = get_or iu 10 0 % 4

abbrev pub status_in : List ℕ → ℕ
status_in iu = get_or iu 11 0

abbrev pub sense_length : List ℕ → ℕ
sense_length iu = field iu 16 4

abbrev pub response_length : List ℕ → ℕ
response_length iu = field iu 20 4

-- "Kind 1 [needs] a response length of 4 and an IU of 28"
unfoldable pub response_fits : List ℕ → Bool
response_fits iu = eqb (response_length iu) 4 && eqb (length iu) 28

-- "kind 2 a sense length of 1 to 1,000 and an IU of 24 plus it"
unfoldable pub sense_fits : List ℕ → Bool
sense_fits iu = leb 1 (sense_length iu) && leb (sense_length iu) 1_000 && eqb (length iu) (24 + sense_length iu)

abbrev pub opened : List ℕ → ℕ → Opened
opened iu sense = record { kind = kind_in iu; status = status_in iu; sense = sense }

-- what an IU says with so many bytes of sense data, or 34 where a need is not met
abbrev pub needing : Bool → List ℕ → ℕ → Result Opened
needing met iu sense = pick met (Result.value (opened iu sense)) (Result.number 34)

-- each kind's need ("kind 0 needs an IU of exactly 24"), "lengths of the other list are ignored"; kind 3 is 34
unfoldable pub by_kind : List ℕ → Result Opened
by_kind iu =
    pick (eqb (kind_in iu) 0) (needing (eqb (length iu) 24) iu 0)
    (pick (eqb (kind_in iu) 1) (needing (response_fits iu) iu 0)
    (pick (eqb (kind_in iu) 2) (needing (sense_fits iu) iu (sense_length iu)) (Result.number 34)))

-- "32: under 24 bytes"; "34 ..: a failure, after 32"
unfoldable pub response_iu_of : List ℕ → Result Opened
response_iu_of iu = pick (ltb (length iu) 24) (Result.number 32) (by_kind iu)

-- the sense data of an IU that says o: "lists from byte 24"; "for kinds 0 and 1 .. the part is empty"
abbrev pub sense_of : Opened → List ℕ → Lent
sense_of o iu = pick (eqb o.kind 2) (part_of iu 24 o.sense) none
