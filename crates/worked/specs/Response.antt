-- Request K9 worked out: RESPONSEs of each kind that arrive at the initiator of a read of ten bytes, each need just met, one below and one above, and of
-- kinds 2 and 3 at that of a write. Status codes are SAM's, sense data SPC's. Proved in proofs/Response.antt.
use Rattle.std.specs.Prelude.{ℕ, List, [], ◌∷◌, ◌++◌, true, ◌≡◌, replicate}
use Rattle.status.specs.Pick.{◌with◌}
use Rattle.status.specs.Answer.{Said, Left, ◌saying◌}
use Rattle.status.specs.declared.answer.Opened.{Opened}
use Rattle.frame.specs.Format.{digits}
use Rattle.frame.specs.Lent.{none}
use Rattle.receiver_steps.specs.Fields.{ended≔}
use Rattle.receiver_steps.specs.Record as receiver
use Rattle.receiver_steps.specs.declared.types.Receiver.{Receiver}
use Rattle.initiator.specs.Read.{read_arrival_of}
use Rattle.initiator.specs.WriteTake.{ended_of, write_arrival_of}
use Rattle.initiator.specs.Sense.{sense_in}
use Rattle.initiator.specs.declared.types.Writer.{Writer}
use Rattle.worked.specs.Setting.{host, tagged}
use Rattle.worked.specs.Crossing.{crossed}

-- an IU: byte 10, status, sense length and response length, the list
abbrev pub iu : ℕ → ℕ → ℕ → ℕ → List ℕ → List ℕ
iu b s n m l = replicate 10 0 ++ (b ∷ s ∷ 0 ∷ 0 ∷ 0 ∷ 0 ∷ []) ++ digits 4 n ++ digits 4 m ++ l

-- the target's RESPONSE to this command: the number of fill bytes and the IU
abbrev pub response : ℕ → List ℕ → List ℕ
response = tagged 0x12

-- CHECK CONDITION's sense data in fixed format: NOT READY, becoming ready (04h/01h)
abbrev pub not_ready : List ℕ
not_ready = 0x70 ∷ 0x00 ∷ 0x02 ∷ 0x00 ∷ 0x00 ∷ 0x00 ∷ 0x00 ∷ 0x0a ∷ 0x00 ∷ 0x00 ∷ 0x00 ∷ 0x00 ∷ 0x04 ∷ 0x01 ∷ 0x00 ∷ 0x00 ∷ 0x00 ∷ 0x00 ∷ []

abbrev pub check : List ℕ
check = response 2 (iu 0x02 0x02 18 0 not_ready)

abbrev pub opened : ℕ → ℕ → ℕ → Opened
opened k s n = record { kind = k; status = s; sense = n }

abbrev pub reader : Receiver
reader = receiver.beginning (host 10 3 5) 0 10

abbrev pub read : List ℕ → Left Receiver
read f = read_arrival_of reader f 10

-- burst 1 has two frames unanswered of four handed out, and burst 2 waits
abbrev pub writer : Writer
writer = crossed 2 1

abbrev pub failed : ℕ → Left Receiver
failed n = (reader with ended≔ true) saying Said.failed n 0

pub record Opening : Type 0 where
  -- GOOD (00h) and BUSY (08h): no data, whatever the two lengths and the other bits of byte 10
  pub good : read (response 0 (iu 0x00 0x00 0 0 [])) ≡ ((reader with ended≔ true) saying Said.response 24 24 (opened 0 0x00 0) 0)
  pub busy : (read (response 0 (iu 0xfc 0x08 18 4 []))).says ≡ Said.response 24 24 (opened 0 0x08 0) 0
  pub no_part_busy : (sense_in (read (response 0 (iu 0xfc 0x08 18 4 []))).says (response 0 (iu 0xfc 0x08 18 4 []))).bytes ≡ []
  -- response data of 4 bytes, whatever the sense length
  pub task : (read (response 0 (iu 0x01 0x00 4 4 (0 ∷ 0 ∷ 0 ∷ 5 ∷ [])))).says ≡ Said.response 24 28 (opened 1 0x00 0) 0
  pub no_part_task : (sense_in (read (response 0 (iu 0x01 0x00 4 4 (0 ∷ 0 ∷ 0 ∷ 5 ∷ [])))).says (response 0 (iu 0x01 0x00 4 4 (0 ∷ 0 ∷ 0 ∷ 5 ∷ [])))).bytes ≡ []
  -- CHECK CONDITION (02h) with 18 bytes of sense data, whatever the response length; they stand in the frame, without the fill
  pub condition : read check ≡ ((reader with ended≔ true) saying Said.response 24 42 (opened 2 0x02 18) 0)
  pub sense : sense_in (read check).says check ≡ record { place = 48; bytes = not_ready }
  pub any_response : (read (response 2 (iu 0xfe 0x02 18 4 not_ready))).says ≡ Said.response 24 42 (opened 2 0x02 18) 0
  -- the status does not decide: GOOD with sense data
  pub good_with_sense : (read (response 2 (iu 0x02 0x00 18 0 not_ready))).says ≡ Said.response 24 42 (opened 2 0x00 18) 0
  -- in a write, with the frames of the burst in service; the burst that waits stays in the ended record
  pub written : write_arrival_of writer check ≡ (ended_of writer saying Said.response 24 42 (opened 2 0x02 18) 4)
  pub written_sense : sense_in (write_arrival_of writer check).says check ≡ record { place = 48; bytes = not_ready }
  -- kind 0 needs 24 bytes: not 25, nor as many as a length says
  pub none_25 : read (response 3 (iu 0x00 0x00 0 0 (0 ∷ []))) ≡ failed 34
  pub none_28 : read (response 0 (iu 0x00 0x00 0 4 (0 ∷ 0 ∷ 0 ∷ 0 ∷ []))) ≡ failed 34
  pub none_42 : read (response 2 (iu 0x00 0x02 18 0 not_ready)) ≡ failed 34
  -- kind 1: length 3 and 5, an IU of 27 and 29; 4 in the two low bytes only; the length at the sense length's place
  pub task_3 : read (response 0 (iu 0x01 0x00 0 3 (0 ∷ 0 ∷ 0 ∷ 0 ∷ []))) ≡ failed 34
  pub task_5 : read (response 0 (iu 0x01 0x00 0 5 (0 ∷ 0 ∷ 0 ∷ 0 ∷ []))) ≡ failed 34
  pub task_27 : read (response 1 (iu 0x01 0x00 0 4 (0 ∷ 0 ∷ 0 ∷ []))) ≡ failed 34
  pub task_29 : read (response 3 (iu 0x01 0x00 0 4 (0 ∷ 0 ∷ 0 ∷ 0 ∷ 0 ∷ []))) ≡ failed 34
  pub task_65540 : read (response 0 (iu 0x01 0x00 0 65_540 (0 ∷ 0 ∷ 0 ∷ 0 ∷ []))) ≡ failed 34
  pub task_elsewhere : read (response 0 (iu 0x01 0x00 4 0 (0 ∷ 0 ∷ 0 ∷ 0 ∷ []))) ≡ failed 34
  -- kind 2: length 17 and 19, an IU of 41 and 43; 18 in the two low bytes only; the length at the response length's place
  pub sense_17 : read (response 2 (iu 0x02 0x02 17 18 not_ready)) ≡ failed 34
  pub sense_19 : read (response 2 (iu 0x02 0x02 19 18 not_ready)) ≡ failed 34
  pub sense_41 : read (response 3 (iu 0x02 0x02 18 17 (replicate 17 0))) ≡ failed 34
  pub sense_43 : read (response 1 (iu 0x02 0x02 18 19 (replicate 19 0))) ≡ failed 34
  pub sense_65554 : read (response 2 (iu 0x02 0x02 65_554 0 not_ready)) ≡ failed 34
  pub sense_elsewhere : read (response 2 (iu 0x02 0x02 0 18 not_ready)) ≡ failed 34
  -- 0, 1 and 1,000 bytes of sense data; more does not fit into a frame
  pub sense_0 : read (response 0 (iu 0x02 0x02 0 0 [])) ≡ failed 34
  pub sense_1 : (read (response 3 (iu 0x02 0x02 1 0 (0x70 ∷ [])))).says ≡ Said.response 24 25 (opened 2 0x02 1) 0
  pub sense_1000 : (read (response 0 (iu 0x02 0x02 1_000 0 (replicate 1_000 0x55)))).says ≡ Said.response 24 1_024 (opened 2 0x02 1_000) 0
  -- kind 3, as no data, response data and sense data
  pub reserved : read (response 0 (iu 0x03 0x00 0 0 [])) ≡ failed 34
  pub reserved_task : read (response 0 (iu 0x03 0x00 0 4 (0 ∷ 0 ∷ 0 ∷ 0 ∷ []))) ≡ failed 34
  pub reserved_sense : read (response 2 (iu 0xff 0x02 18 0 not_ready)) ≡ failed 34
  pub reserved_written : write_arrival_of writer (response 2 (iu 0xff 0x02 18 0 not_ready)) ≡ (ended_of writer saying Said.failed 34 4)
  -- 32 comes first: 23 bytes, kind 3; 8 before both, and it leaves the record
  pub short : read (response 1 (replicate 10 0 ++ 0x03 ∷ replicate 12 0)) ≡ failed 32
  pub other_short : read (tagged 0x13 1 (replicate 10 0 ++ 0x03 ∷ replicate 12 0)) ≡ (reader saying Said.refused 8)
  pub other : read (tagged 0x13 2 (iu 0xff 0x02 18 0 not_ready)) ≡ (reader saying Said.refused 8)
  -- no part after a failure or a refusal
  pub no_part : sense_in (read (response 2 (iu 0xff 0x02 18 0 not_ready))).says (response 2 (iu 0xff 0x02 18 0 not_ready)) ≡ none
  pub no_part_other : sense_in (read (tagged 0x13 2 (iu 0x02 0x02 18 0 not_ready))).says (tagged 0x13 2 (iu 0x02 0x02 18 0 not_ready)) ≡ none
