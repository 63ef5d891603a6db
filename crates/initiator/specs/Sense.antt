-- Request K9: "the sense data as that part of the caller's own frame; for kinds 0 and 1, a refusal or a failure the part is empty".
use Rattle.std.specs.Prelude.{ℕ, true, false, List, ◌≡◌, length}
use Rattle.status.specs.Pick.{if_any, ◌with◌}
use Rattle.status.specs.Answer.{Said, view, ◌saying◌}
use Rattle.status.specs.Result.{Result}
use Rattle.frame.specs.Format.{RESPONSE, encode}
use Rattle.frame.specs.Write.{writable}
use Rattle.frame.specs.Read.{iu_of}
use Rattle.frame.specs.RoundTrip.{InRange}
use Rattle.frame.specs.Lent.{Lent, none, part_of, within}
use Rattle.frame.specs.Response.{response_iu_of, sense_of}
use Rattle.frame.specs.ResponseForms.{Form}
use Rattle.frame.specs.declared.types.Header.{Header}
use Rattle.transfer.specs.declared.Transfer.{Transfer}
use Rattle.receiver_steps.specs.Fields.{ended≔}
use Rattle.receiver_steps.specs.declared.types.Receiver.{Receiver}
use Rattle.initiator.specs.Read.{read_lent_of, read_arrival_of}
use Rattle.initiator.specs.WriteRecord.{holds_of}
use Rattle.initiator.specs.WriteTake.{ended_of, write_arrival_of}
use Rattle.initiator.specs.declared.types.Writer.{Writer}

-- the part of the frame f that the answer to its arrival speaks of: the sense data of the IU that stands there
abbrev pub sense_in : Said → List ℕ → Lent
sense_in a f = if_any (view a).response (λ r. within (part_of f r.start r.len) (sense_of r.opened)) none

-- a RESPONSE in the answer is the frame's: its IU stands there, behind the header, and says so
abbrev pub Stands : Said → List ℕ → Type 0
Stands a f = if_any (view a).response (λ r. (r.start ≡ 24) × ((part_of f r.start r.len).bytes ≡ iu_of f) × (r.len ≡ length (iu_of f)) × (response_iu_of (iu_of f) ≡ Result.value r.opened)) (Unit {0})

-- (a) of any record and any bytes
abbrev pub ReadStands : Type 0
ReadStands = (r : Receiver) (f : List ℕ) (m : ℕ) → Stands (read_arrival_of r f m).says f

abbrev pub WriteStands : Type 0
WriteStands = (w : Writer) (f : List ℕ) → Stands (write_arrival_of w f).says f

-- (b) a RESPONSE that was written for this port, with an IU of that kind, status and sense data, is taken where 1 and 2 do not apply, and they come back;
-- (a) and (b) are proved in proofs/SenseBack.antt
pub record Comes (t : Transfer) (h : Header) (n : ℕ) : Type 0 where
  -- the frame's type
  pub frametype : h.frametype ≡ RESPONSE
  pub dest : h.dest ≡ t.local
  pub source : h.source ≡ t.remote
  pub tag : h.tag ≡ t.tag
  pub range : InRange h
  pub written : writable h n ≡ true

abbrev pub opens_with : List ℕ → ℕ → ℕ → List ℕ → ℕ → Said
opens_with iu k s d n = Said.response 24 (length iu) (record { kind = k; status = s; sense = length d }) n

abbrev pub ReadOpens : Type 0
ReadOpens =
    (r : Receiver) (h : Header) (iu : List ℕ) (m k s : ℕ) (d : List ℕ) → read_lent_of r m ≡ true → r.ended ≡ false → Comes r.transfer h (length iu) → Form iu k s d →
    (read_arrival_of r (encode h iu) m ≡ ((r with ended≔ true) saying opens_with iu k s d 0)) × ((sense_in (opens_with iu k s d 0) (encode h iu)).bytes ≡ d)

abbrev pub WriteOpens : Type 0
WriteOpens =
    (w : Writer) (h : Header) (iu : List ℕ) (k s : ℕ) (d : List ℕ) → holds_of w ≡ true → w.sender.ended ≡ false → Comes w.sender.transfer h (length iu) → Form iu k s d →
    (write_arrival_of w (encode h iu) ≡ (ended_of w saying opens_with iu k s d w.sender.frames)) × ((sense_in (opens_with iu k s d w.sender.frames) (encode h iu)).bytes ≡ d)
