-- Request K7 worked out: "any pairing delivers alike": a SAS-2 target whose value is BEEFh and a SAS-1.1 initiator, in a read with a NAK that is lost, and the other way
-- round. Proved in proofs/Pairing.antt.
use Rattle.std.specs.Prelude.{ℕ, List, [], ◌∷◌, true, ◌≡◌, replicate}
use Rattle.transfer.specs.declared.Transfer.{Transfer}
use Rattle.frame.specs.Format.{field}
use Rattle.sender_steps.specs.Record.{beginning}
use Rattle.sender.specs.Record.{whole}
use Rattle.receiver_steps.specs.Record as receiver
use Rattle.link.specs.World.{World, Report, run}
use Rattle.link.specs.Delivers.{fresh}
use Rattle.link.specs.Reading.{read_ports}
use Rattle.worked.specs.Setting.{target, host}
use Rattle.worked.specs.Run.{Worked, burst}
use Rattle.worked.specs.Faults.{eight, nak_lost_events}

-- the transfer t under SAS-2, with a value
abbrev pub sas2 : ℕ → Transfer → Transfer
sas2 value t =
    record { write = t.write; count = t.count; size = t.size; window = t.window; limit = t.limit; burst = t.burst; local = t.local; remote = t.remote; tag = t.tag; sas2 = true; value = value; irt = t.irt; start = t.start }

-- the read of specs/Faults between a target and an initiator of any edition
abbrev pub between : Transfer → Transfer → World read_ports
between t u = fresh read_ports (beginning t (whole t)) (receiver.beginning u 0 8) eight (replicate 8 0xff)

unfoldable pub new_target : World read_ports
new_target = between (sas2 0xbeef (target 8 2 1)) (host 8 2 1)

unfoldable pub new_initiator : World read_ports
new_initiator = between (target 8 2 1) (sas2 0xbeef (host 8 2 1))

-- the TPTT of each frame
abbrev pub tags : List (List ℕ) → List ℕ
tags [] = []
tags (f ∷ fs) = field f 18 2 ∷ tags fs

-- both as under SAS-1.1 at both ends: delivered with 4 frames, 1 fault
abbrev pub NewTarget : Type 1
NewTarget = Worked (burst 0 8 1) new_target nak_lost_events (Report.delivered 4) eight 1 4 ((0, 0) ∷ (4, 0) ∷ (0, 1) ∷ (4, 0) ∷ [])

abbrev pub NewInitiator : Type 1
NewInitiator = Worked (burst 0 8 1) new_initiator nak_lost_events (Report.delivered 4) eight 1 4 ((0, 0) ∷ (4, 0) ∷ (0, 1) ∷ (4, 0) ∷ [])

-- the frames of the SAS-2 target carry its value, the resent ones too; those of the SAS-1.1 target zero
abbrev pub NewTags : Type 0
NewTags = tags (run new_target nak_lost_events).handed ≡ 0xbeef ∷ 0xbeef ∷ 0xbeef ∷ 0xbeef ∷ []

abbrev pub OldTags : Type 0
OldTags = tags (run new_initiator nak_lost_events).handed ≡ 0 ∷ 0 ∷ 0 ∷ 0 ∷ []
