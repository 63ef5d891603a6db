-- The fates of the frames, in order: a number a frame (ladder_text `fate_number`).
use Rattle.std.specs.Prelude.{ℕ, zero, suc, ◌+◌, List, Bool, true, false, get_or}
use Rattle.ladder_text.specs.Words.{fate_at}
use Rattle.ladder_text.specs.declared.types.Fate.{Fate}
use Rattle.ladder_text.specs.declared.types.Fate.TheVariants.{Ok, Noack, Bad, Nonak, Lost}

-- "the fate of the next frame .. past the list, `ok`": frame n, counted from 0
abbrev pub fate_of : List ℕ → ℕ → Fate
fate_of fs n = fate_at (get_or fs n 0)

-- the frame reaches the receiving port: "`noack` (ACK lost), `bad` (damaged, NAK arrives), `nonak` (damaged, NAK lost), `lost`"
abbrev pub whole : Fate → Bool
whole Ok = true
whole Noack = true
whole Bad = false
whole Nonak = false
whole Lost = false

-- "faults (sent frames whose fate is not `ok`)"
abbrev pub fault : Fate → ℕ
fault Ok = 0
fault Noack = 1
fault Bad = 1
fault Nonak = 1
fault Lost = 1

-- of the first n frames
abbrev pub faults_of : List ℕ → ℕ → ℕ
faults_of fs zero = 0
faults_of fs (suc n) = faults_of fs n + fault (fate_of fs n)
