-- A worked run: a list of link events from a start, what stands at its end, and the delivery claim there.
use Rattle.std.specs.Prelude.{ℕ, List, [], ◌∷◌, ◌≡◌, length, get_or}
use Rattle.frame.specs.Format.{field}
use Rattle.link.specs.Ports.{Ports}
use Rattle.link.specs.World.{World, Report, Event, run, Allowed}
use Rattle.link.specs.Delivers.{BurstParameters, Concluded, Delivers}
use Rattle.link.specs.Claim.{Editions, Starts}

-- a burst with four bytes per frame: base, end, retry limit
abbrev pub burst : ℕ → ℕ → ℕ → BurstParameters
burst base end limit = record { start = 0; base = base; end = end; size = 4; limit = limit }

-- of each frame its data offset and byte 10, which is 1 where CDP is one
abbrev pub pointers : List (List ℕ) → List (ℕ × ℕ)
pointers [] = []
pointers (f ∷ fs) = (field f 20 4, get_or f 10 0) ∷ pointers fs

-- the list of events es from a start: it is allowed, what stands at its end, and the claim there
pub record Worked {P : Ports} (b : BurstParameters) (start : World P) (es : List (Event P)) (report : Report) (received : List ℕ) (faults count : ℕ) (handed : List (ℕ × ℕ)) : Type 1 where
  -- the claim's premises
  pub editions : Editions
  pub starts : Starts P editions b start
  pub allowed : Allowed start es
  -- what the sending port has reported, the receiving port's buffer, the faults, the history of frames and its length
  pub reports : (run start es).report ≡ report
  pub receives : (run start es).received ≡ received
  pub suffers : (run start es).tally.faults ≡ faults
  pub counts : length (run start es).handed ≡ count
  pub hands_out : pointers (run start es).handed ≡ handed
  -- the premise of the claim's last two parts
  pub concludes : Concluded (run start es)
  pub claims : Delivers b start (run start es)
