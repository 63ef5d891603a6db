-- What worked cases share that hold alike at both ends that send DATA: a read's target and a write's initiator. A write is one burst here.
use Rattle.std.specs.Prelude.{ℕ, List, [], true, replicate}
use Rattle.initiator.specs.WriteRecord as initiator
use Rattle.target.specs.Record as target
use Rattle.link.specs.Ports.{Called, lending, Signal, Ports}
use Rattle.link.specs.World.{World, Report, Event}
use Rattle.link.specs.Reading.{read_ports}
use Rattle.link.specs.Writing.{write_ports}
use Rattle.worked.specs.Setting.{between, space}
use Rattle.worked.specs.Run.{Worked, burst}
use Rattle.worked.specs.Read.{begin}
use Rattle.worked.specs.Write.{agreed}

-- a read at its start, and a write at that of its burst: byte count, window, retry limit, the data; nothing is received yet
abbrev pub a_read : ℕ → ℕ → ℕ → List ℕ → World read_ports
a_read count window limit sent = begin count window limit sent (replicate count 0xff)

abbrev pub a_write : ℕ → ℕ → ℕ → List ℕ → World write_ports
a_write count window limit sent =
    agreed (initiator.start_of (between 0x123456 0xabcdef true count window limit count)) (target.start_of (between 0xabcdef 0x123456 true count window limit count)) sent (replicate count 0xff)

-- link events at a pair of ports of either kind
abbrev pub Events : Type 1
Events = (P : Ports) → List (Event P)

-- the same events in a read r and in a write w: both runs end alike
pub record Both (count limit : ℕ) (r : World read_ports) (w : World write_ports) (es : Events) (report : Report) (received : List ℕ) (faults frames : ℕ) (handed : List (ℕ × ℕ)) : Type 1 where
  pub read : Worked (burst 0 count limit) r (es read_ports) report received faults frames handed
  pub write : Worked (burst 0 count limit) w (es write_ports) report received faults frames handed

-- at a sending port by itself: a frame asked for with its data, a confirmation
abbrev pub asking : (P : Ports) → List ℕ → P.Sending → Called P.Sending
asking P d s = P.ask s d space

abbrev pub hearing : (P : Ports) → Signal → P.Sending → Called P.Sending
hearing P g s = lending (P.signal g s) []
