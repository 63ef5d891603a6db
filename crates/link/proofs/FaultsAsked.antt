-- A frame asked for adds no fault to the tally.
use Prim.Native.Nat.{ℕ, ◌+◌}
use mathlib.Core.List.{[], ◌∷◌, ◌++◌}
use mathlib.Core.Option.{Option, none, some}
use mathlib.Core.Path.{◌≡◌}
use native.Mathlib.Omega.{arith}
use lib.ListN.{length, take, length-append}
use Rattle.status.specs.Pick.{if_any}
use Rattle.status.specs.Answer.{view}
use Rattle.link.specs.Ports.{Ports, Called}
use Rattle.link.specs.Tally.{Tally}
use Rattle.link.specs.World.{World, asks, sends}
use Rattle.link.specs.FaultsCounted.{Since}

-- what is unanswered is on the way or lost, and the counts since the last timeout or cut are the tally's
pub record Level (frames answers : ℕ) (t : Tally) (c : Since) : Type 0 where
  pub conserved : frames + answers + t.lost ≡ t.unanswered
  pub handed : c.handed ≡ c.reached + t.unanswered
  pub lost : c.lost ≡ t.lost

module _ {P : Ports} where
  abbrev pub Stands : World P → Since → Type 0
  Stands w c = Level (length w.frames) (length w.confirmations) w.tally c

  -- an event adds its faults, and the counts go on
  pub record Goes (w v : World P) (fault : ℕ) (c : Since) : Type 0 where
    pub faults : v.tally.faults ≡ w.tally.faults + fault
    pub stands : Stands v c

  module _ (w : World P) (c : Since) (s : Stands w c) where
    open s use {conserved, handed, lost}

    pub asked : (x : Called P.Sending) → Goes w (asks w x) 0 (if_any (view x.says).frame (λ n. record { handed = c.handed + 1; reached = c.reached; lost = c.lost }) c)
    asked x = go (view x.says).frame
      where
        go : (o : Option ℕ) → Goes w (if_any o (λ n. record { sending = x.left; receiving = w.receiving; sent = w.sent; received = w.received; frames = w.frames ++ (take n x.lent ∷ []); confirmations = w.confirmations; tally = record { unanswered = w.tally.unanswered + 1; lost = w.tally.lost; faults = w.tally.faults }; handed = w.handed ++ (take n x.lent ∷ []); report = (sends w (record { left = x.left; says = x.says })).report }) (sends w (record { left = x.left; says = x.says }))) 0 (if_any o (λ n. record { handed = c.handed + 1; reached = c.reached; lost = c.lost }) c)
        go (some n) = record { faults = omega arith; stands = record { conserved = omega (arith, conserved, length-append w.frames (take n x.lent ∷ [])); handed = omega (arith, handed); lost = lost } }
        go none = record { faults = omega arith; stands = s }
