-- Line after line, a ladder stands where link events have led, until it is over: then its last round is closed.
use Prim.Native.Nat.{ℕ, ◌+◌, ◌<◌}
use mathlib.Core.List.{List, [], ◌∷◌, ◌++◌}
use mathlib.Core.Path.{◌≡◌, subst}
use lib.ListN.{length}
use Rattle.std.specs.Prelude.{Option, Some, None}
use Rattle.link.specs.Ports.{Ports}
use Rattle.link.specs.World.{World, Event}
use Rattle.ladder_text.specs.declared.types.Row.{Row}
use Rattle.ladder_run.specs.Row.{ROWS-MOST, area, Sent, out_of}
use Rattle.ladder_run.specs.Whole.{Whole, climb}
use Rattle.ladder_run.specs.declared.types.Sending.{Sending}
use Rattle.ladder_run.specs.declared.types.Ladder.{Ladder}
use Rattle.ladder_claim.specs.Claim.{on_link}
use Rattle.ladder_claim.proofs.Embeds.{Embeds}
use Rattle.ladder_claim.proofs.SendingCore.{SendsAs}
use Rattle.ladder_claim.proofs.Course.{Course}
use Rattle.ladder_claim.proofs.Going.{Live}
use Rattle.ladder_claim.proofs.Handing.{lent, shut}
use Rattle.ladder_claim.proofs.Lines.{After, climbs}
use Rattle.ladder_claim.proofs.Stands.{Fills, Stands}
use Rattle.ladder_claim.proofs.Waiting.{wait_idle}
use Rattle.ladder_claim.proofs.Sent.{with_due, wait_due, out_stands}
use Rattle.ladder_claim.proofs.Closed.{closed_stands}

module _ {P : Ports} (E : Embeds P) (start : World P) (end : ℕ) (fills : Fills E start end) (C : Course) (fs d : List ℕ) (lists : length fs ≡ C.listed) (sent : length d ≡ C.t.count) where
  -- the ladder l, its received data, rows so far and last events
  abbrev On : Ladder → List ℕ → List Row → Type 0
  On l b rows = Stands E start end fs d l b rows []

  abbrev Waits : Ladder → List ℕ → List Row → Type 0
  Waits l b rows = Stands E start end fs d l b rows (Event.ask area ∷ [])

  -- a frame asked for
  asks : (l : Ladder) (b : List ℕ) (rows : List Row) → Live C l → On l b rows → After C fs d lists sent On Waits rows (out_of l fs d b) (out_of l fs d b).line
  asks l b rows v g = go (out_of l fs d b) (out_of l fs d b).line stands
    where
      go : (x : Sent) (t : Option Row) → Stands E start end fs d x.ladder x.received (with_due t rows) (wait_due t) → After C fs d lists sent On Waits rows x t
      go x (Some r) a = a
      go x None a = a

      stands : let x = out_of l fs d b in Stands E start end fs d x.ladder x.received (with_due x.line rows) (wait_due x.line)
      stands =
          let w = v.going in
          out_stands E start end fs d l b rows g v.nothing
          (λ e.
          let q = shut C fs d sent l v b e in
          wait_idle w.s d area (lent C fs d sent l v b) w.on.live q.0 q.1 E g.s (subst (λ (x : Sending). SendsAs x w.s) g.sending w.sends) g.r b g.confirmations g.tally g.handed (on_link l.report))

  -- the whole ladder x behind these rows, at its verdict
  abbrev pub Over : List Row → Whole → Type 0
  Over rows x = (x.last.before ≡ x.last.frames) × On x.last x.received (rows ++ x.rows)

  pub climb_stands : (k : ℕ) (l : Ladder) (b : List ℕ) (rows : List Row) → Live C l → ROWS-MOST < k + l.frames → On l b rows → Over rows (climb k fs d l b)
  climb_stands k l b rows v h g = let c = climbs C fs d lists sent On Waits asks (closed_stands E start end fills fs d) k l b rows v h g in (c.over, c.stands)
