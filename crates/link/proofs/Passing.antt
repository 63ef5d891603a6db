-- A report of time that fails nothing keeps the invariant: it moves the sum of milliseconds alone, of which the receiving core knows nothing.
use mathlib.Core.List.{List}
use mathlib.Core.Logic.{inl, inr}
use mathlib.Core.Path.{◌≡◌, sym, subst}
use Prim.Native.Nat.{ℕ}
use Rattle.status.specs.Pick.{◌with◌}
use Rattle.link.specs.Ports.{Ports}
use Rattle.link.specs.World.{World, Call, called, receiving≔, received≔, Passes}
use Rattle.link.proofs.Setting.{Setting}
use Rattle.link.proofs.Simulates.{Simulates}
use Rattle.link.proofs.Invariant.{Live, Inv, live}
use Rattle.link.proofs.Late.{receiving_moves}

module _ {P : Ports} (S : Setting) (M : Simulates P S.tptt) (w : World P) where
  -- another state of the receiving port that stands for the same core
  waits : (l : Live S M w) (y : P.Receiving) (b : List ℕ) → M.TakesAs y l.r → b ≡ w.received → Inv S M (w with receiving≔ y with received≔ b)
  waits l y b t e =
      let p = l.ported in
      subst (λ (v : List ℕ). Inv S M (w with receiving≔ y with received≔ v)) (sym e)
      (inl
      (live S M l.s l.r l.c l.k l.m l.j l.R l.sends
      (record { takes = t; send_for = p.send_for; take_for = p.take_for; s_holds = p.s_holds; s_open = p.s_open; r_holds = p.r_holds; r_open = p.r_open })
      l.stored l.reached l.marked l.linked l.pending l.counted l.standing l.silent))

  pub passing_keeps : Inv S M w → (k : Call P) → Passes w k → Inv S M (called w k)
  passing_keeps i (Call.asking d out) a = absurd a
  passing_keeps i (Call.signals g) a = absurd a
  passing_keeps i (Call.at_sender c) a = absurd a
  passing_keeps (inl l) (Call.at_receiver c) a = waits l _ _ (M.passes_as c a.0 w.receiving l.r w.received l.ported.takes a.1) (M.times_lend c a.0 w.receiving w.received)
  passing_keeps (inr d) (Call.at_receiver c) a = receiving_moves S M w d _ _ (M.times_lend c a.0 w.receiving w.received)
  passing_keeps i (Call.at_receiver_in c b) a = absurd a
