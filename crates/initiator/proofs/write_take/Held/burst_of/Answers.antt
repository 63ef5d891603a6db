use mathlib.Core.Path.{sym, ◌∙◌}
use Rattle.initiator.proofs.WriteFits.{end_fits}
use Rattle.initiator.proofs.WriteHeld.{held}
use Rattle.initiator.proofs.write_take.Held.burst_of.Goals as goal

pub asked-b-requires : goal.asked-b-requires
asked-b-requires c =
    end_fits _ _ _ (held _ c.args.self.holds).core.limits_held (c.in_ok-disposition.disposition, sym c.judge.ensures ∙ c.in_ok-disposition.was)
