use mathlib.Core.Path.{sym, ap, ◌∙◌}
use Rattle.arrival.proofs.Passed.{passed}
use Rattle.arrival.specs.declared.Role.TheVariants.{WriteInitiator}
use Rattle.initiator.proofs.WriteReturns.{arrived_is, accepted_is}
use Rattle.initiator.proofs.write_take.write_frame_received.Goals as goal
use Rattle.status.specs.Result.{or_refusal}

pub invariant_of-take : goal.invariant_of-take
invariant_of-take c = record { holds = (accepted_is c.args.w c.args.bytes.now _ (sym c.arrived.ensures ∙ ap or_refusal c.in-Ok.is)).0 }

pub take-requires : goal.take-requires
take-requires c =
    let l = accepted_is c.args.w c.args.bytes.now _ (sym c.arrived.ensures ∙ ap or_refusal c.in-Ok.is) in
    let p = passed c.args.w.sender.transfer WriteInitiator c.args.bytes.now _ l.1 in
    rw (← p.is) p.inside

pub returns-in-Err : goal.returns-in-Err
returns-in-Err c = arrived_is c.args.w c.args.bytes.now (sym (ap or_refusal c.in-Err.is) ∙ c.arrived.ensures) c.refused.ensures

pub returns-in-Ok : goal.returns-in-Ok
returns-in-Ok c = arrived_is c.args.w c.args.bytes.now (sym (ap or_refusal c.in-Ok.is) ∙ c.arrived.ensures) c.take.ensures
