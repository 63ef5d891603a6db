use mathlib.Core.Path.{refl, sym, ap, ◌∙◌}
use lib.ListN.{length}
use Rattle.arrival.proofs.Passed.{passed}
use Rattle.arrival.specs.declared.Role.TheVariants.{ReadInitiator}
use Rattle.initiator.proofs.ReadReturns.{told, taken_is, arrival_is, accepted_is}
use Rattle.initiator.proofs.read.read_frame_received.Goals as goal
use Rattle.status.specs.Result.{or_refusal}

pub take-requires : goal.take-requires
take-requires c =
    let a = c.args in
    let l = accepted_is a.r a.bytes.now (length a.buffer.now) _ (sym c.arrived.ensures ∙ ap or_refusal c.in-Ok.is) in
    let p = passed a.r.transfer ReadInitiator a.bytes.now _ l.0 in
    (rw (← p.is) p.inside, l.1, l.2)

pub returns-in-Err : goal.returns-in-Err
returns-in-Err c =
    let a = c.args in
    told _ _ _ (rw (arrival_is a.r a.bytes.now (length a.buffer.now), ← c.arrived.ensures, c.in-Err.is) refl) c.refused.ensures refl

pub returns-in-Ok : goal.returns-in-Ok
returns-in-Ok c =
    let a = c.args in
    let e = sym c.arrived.ensures ∙ ap or_refusal c.in-Ok.is in
    taken_is a.r a.bytes.now a.buffer.now _ (accepted_is a.r a.bytes.now (length a.buffer.now) _ e).0 (rw (arrival_is a.r a.bytes.now (length a.buffer.now), e) refl) c.take.ensures
