use Rattle.sender_steps.proofs.Held.{lent_holds}
use Rattle.ssp.proofs.WriteCases.{full_of, handed_is}
use Rattle.ssp.proofs.short_write_initiator.send.Goals as goal

pub send-requires : goal.send-requires
send-requires c = let f = full_of _ _ _ c.requires in (f.0.1, f.0.2, (lent_holds _ _ f.1).0)

pub returns : goal.returns
returns c = handed_is _ _ _ c.requires c.send.ensures c.max-w.ensures
