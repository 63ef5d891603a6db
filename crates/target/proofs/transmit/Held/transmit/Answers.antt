use mathlib.Core.Path.{refl}
use Rattle.target.proofs.Held.{held}
use Rattle.target.proofs.Issue.{issued_order, written}
use Rattle.target.proofs.transmit.Held.transmit.Goals as goal

pub iu-requires : goal.iu-requires
iu-requires c = rw c.issue-y.ensures (issued_order _ (held _ c.args.self.holds)).0

pub returns-in-Ok : goal.returns-in-Ok
returns-in-Ok c = written c.args.self.target (held _ c.args.self.holds) c.args.out.now c.issue-y.ensures c.in-Ok.is refl c.header.ensures c.iu.ensures c.write.ensures

pub returns-in-Err : goal.returns-in-Err
returns-in-Err c = written c.args.self.target (held _ c.args.self.holds) c.args.out.now c.issue-y.ensures c.in-Err.is c.refused.ensures c.header.ensures c.iu.ensures c.write.ensures
