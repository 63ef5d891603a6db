use borrow.Author.Tests.{eqb-true}
use Rattle.ssp.proofs.TargetCases.{tag_is}
use Rattle.ssp.proofs.short_write_target.is_due.Goals as goal

pub returns-then-is_next : goal.returns-then-is_next
returns-then-is_next c = λ e. let n = c.is_next.ensures c.if-is_next.true in (n.0, n.1, tag_is n.1.0 c.transfer_tag.ensures (eqb-true _ _ e))
