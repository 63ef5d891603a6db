-- Each arm knows the disposition, with which the definition computes.
use native.Mathlib.Omega.{arith}
use mathlib.Core.Path.{sym, ap, ◌∙◌}
use Rattle.std.specs.Prelude.{Ok}
use lib.ListN.{length}
use Rattle.receiver_steps.proofs.Judged.{within}
use Rattle.receiver_steps.proofs.Buffer.{put_down}
use Rattle.receiver_steps.proofs.data_frame.take.Goals as goal

pub store-requires : goal.store-requires
store-requires c =
    let a = c.args in
    omega (arith, within a.r a.offset a.cdp (length a.iu.now) (sym c.judge.ensures ∙ c.in-Ok-Store.is ∙ ap Ok c.in-Ok-Store.field-0-is))

pub overflow_cast-iu : goal.overflow_cast-iu
overflow_cast-iu c =
    let a = c.args in
    omega (arith, within a.r a.offset a.cdp (length a.iu.now) (sym c.judge.ensures ∙ c.in-Ok-Store.is ∙ ap Ok c.in-Ok-Store.field-0-is))

pub stored-requires : goal.stored-requires
stored-requires c =
    let a = c.args in
    omega (arith, within a.r a.offset a.cdp (length a.iu.now) (sym c.judge.ensures ∙ c.in-Ok-Store.is ∙ ap Ok c.in-Ok-Store.field-0-is))

pub returns-in-Ok-Store : goal.returns-in-Ok-Store
returns-in-Ok-Store c = rw (sym c.judge.ensures ∙ c.in-Ok-Store.is ∙ ap Ok c.in-Ok-Store.field-0-is) (c.stored.ensures, rw put_down c.store.ensures)
