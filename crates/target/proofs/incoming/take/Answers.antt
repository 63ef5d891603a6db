use native.Mathlib.Omega.{arith}
use borrow.Author.Tests.{eq-eqb}
use mathlib.Core.Path.{sym, ap, ◌∙◌}
use lib.ListN.{length}
use Rattle.status.specs.Pick.{pick}
use Rattle.arrival.proofs.Passed.{part, part_length}
use Rattle.receiver.proofs.Views.{step_is}
use Rattle.target.specs.Record.{READY}
use Rattle.target.specs.Arrival.{lifted_of, taken_of}
use Rattle.target.proofs.Held.{core_lent}
use Rattle.target.proofs.incoming.take.Goals as goal

pub returns : goal.returns
unfolding taken_of pick
returns c =
    let s = c.args in
    let f = s.bytes.now in
    let i = sym c.is_current.ensures ∙ c.if-not-is_current.false in
    let e = eq-eqb s.x.state READY (omega (arith, c.if-x-ne-READY.false)) in
    let d = rw (part_length s.a.start s.a.len f c.requires.0, part s.a.start s.a.len f) at c.data_step.ensures in
    let m = length s.buffer.now in
    let w = step_is s.x.receiver s.a.header.offset s.a.header.flags.cdp s.a.len m (core_lent s.x m c.requires.1) c.requires.2 in
    rw (i, e, w) (c.lift.ensures ∙ ap (lifted_of s.x) d.0, d.1)
