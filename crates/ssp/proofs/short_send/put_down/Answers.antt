use mathlib.Core.Path.{refl}
use native.Mathlib.Omega.{arith}
use Rattle.ssp.proofs.FullFrame.{fitting, put_full_lem}
use Rattle.ssp.proofs.short_send.put_down.Goals as goal

pub overflow_sub-from : goal.overflow_sub-from
overflow_sub-from c = omega (arith, (fitting _ _ _ c.requires).start)

pub slice_bounds-write_full-end : goal.slice_bounds-write_full-end
slice_bounds-write_full-end c = omega (arith, (fitting _ _ _ c.requires).within)

pub returns : goal.returns
returns c =
    let s = c in
    let a = s.args in
    (refl, put_full_lem a.s a.buffer.now a.out.now s.requires c.header.ensures c.write_full.ensures.1)
