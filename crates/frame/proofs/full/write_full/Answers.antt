-- The test says whether the frame is full; then header and IU go down one behind the other.
use Prim.Native.Nat.{◌-◌}
use mathlib.Core.Bool.{not}
use mathlib.Core.Path.{sym, ap, ◌∙◌}
use native.Mathlib.Omega.{arith}
use borrow.Rule.Slice.PartMut.{put_mid}
use lib.ListN.{length}
use Rattle.frame.proofs.Place.{copied_over}
use Rattle.frame.proofs.FullFrame.{full_gives, is_full_lem, both_put}
use Rattle.frame.proofs.full.write_full.Goals as goal

pub returns : goal.returns
returns c =
    let a = c.args in
    let e = is_full_lem a.h (length a.iu.now) (length a.out.now) c.can_write.ensures (ap not c.if-not-can_write-n.false) in
    let f = (full_gives _ _ _ e).fits in
    let x = c.place_header.new.out in
    let y = ap (put_mid 24 (length x - 24) x) c.copy.ensures ∙ copied_over x a.iu.now 24 (length x) (omega (arith, c.place_header.auto.out)) (omega arith) in
    (sym e, both_put a.h a.iu.now a.out.now e c.place_header.ensures y)
