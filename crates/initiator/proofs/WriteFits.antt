-- An XFER_RDY that is taken fits: it asks for a byte at least, within the byte count.
use Prim.Native.Nat.{◌+◌, ◌^◌, ◌≤◌, ◌<◌}
use mathlib.Core.Bool.{Bool, true, false, ◌&&◌, ◌||◌}
use mathlib.Core.Path.{◌≡◌, refl}
use native.Mathlib.Omega.{arith}
use lib.Dec.{eqb, ltb}
use borrow.Author.Tests.{eqb-false, ltb-false}
use Rattle.status.specs.Pick.{pick}
use Rattle.status.specs.declared.words.Failure.TheVariants.{XferRdyIncorrectWriteDataLength, XferRdyNotExpected, XferRdyRequestedOffsetError}
use Rattle.status.proofs.OpenedCall.{differ}
use Rattle.transfer.specs.Limits.{limits_hold}
use Rattle.transfer.proofs.Bounds.{bounds}
use Rattle.frame.specs.declared.types.XferRdy.{XferRdy}
use Rattle.initiator.specs.WriteTake.{previous, all_handed, fits_of, repeat_of, disposition_of}
use Rattle.initiator.specs.declared.types.XferRdyDisposition.{XferRdyDisposition}
use Rattle.initiator.specs.declared.types.XferRdyDisposition.TheVariants.{Next, Repeat}
use Rattle.initiator.specs.declared.types.Writer.{Writer}
use Rattle.std.specs.Prelude.{Ok, Err}
use Rattle.initiator.specs.WriteTake.{Disposition}

pub record Fits (w : Writer) (x : XferRdy) : Type 0 where
  pub some : 0 < x.len
  pub most : x.offset + x.len ≤ w.sender.transfer.count

abbrev pub Taken : Disposition → Type 0
Taken v = (d : XferRdyDisposition) × (v ≡ Ok d)

fits : (w : Writer) (x : XferRdy) (v : Disposition) → Taken (fits_of w x v) → Fits w x
unfolding fits_of pick
fits w x v e = go (eqb x.len 0) (ltb w.sender.transfer.count (x.offset + x.len)) refl refl e
  where
    go : (t u : Bool) → eqb x.len 0 ≡ t → ltb w.sender.transfer.count (x.offset + x.len) ≡ u → Taken (pick (t || u) (Err XferRdyIncorrectWriteDataLength) v) → Fits w x
    go false false p q e = omega (arith, eqb-false x.len 0 p, ltb-false w.sender.transfer.count (x.offset + x.len) q)
    go false true p q (d, e) = differ (cc)
    go true u p q (d, e) = differ (cc)

repeat_fits : (w : Writer) (x : XferRdy) → Taken (repeat_of w x) → Fits w x
unfolding repeat_of pick
repeat_fits w x e = go (eqb ((previous w).base + x.len) (previous w).end) e
  where
    go : (t : Bool) → Taken (pick t (fits_of w x (Ok Repeat)) (Err XferRdyIncorrectWriteDataLength)) → Fits w x
    go true e = fits w x (Ok Repeat) e
    go false (d, e) = differ (cc)

pub taken_fits : (w : Writer) (x : XferRdy) (retransmit : Bool) → Taken (disposition_of w x retransmit) → Fits w x
unfolding disposition_of pick
taken_fits w x retransmit e = go (retransmit && eqb x.offset (previous w).base && ltb (previous w).base (previous w).end) (eqb x.offset (previous w).end) (all_handed w) e
  where
    go : (t u v : Bool) → Taken (pick t (repeat_of w x) (pick u (pick v (fits_of w x (Ok Next)) (Err XferRdyNotExpected)) (Err XferRdyRequestedOffsetError))) → Fits w x
    go true u v e = repeat_fits w x e
    go false true true e = fits w x (Ok Next) e
    go false true false (d, e) = differ (cc)
    go false false v (d, e) = differ (cc)

-- and its end is a number of 32 bits
pub end_fits : (w : Writer) (x : XferRdy) (retransmit : Bool) → limits_hold w.sender.transfer ≡ true → Taken (disposition_of w x retransmit) → x.offset + x.len < 2 ^ 32
end_fits w x retransmit l e =
    let f = taken_fits w x retransmit e in
    let b = bounds w.sender.transfer l in
    omega arith
