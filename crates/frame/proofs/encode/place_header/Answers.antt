use Prim.Native.Nat.{◌<◌, ◌^◌}
use mathlib.Core.Path.{◌∙◌}
use native.Mathlib.Omega.{arith}
use Rattle.frame.proofs.Little.{swapped, swapped_16}
use Rattle.frame.proofs.HeaderWords.{laid}
use Rattle.frame.proofs.encode.place_header.Goals as goal

-- Each word is the one of its four bytes of the header.

pub returns : goal.returns
returns c =
    let h = c.args.h in
    laid h c.args.fill (omega arith) (omega (arith, c.flag_byte.type_inv, c.flag_byte.ensures)) (omega (arith, c.ranges)) c.args.out.now
    (c.swap_bytes.ensures ∙ swapped h.dest)
    c.put32.ensures
    (c.swap_bytes-2.ensures ∙ swapped h.source)
    c.put32-2.ensures
    c.flag_byte.ensures
    c.put32-3.ensures
    c.put32-4.ensures
    (c.swap_bytes-3.ensures ∙ swapped_16 h.tag)
    (c.swap_bytes-4.ensures ∙ swapped_16 h.tptt)
    c.put32-5.ensures
    (c.swap_bytes-5.ensures ∙ swapped h.offset)
    c.put32-6.ensures
