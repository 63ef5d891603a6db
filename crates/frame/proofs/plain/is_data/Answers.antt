use mathlib.Core.Bool.{false≢true}
use mathlib.Core.Path.{sym, ◌∙◌}
use native.Mathlib.Omega.{arith}
use Rattle.frame.specs.RoundTrip.{Bytes}
use Rattle.frame.proofs.Little.{swapped, swapped_16}
use Rattle.frame.proofs.HeaderWords.{type_fits}
use Rattle.frame.proofs.PlainFrame.{plain_gives, reads, told, bounded, unbounded}
use Rattle.frame.proofs.plain.is_data.Goals as goal

-- The early test bounds the addresses; then the words tell the first 24 bytes.

pub returns-then-n-dest : goal.returns-then-n-dest
returns-then-n-dest c =
    let a = c.args in
    (unbounded a.b.now a.dest a.source a.tag a.offset c.if-n-dest.true, λ t. absurd (false≢true t))

pub overflow_add-addresses : goal.overflow_add-addresses
overflow_add-addresses c =
    let a = c.args in
    let p = bounded a.b.now a.dest a.source c.if-n-dest.false in
    omega (arith, c.swap_bytes.ensures, swapped a.dest, type_fits 1 a.dest (omega arith) p.1)

pub overflow_add-addresses-2 : goal.overflow_add-addresses-2
overflow_add-addresses-2 c =
    let a = c.args in
    let p = bounded a.b.now a.dest a.source c.if-n-dest.false in
    omega (arith, c.swap_bytes.ensures, c.swap_bytes-2.ensures, swapped a.dest, swapped a.source, type_fits 1 a.dest (omega arith) p.1, type_fits 0 a.source (omega arith) p.2)

pub returns : goal.returns
returns c =
    let a = c.args in
    let b = a.b.now in
    let small : Bytes b = λ i. (c.type_inv.b i).fits in
    let p = bounded b a.dest a.source c.if-n-dest.false in
    let e = told b a.dest a.source a.tag a.offset small p.0 p.1 p.2 c.get64.ensures c.get64-2.ensures c.get64-last.ensures (c.swap_bytes.ensures ∙ swapped a.dest) (c.swap_bytes-2.ensures ∙ swapped a.source) (c.swap_bytes-3.ensures ∙ swapped_16 a.tag) (c.swap_bytes-4.ensures ∙ swapped a.offset) in
    (e, λ t. reads b a.dest a.source a.tag a.offset small (omega (arith, c.ranges)) (omega (arith, c.ranges)) (plain_gives b a.dest a.source a.tag a.offset (sym e ∙ t)))
