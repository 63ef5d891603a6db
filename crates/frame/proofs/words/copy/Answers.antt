-- After each width fewer bytes than it are left.
use Prim.Native.Nat.{◌+◌, ◌-◌, ◌*◌, ◌/◌}
use mathlib.Core.Path.{◌≡◌}
use native.Mathlib.Omega.{arith}
use Rattle.frame.proofs.Pieces.{Left, none_copied, further, stepped, whole}
use Rattle.frame.proofs.words.copy.Goals as goal

pub loop-k-init : goal.loop-k-init
loop-k-init c = none_copied _ _ _ (omega arith) (omega arith)

pub loop-k-preserved : goal.loop-k-preserved
loop-k-preserved c =
    let k = c.loop-k.k in
    let j : 64 * (k + 1) - 64 * k ≡ 64 = omega arith in
    further _ _ _ c.loop-k.invariant (omega arith) (omega arith) c.copy_block.auto.dst (rw j c.copy_block.ensures)

pub returns : goal.returns
returns c =
    let s = c.args.src.now in
    let d = c.args.dst.now in
    let n = c.min-n.result in
    let e : n / 64 * 64 ≡ 64 * c.loop-k.k = omega arith in
    let l64 : Left s d n 64 (n / 64 * 64) c.loop-k.dst = record { copied = rw e c.loop-k.invariant; less = omega arith } in
    let l32 = stepped s d n 32 l64 c.copy_if-i.ensures c.copy_if-i.auto.dst in
    let l16 = stepped s d n 16 l32 c.copy_if-i-2.ensures c.copy_if-i-2.auto.dst in
    let l8 = stepped s d n 8 l16 c.copy_if-i-3.ensures c.copy_if-i-3.auto.dst in
    let l4 = stepped s d n 4 l8 c.copy_if-i-4.ensures c.copy_if-i-4.auto.dst in
    let l2 = stepped s d n 2 l4 c.copy_if-i-5.ensures c.copy_if-i-5.auto.dst in
    let l1 = stepped s d n 1 l2 c.copy_if.ensures c.copy_if.auto.dst in
    whole s d n c.min-n.ensures l1
