-- A RESPONSE that is due: the writer takes its header and IU.
use Prim.Native.Nat.{ℕ, ◌≤◌}
use mathlib.Core.List.{List}
use mathlib.Core.Bool.{true}
use mathlib.Core.Path.{◌≡◌}
use native.Mathlib.Omega.{arith}
use lib.ListN.{length}
use borrow.Author.Tests.{le-leb, lt-ltb}
use Rattle.frame.specs.Write.{writable}
use Rattle.response.specs.Transmit.{lent_of, response_header}
use Rattle.response.specs.declared.types.Responder.{Responder}
use Rattle.response.proofs.Held.{lent_held}

pub can_write : (x : Responder) (iu : List ℕ) → lent_of x (length iu) ≡ true → writable (response_header x) (length iu) ≡ true
unfolding response_header
can_write x iu l =
    let h = lent_held x (length iu) l in
    let b = h.0.limits in
    let m : length iu ≤ 1_024 = omega (arith, h.1, h.0.marks.len_most) in
    simp (lt-ltb _ _ b.remote, lt-ltb _ _ b.local, le-leb _ _ m)
