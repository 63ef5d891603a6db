-- What bounds the bytes of a frame that is read.
use Prim.Native.Nat.{ℕ, ◌≤◌}
use mathlib.Core.List.{List}
use mathlib.Core.Path.{◌≡◌, ap}
use native.Mathlib.Omega.{arith}
use lib.ListN.{length}
use borrow.Author.Tests.{leb-true}
use Rattle.status.specs.Result.{Result}
use Rattle.status.proofs.Choose.{each}
use Rattle.frame.specs.Read.{decode, form}
use Rattle.frame.specs.declared.types.Parsed.{Parsed}
use Rattle.frame.proofs.RoundTrip.{accepted}

-- the reader takes frames of at most 1,024 data bytes
pub few_bytes : (f : List ℕ) (p : Parsed) → decode f ≡ Result.value p → p.len ≤ 1_024
few_bytes f p e =
    let a = accepted f p e in
    let t = each (form f) a.form in
    omega (arith, ap (λ (v : Parsed). v.len) a.is, leb-true (length f) 1_048 t.1.0)
