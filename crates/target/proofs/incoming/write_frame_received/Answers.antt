use Prim.Native.Nat.{ℕ, ◌+◌, ◌≤◌}
use mathlib.Core.List.{List}
use mathlib.Core.Path.{◌≡◌, sym, ap, ◌∙◌}
use lib.ListN.{length, take, drop}
use Rattle.status.proofs.OpenedCall.{opened}
use Rattle.status.specs.Answer.{Left}
use Rattle.frame.specs.Read.{header_in, iu_of}
use Rattle.arrival.specs.declared.Role.TheVariants.{WriteTarget}
use Rattle.arrival.specs.declared.Arrived.{Arrived}
use Rattle.arrival.proofs.Passed.{Passed, passed}
use Rattle.receiver_steps.specs.DataFrame.{storing}
use Rattle.target.specs.Arrival.{taken_of, write_arrival_of}
use Rattle.target.specs.declared.types.Target.{Target}
use Rattle.target.proofs.incoming.write_frame_received.Goals as goal
use Rattle.status.specs.Result.{or_refusal}

-- the frame that was taken, as the bytes have it
inside : {f : List ℕ} {a : Arrived} → Passed WriteTarget f a → a.start + a.len ≤ length f
inside p = rw (sym p.is) p.inside

placed-is : (x : Target) (f d : List ℕ) {a : Arrived} {y : Left Target} {left : List ℕ} → Passed WriteTarget f a → (y ≡ taken_of x a (length d)) × (left ≡ storing (taken_of x a (length d)).says a.header.offset (take a.len (drop a.start f)) d) → (y ≡ taken_of x a (length d)) × (left ≡ storing (taken_of x a (length d)).says (header_in f).offset (iu_of f) d)
placed-is x f d {a} p t = (t.0, t.1 ∙ ap (λ (b : Arrived). storing (taken_of x a (length d)).says b.header.offset (take b.len (drop b.start f)) d) (sym p.is))

pub take-requires : goal.take-requires
take-requires c =
    let o = opened _ _ (sym c.in-Ok.is ∙ c.admitted.ensures) in
    (inside (passed _ WriteTarget _ _ (sym c.accept.ensures ∙ ap or_refusal c.in-Ok-accept.is)), o.0, o.1)

pub returns-in-Ok-accept : goal.returns-in-Ok-accept
unfolding write_arrival_of
returns-in-Ok-accept c =
    let p = sym c.accept.ensures ∙ ap or_refusal c.in-Ok-accept.is in
    let s = c.args in
    rw (sym c.admitted.ensures ∙ c.in-Ok.is, p) (placed-is s.x s.bytes.now s.buffer.now (passed _ WriteTarget _ _ p) c.take.ensures)
