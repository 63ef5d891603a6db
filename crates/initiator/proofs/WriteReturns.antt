-- What the code's returns show of a frame asked for in a write, and of one that arrives.
use Prim.Native.Nat.{ℕ}
use mathlib.Core.Bool.{Bool, true, false}
use mathlib.Core.List.{List, []}
use mathlib.Core.Path.{◌≡◌, refl, sym, ap, subst, ◌∙◌}
use Rattle.status.specs.Pick.{pick}
use Rattle.status.specs.Answer.{Left, ◌saying◌, refuses}
use Rattle.frame.specs.Write.{handing}
use Rattle.sender_steps.specs.Transmit.{frame_of}
use Rattle.initiator.specs.WriteCount.{Counts}
use Rattle.initiator.specs.WriteSend.{begun_of, kept_of, next_of}
use Rattle.initiator.specs.declared.types.Writer.{Writer}
use Rattle.initiator.proofs.WriteCounts.{both, next_counts, arrival_counts}
use Rattle.initiator.specs.WriteRecord.{holds_of}
use Rattle.initiator.specs.WriteTake.{arrived_by, arrived_frame, write_arrival_of}
use Rattle.arrival.specs.Accept.{accept_of}
use Rattle.arrival.specs.declared.Role.TheVariants.{WriteInitiator}
use Rattle.arrival.specs.declared.Arrived.{Arrived}
use Rattle.arrival.proofs.LetIn.{let_in_is, let_in_by}
use Rattle.status.specs.Result.{Result}
use Rattle.status.proofs.OpenedCall.{opened}

-- a result x that is the definition's, both being y, and that left the output buffer so
pub told : (w : Writer) (d out : List ℕ) {x y : Left Writer} {left : List ℕ} → next_of w d out ≡ y → x ≡ y → left ≡ handing y.says (frame_of (begun_of w).sender d) out → (x ≡ next_of w d out) × (left ≡ handing (next_of w d out).says (frame_of (begun_of w).sender d) out) × Counts w (frame_of (begun_of w).sender d) x
told w d out {x} e p q =
    let k : x ≡ next_of w d out = p ∙ sym e in
    (k, q ∙ ap (λ (z : Left Writer). handing z.says (frame_of (begun_of w).sender d) out) (sym e), subst (Counts w (frame_of (begun_of w).sender d)) (sym k) (next_counts w d out))

-- what is kept says the same
pub kept_says : (w : Writer) (y : Left Writer) → (kept_of w y).says ≡ y.says
unfolding pick
kept_says w y = go (refuses y.says)
  where
    go : (t : Bool) → (pick t (w saying y.says) y).says ≡ y.says
    go true = refl
    go false = refl

-- an arrival, tested in one with 1 and 2
pub arrival_is : (w : Writer) (f : List ℕ) → write_arrival_of w f ≡ arrived_by (arrived_frame w f) w f
unfolding write_arrival_of arrived_frame
arrival_is w f = let_in_by _ _ w (λ (x : Result Arrived). arrived_by x w f) (λ n. refl)

-- a result x of a frame that was looked for so
pub arrived_is : (w : Writer) (f : List ℕ) {x : Left Writer} {a : Result Arrived} → a ≡ arrived_frame w f → x ≡ arrived_by a w f → (x ≡ write_arrival_of w f) × Counts w [] x
arrived_is w f e p = both w [] (p ∙ ap (λ (a : Result Arrived). arrived_by a w f) e ∙ sym (arrival_is w f)) (arrival_counts w f)

-- an accepted frame: 1 and 2 do not apply
pub accepted_is : (w : Writer) (f : List ℕ) (a : Arrived) → arrived_frame w f ≡ Result.value a → (holds_of w ≡ true) × (accept_of WriteInitiator w.sender.transfer f ≡ Result.value a)
unfolding arrived_frame
accepted_is w f a e = let l = let_in_is _ _ a e in ((opened _ _ l.0).0, l.1)
