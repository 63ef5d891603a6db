-- A record whose calls keep what it carries hands out frames with that TPTT alone; a call that hands out none; a frame asked for.
use Prim.Native.Nat.{ℕ, ◌^◌, ◌<◌}
use mathlib.Core.List.{List, [], ◌∷◌, ◌++◌}
use mathlib.Core.Bool.{Bool}
use mathlib.Core.Option.{Option, none}
use mathlib.Core.Path.{◌≡◌, refl, sym, subst}
use native.Mathlib.Omega.{arith}
use lib.ListN.{length, take}
use Rattle.status.specs.Pick.{pick, if_any}
use Rattle.status.specs.Answer.{Word, Said, view, Left, ◌saying◌, unless}
use Rattle.status.specs.Entry.{Entry}
use Rattle.status.proofs.Leaves.{picked, unless_gives}
use Rattle.frame.specs.Format.{header_bytes, encode}
use Rattle.frame.specs.Read.{header_in}
use Rattle.frame.specs.Write.{handing, hands}
use Rattle.frame.specs.HandedOut.{frame_in, Calls, frames_of, Carry, Carries}
use Rattle.frame.specs.declared.types.Header.{Header}
use Rattle.frame.proofs.Hands.{over_front}

-- the TPTT that is written comes back
pub tptt_back : (h : Header) (iu : List ℕ) → h.tptt < 2 ^ 16 → (header_in (encode h iu)).tptt ≡ h.tptt
unfolding header_in encode header_bytes
tptt_back h iu l = omega arith

-- ── a call that hands out no frame, and leaves the part `of` of its record as it was ──
pub record Quiet {X T : Type 0} (of : X → T) (x : X) (z : Left X) : Type 0 where
  pub kept : of z.left ≡ of x
  pub silent : (view z.says).frame ≡ none

pub quiet_unless : {X T : Type 0} (of : X → T) (x : X) (e : Entry) (z : Left X) → Quiet of x z → Quiet of x (unless e x z)
quiet_unless of x e z = unless_gives (Quiet of x) e x z (λ n. record { kept = refl; silent = refl })

pub quiet_carries : {X T : Type 0} (of : X → T) (x : X) (z : Left X) (n : ℕ) → Quiet of x z → Carry n (frame_in z.says [])
quiet_carries of x z n q = subst (λ (o : Option ℕ). Carry n (if_any o (λ m. take m [] ∷ []) [])) (sym q.silent) tt

-- ── a frame f asked for: refused, "wait", or handed out, which leaves y ──
module _ {X : Type 0} (x y : X) (e : Entry) (waits : Bool) (f out : List ℕ) where
  abbrev asked : Left X
  asked = unless e x (pick waits (x saying Said.word Word.wait) (hands x y f out))

  pub asked_keeps : {T : Type 0} (of : X → T) → of y ≡ of x → of asked.left ≡ of x
  unfolding hands
  asked_keeps of s = unless_gives (λ (z : Left X). of z.left ≡ of x) e x _ (λ n. refl) (picked (λ (z : Left X). of z.left ≡ of x) _ _ _ refl (picked (λ (z : Left X). of z.left ≡ of x) _ _ _ s refl))

  pub asked_carries : (n : ℕ) → (header_in f).tptt ≡ n → Carry n (frame_in asked.says (handing asked.says f out))
  unfolding hands
  asked_carries n p =
      unless_gives (λ (z : Left X). Carry n (frame_in z.says (handing z.says f out))) e x _ (λ k. tt)
      (picked (λ (z : Left X). Carry n (frame_in z.says (handing z.says f out))) _ _ _ tt
      (picked (λ (z : Left X). Carry n (frame_in z.says (handing z.says f out))) _ (y saying Said.frame (length f)) (x saying Said.refused 3) (subst (λ (g : List ℕ). (header_in g).tptt ≡ n) (sym (over_front f out)) p, tt) tt))

-- ── a list of calls ──
both : (n : ℕ) (fs gs : List (List ℕ)) → Carry n fs → Carry n gs → Carry n (fs ++ gs)
both n [] gs p q = q
both n (f ∷ fs) gs p q = (p.0, both n fs gs p.1 q)

module _ {X : Type 0} (K : Calls X) (n : ℕ) (Good : X → Type 0) (keeps : (c : K.Call) (x : X) → Good x → Good (K.call c x).left)
    (hands_so : (c : K.Call) (x : X) → Good x → Carry n (frame_in (K.call c x).says (K.lent c x))) where
  pub carries : (x : X) → Good x → Carries K x n
  carries x g [] = tt
  carries x g (c ∷ cs) = both n (frame_in (K.call c x).says (K.lent c x)) (frames_of K (K.call c x).left cs) (hands_so c x g) (carries (K.call c x).left (keeps c x g) cs)
