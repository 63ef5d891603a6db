-- Which number the lowest tag not in use is.
use Prim.Native.Nat.{ℕ, zero, suc, ◌+◌, ◌≤◌, ◌<◌}
use mathlib.Core.Bool.{Bool, true, false, ◌&&◌, ◌||◌}
use mathlib.Core.List.{List, [], ◌∷◌}
use mathlib.Core.Logic.{◌⊎◌, inl, inr, ⊎_elim}
use mathlib.Core.Path.{◌≡◌, refl, sym, ap, ◌∙◌}
use native.Mathlib.Decide.{ℕ_discrete}
use native.Mathlib.Omega.{arith}
use lib.Dec.{leb, eqb}
use lib.ListN.{length}
use borrow.Author.Tests.{leb-true, leb-false, eq-eqb, ne_eqb}
use Rattle.status.specs.Pick.{pick}
use Rattle.status.proofs.OpenedCall.{differ}
use Rattle.target.specs.Tag.{member, search as from, lowest, used}

-- a number that is not in the list, all below it being in it, is where the search ends
search_ends : (l : List ℕ) (k m n : ℕ) → m ≤ n → n ≤ m + k → member n l ≡ false → ((i : ℕ) → m ≤ i → i < n → member i l ≡ true) → from l k m ≡ n
unfolding from pick
search_ends l zero m n a b out low = omega arith
search_ends l (suc k) m n a b out low = go (ℕ_discrete m n) (λ p. search_ends l k (suc m) n p (omega arith) out (λ i q r. low i (omega arith) r))
  where
    go : Dec (m ≡ n) → (suc m ≤ n → from l k (suc m) ≡ n) → pick (member m l) (from l k (suc m)) m ≡ n
    go (yes e) f = rw (ap (λ (i : ℕ). member i l) e ∙ out) e
    go (no e) f = rw (low m (omega arith) (omega arith)) (f (omega arith))

pub lowest_is : (l : List ℕ) (n : ℕ) → n ≤ length l → member n l ≡ false → ((i : ℕ) → i < n → member i l ≡ true) → lowest l ≡ n
unfolding lowest
lowest_is l n a out low = search_ends l (length l) 0 n (omega arith) (omega arith) out (λ i p q. low i q)

module _ (m x : ℕ) (l : List ℕ) where
  here : m ≡ x → member m (x ∷ l) ≡ true
  unfolding member
  here e = rw (eq-eqb m x e)

  later : member m l ≡ true → member m (x ∷ l) ≡ true
  unfolding member
  later e = go (eqb m x)
    where
      go : (t : Bool) → (t || member m l) ≡ true
      go true = refl
      go false = e

  nowhere : (m ≡ x → ⊥) → member m l ≡ false → member m (x ∷ l) ≡ false
  unfolding member
  nowhere n e = rw (ne_eqb m x n) e

-- the number t that is not in use after n tags, with or without a store under u
data Top (u n : ℕ) : Bool → ℕ → Type 0 where
  none : Top u n false n
  above : n < u → Top u n true n
  below : u ≤ n → Top u n true (suc n)

top : (s : Bool) (u n : ℕ) → Top u n s (pick (s && leb u n) (suc n) n)
unfolding pick
top false u n = none
top true u n = go (leb u n) refl
  where
    go : (t : Bool) → leb u n ≡ t → Top u n true (pick t (suc n) n)
    go true e = below (leb-true _ _ e)
    go false e = above (leb-false _ _ e)

-- all below it are in use, and beyond it only the tag of the store
record Members (s : Bool) (u n t : ℕ) : Type 0 where
  low : (m : ℕ) → m < t → member m (used s u n) ≡ true
  kept : s ≡ true → member u (used s u n) ≡ true
  high : (m : ℕ) → t ≤ m → (s ≡ true → m ≡ u → ⊥) → member m (used s u n) ≡ false

used_length : (u n : ℕ) → (length (used false u n) ≡ n) × (length (used true u n) ≡ suc n)
unfolding used
used_length u zero = (refl, refl)
used_length u (suc n) = let l = used_length u n in (ap suc l.0, ap suc l.1)

-- it is not the tag of the store
free : {s : Bool} {u n t : ℕ} → Top u n s t → s ≡ true → t ≡ u → ⊥
free none e f = differ (cc)
free (above p) e f = omega arith
free (below p) e f = omega arith

next_is : {s : Bool} {u n t : ℕ} → Top u n s t → Members s u n t → lowest (used s u n) ≡ t
next_is {s} {u} {n} {t} k m = lowest_is (used s u n) t (fits k) (m.high t (omega arith) (free k)) m.low
  where
    fits : {s : Bool} {t : ℕ} → Top u n s t → t ≤ length (used s u n)
    fits none = omega (arith, used_length u n)
    fits (above p) = omega (arith, used_length u n)
    fits (below p) = omega (arith, used_length u n)

-- one tag more
module _ (s : Bool) (u n t v : ℕ) (k : Top u n s t) (a : Members s u n t) (g : t < v) (i : (m : ℕ) → m < v → (m < t) ⊎ ((m ≡ t) ⊎ ((s ≡ true) × (m ≡ u)))) where
  more : Members s u (suc n) v
  unfolding used
  more =
      record {
        low = λ m p. ⊎_elim (λ q. later m _ _ (a.low m q)) (⊎_elim (λ q. here m _ _ (q ∙ sym (next_is k a))) (λ q. later m _ _ (ap (λ (j : ℕ). member j (used s u n)) q.1 ∙ a.kept q.0))) (i m p);
        kept = λ e. later u _ _ (a.kept e);
        high = λ m p f. nowhere m _ _ (λ q. omega (arith, next_is k a)) (a.high m (omega arith) f);
      }

lower : (s : Bool) (u m t : ℕ) → m < suc t → (m < t) ⊎ ((m ≡ t) ⊎ ((s ≡ true) × (m ≡ u)))
lower s u m t p = go (ℕ_discrete m t)
  where
    go : Dec (m ≡ t) → (m < t) ⊎ ((m ≡ t) ⊎ ((s ≡ true) × (m ≡ u)))
    go (yes e) = inr (inl e)
    go (no e) = inl (omega arith)

-- the tag of the store is the one after t
past : (u m t : ℕ) → u ≡ suc t → m < suc (suc t) → (m < t) ⊎ ((m ≡ t) ⊎ ((true ≡ true) × (m ≡ u)))
past u m t e p = ⊎_elim (λ q. lower true u m t q) (⊎_elim (λ q. inr (inr (refl, omega arith))) (λ q. inr (inr q))) (lower true u m (suc t) p)

members : (s : Bool) (u n t : ℕ) → Top u n s t → Members s u n t
unfolding used member
members s u zero t none = record { low = λ m p. absurd (omega arith); kept = λ e. differ (cc); high = λ m p f. refl }
members s u zero t (above p) = record { low = λ m p. absurd (omega arith); kept = λ e. here u u [] refl; high = λ m q f. nowhere m u [] (f refl) refl }
members s u zero t (below p) = record { low = λ m q. here m u [] (omega arith); kept = λ e. here u u [] refl; high = λ m q f. nowhere m u [] (f refl) refl }
members s u (suc n) t none = more false u n n (suc n) none (members false u n n none) (omega arith) (λ m p. lower false u m n p)
members s u (suc n) t (above p) = let k : Top u n true n = above (omega arith) in more true u n n (suc n) k (members true u n n k) (omega arith) (λ m p. lower true u m n p)
members s u (suc n) t (below p) = go (leb u n) refl (members true u n)
  where
    go : (b : Bool) → leb u n ≡ b → ((t : ℕ) → Top u n true t → Members true u n t) → Members true u (suc n) (suc (suc n))
    go true e f = let k : Top u n true (suc n) = below (leb-true _ _ e) in more true u n (suc n) (suc (suc n)) k (f (suc n) k) (omega arith) (λ m q. lower true u m (suc n) q)
    go false e f = let k : Top u n true n = above (leb-false _ _ e) in more true u n n (suc (suc n)) k (f n k) (omega arith) (λ m q. past u m n (omega (arith, leb-false)) q)

pub new_tag : (stored : Bool) (under since : ℕ) → lowest (used stored under since) ≡ pick (stored && leb under since) (since + 1) since
new_tag s u n = let k = top s u n in next_is k (members s u n _ k) ∙ ap (λ (m : ℕ). pick (s && leb u n) m n) (omega arith)

-- it is not in use, and all below it are
pub tag_lowest : (stored : Bool) (under since : ℕ) → let l = used stored under since in (member (lowest l) l ≡ false) × ((m : ℕ) → m < lowest l → member m l ≡ true)
tag_lowest s u n =
    let k = top s u n in
    let a = members s u n _ k in
    rw (next_is k a) (a.high _ (omega arith) (free k), a.low)
