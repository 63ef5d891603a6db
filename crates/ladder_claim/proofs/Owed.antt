-- What the link has of a round's frames before their answers come: the answers on the way, the frames lost, the faults still to be counted.
use Prim.Native.Nat.{ℕ, zero, suc, ◌+◌, ◌-◌, ◌≤◌}
use mathlib.Core.List.{List, [], ◌∷◌, ◌++◌}
use mathlib.Core.Path.{◌≡◌, refl, sym, ap, subst, ◌∙◌}
use native.Mathlib.Nat.{add-zero}
use native.Mathlib.Omega.{arith}
use Rattle.ladder_text.specs.declared.types.Fate.{Fate}
use Rattle.ladder_text.specs.declared.types.Fate.TheVariants.{Ok, Noack, Bad, Nonak, Lost}
use Rattle.link.specs.Tally.{Confirmation, Tally}
use Rattle.ladder_run.specs.Fates.{fate_of, fault, faults_of}
use Rattle.ladder_run.proofs.InTurn.{faults_next}

-- an answer joins where the frame arrived, whole or damaged
abbrev pub joined : Fate → List Confirmation → List Confirmation
joined Ok a = Confirmation.ack ∷ a
joined Noack a = Confirmation.ack ∷ a
joined Bad a = Confirmation.nak ∷ a
joined Nonak a = Confirmation.nak ∷ a
joined Lost a = a

abbrev pub lost_by : Fate → ℕ
lost_by Ok = 0
lost_by Noack = 0
lost_by Bad = 0
lost_by Nonak = 0
lost_by Lost = 1

-- the fault of an ACK lost is counted when it is lost
abbrev pub owed_by : Fate → ℕ
owed_by Ok = 0
owed_by Noack = 1
owed_by Bad = 0
owed_by Nonak = 0
owed_by Lost = 0

-- of k frames from frame n on
abbrev pub fates_in : List ℕ → ℕ → ℕ → List Fate
fates_in fs zero n = []
fates_in fs (suc k) n = fate_of fs n ∷ fates_in fs k (n + 1)

abbrev pub answers_in : List ℕ → ℕ → ℕ → List Confirmation
answers_in fs zero n = []
answers_in fs (suc k) n = joined (fate_of fs n) (answers_in fs k (n + 1))

abbrev pub sum_in : (Fate → ℕ) → List ℕ → ℕ → ℕ → ℕ
sum_in by fs zero n = 0
sum_in by fs (suc k) n = by (fate_of fs n) + sum_in by fs k (n + 1)

abbrev pub lost_in : List ℕ → ℕ → ℕ → ℕ
lost_in = sum_in lost_by

abbrev pub owed_in : List ℕ → ℕ → ℕ → ℕ
owed_in = sum_in owed_by

joined_append : (x : Fate) (a b : List Confirmation) → joined x a ++ b ≡ joined x (a ++ b)
joined_append Ok a b = refl
joined_append Noack a b = refl
joined_append Bad a b = refl
joined_append Nonak a b = refl
joined_append Lost a b = refl

module _ (fs : List ℕ) where
  next_fate : (k n : ℕ) → fate_of fs (n + 1 + k) ≡ fate_of fs (n + suc k)
  next_fate k n = ap (fate_of fs) (omega arith)

  -- the last frame's are the last
  fates_last : (k n : ℕ) → fates_in fs (suc k) n ≡ fates_in fs k n ++ (fate_of fs (n + k) ∷ [])
  fates_last zero n = ap (λ (i : ℕ). fate_of fs i ∷ []) (sym (add-zero n))
  fates_last (suc k) n = ap (λ (v : List Fate). fate_of fs n ∷ v) (fates_last k (n + 1) ∙ ap (λ (x : Fate). fates_in fs k (n + 1) ++ (x ∷ [])) (next_fate k n))

  answers_last : (k n : ℕ) → answers_in fs (suc k) n ≡ answers_in fs k n ++ joined (fate_of fs (n + k)) []
  answers_last zero n = ap (λ (i : ℕ). joined (fate_of fs i) []) (sym (add-zero n))
  answers_last (suc k) n =
      ap (joined (fate_of fs n)) (answers_last k (n + 1) ∙ ap (λ (x : Fate). answers_in fs k (n + 1) ++ joined x []) (next_fate k n))
      ∙ sym (joined_append (fate_of fs n) _ _)

  sum_last : (by : Fate → ℕ) (k n : ℕ) → sum_in by fs (suc k) n ≡ sum_in by fs k n + by (fate_of fs (n + k))
  sum_last by zero n = ap (λ (i : ℕ). by (fate_of fs i) + 0) (sym (add-zero n)) ∙ omega arith
  sum_last by (suc k) n = let e = sum_last by k (n + 1) in let f = ap by (next_fate k n) in omega arith

  -- a frame more of a round that began with frame m
  sum_on : (by : Fate → ℕ) (n m : ℕ) → m ≤ n → sum_in by fs (n + 1 - m) m ≡ sum_in by fs (n - m) m + by (fate_of fs n)
  sum_on by n m o =
      let e : n + 1 - m ≡ suc (n - m) = omega arith in
      let at : m + (n - m) ≡ n = omega arith in
      ap (λ (k : ℕ). sum_in by fs k m) e ∙ sum_last by (n - m) m ∙ ap (λ (k : ℕ). sum_in by fs (n - m) m + by (fate_of fs k)) at

  -- n frames went out, those before this round m: the fates of this round, the answers on the way, and what is counted
  pub record Level (n m : ℕ) (current : List Fate) (confirmations : List Confirmation) (t : Tally) : Type 0 where
    pub order : m ≤ n
    pub fates_are : current ≡ fates_in fs (n - m) m
    pub answers_are : confirmations ≡ answers_in fs (n - m) m
    pub lost : lost_in fs (n - m) m ≤ t.lost
    pub faults : t.faults + owed_in fs (n - m) m ≡ faults_of fs n

  -- a round begins
  pub level_first : (n : ℕ) (t : Tally) → t.faults ≡ faults_of fs n → Level n n [] [] t
  level_first n t f =
      let e : n - n ≡ 0 = omega arith in
      record {
        order = omega arith;
        fates_are = ap (λ (k : ℕ). fates_in fs k n) (sym e);
        answers_are = ap (λ (k : ℕ). answers_in fs k n) (sym e);
        lost = subst (λ (k : ℕ). lost_in fs k n ≤ t.lost) (sym e) (omega arith);
        faults = subst (λ (k : ℕ). t.faults + owed_in fs k n ≡ faults_of fs n) (sym e) (omega arith);
      }

  -- frame n goes out with fate x, which adds to the counts so much at once
  pub level_on : {n m : ℕ} {c : List Fate} {a : List Confirmation} {t u : Tally} → Level n m c a t → u.lost ≡ t.lost + lost_by (fate_of fs n) → u.faults + owed_by (fate_of fs n) ≡ t.faults + fault (fate_of fs n) → Level (n + 1) m (c ++ (fate_of fs n ∷ [])) (a ++ joined (fate_of fs n) []) u
  level_on {n} {m} {c} {a} {t} {u} l el ef =
      let o = l.order in
      let e : n + 1 - m ≡ suc (n - m) = omega arith in
      let at : m + (n - m) ≡ n = omega arith in
      record {
        order = omega arith;
        fates_are =
            ap (λ (v : List Fate). v ++ (fate_of fs n ∷ [])) l.fates_are
            ∙ ap (λ (k : ℕ). fates_in fs (n - m) m ++ (fate_of fs k ∷ [])) (sym at)
            ∙ sym (fates_last (n - m) m)
            ∙ ap (λ (k : ℕ). fates_in fs k m) (sym e);
        answers_are =
            ap (λ (v : List Confirmation). v ++ joined (fate_of fs n) []) l.answers_are
            ∙ ap (λ (k : ℕ). answers_in fs (n - m) m ++ joined (fate_of fs k) []) (sym at)
            ∙ sym (answers_last (n - m) m)
            ∙ ap (λ (k : ℕ). answers_in fs k m) (sym e);
        lost = omega (arith, l.lost, sum_on lost_by n m o);
        faults = omega (arith, l.faults, sum_on owed_by n m o, faults_next fs n);
      }

  -- the round is over: every fault is counted
  pub level_over : {n m : ℕ} {c : List Fate} {a : List Confirmation} {t : Tally} → Level n m c a t → m ≡ n → (c ≡ []) × (t.faults ≡ faults_of fs n)
  level_over {n} {m} {c} {a} {t} l e =
      let z : n - m ≡ 0 = omega arith in
      let o : owed_in fs (n - m) m ≡ 0 = ap (λ (k : ℕ). owed_in fs k m) z in (l.fates_are ∙ ap (λ (k : ℕ). fates_in fs k m) z, omega (arith, l.faults))
