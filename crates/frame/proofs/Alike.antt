-- Frames of one length that agree in every byte but 10, 18 and 19: the reader gives the same of both, flags and TPTT apart. Those that differ at most in TLR CONTROL or in
-- TPTT are such frames.
use Prim.Native.Nat.{ℕ, zero, suc, ◌+◌, ◌-◌, ◌%◌, ◌<◌}
use mathlib.Core.List.{List, [], ◌∷◌, ◌++◌}
use mathlib.Core.Path.{◌≡◌, refl, sym, ap, ◌∙◌}
use mathlib.Core.Logic.{◌≢◌}
use native.Mathlib.Omega.{arith}
use lib.Dec.{leb, eqb}
use lib.ListN.{length, get_or, take, drop, length-drop}
use lib.Seq.{ext_get_or, get_or-drop}
use Rattle.status.specs.Pick.{all}
use Rattle.frame.specs.Format.{field}
use Rattle.frame.specs.Read.{fill_count, well_formed, iu_length, iu_of}
use Rattle.frame.specs.TlrControl.{SameButTlr}
use Rattle.frame.specs.TransferTag.{SameButTptt}

pub record Alike (f g : List ℕ) : Type 0 where
  pub size : length f ≡ length g
  pub others : (i : ℕ) → i ≢ 10 → i ≢ 18 → i ≢ 19 → get_or f i 0 ≡ get_or g i 0

pub tlr_alike : (f g : List ℕ) → SameButTlr f g → Alike f g
tlr_alike f g s = record { size = s.size; others = λ i a b c. s.others i a }

pub tptt_alike : (f g : List ℕ) → SameButTptt f g → Alike f g
tptt_alike f g s = record { size = s.size; others = λ i a b c. s.others i b c }

-- a field in which all bytes are the same
pub field_same : (f g : List ℕ) (i n : ℕ) → ((k : ℕ) → k < n → get_or f (i + k) 0 ≡ get_or g (i + k) 0) → field f i n ≡ field g i n
field_same f g i zero e = refl
field_same f g i (suc n) e = rw (field_same f g i n (λ k l. e k (omega arith)), e n (omega arith)) refl

module _ (f g : List ℕ) (s : Alike f g) where
  at : (i n : ℕ) → i < 10 → i + n < 11 → field f i n ≡ field g i n
  at i n a b = field_same f g i n (λ k l. s.others (i + k) (λ e. omega arith) (λ e. omega arith) (λ e. omega arith))

  pub type_same : get_or f 0 0 ≡ get_or g 0 0
  type_same = s.others 0 (λ e. omega arith) (λ e. omega arith) (λ e. omega arith)

  pub dest_same : field f 1 3 ≡ field g 1 3
  dest_same = at 1 3 (omega arith) (omega arith)

  pub source_same : field f 5 3 ≡ field g 5 3
  source_same = at 5 3 (omega arith) (omega arith)

  pub tag_same : field f 16 2 ≡ field g 16 2
  tag_same = field_same f g 16 2 (λ k l. s.others (16 + k) (λ e. omega arith) (λ e. omega arith) (λ e. omega arith))

  pub offset_same : field f 20 4 ≡ field g 20 4
  offset_same = field_same f g 20 4 (λ k l. s.others (20 + k) (λ e. omega arith) (λ e. omega arith) (λ e. omega arith))

  fill_same : fill_count f ≡ fill_count g
  fill_same = ap (λ (x : ℕ). x % 4) (s.others 11 (λ e. omega arith) (λ e. omega arith) (λ e. omega arith))

  pub length_same : iu_length f ≡ iu_length g
  length_same = λ i. s.size i - 24 - fill_same i

  pub rest_same : drop 24 f ≡ drop 24 g
  rest_same = ext_get_or 0 _ _ (simp (length-drop, s.size)) (λ i l. get_or-drop 24 f i 0 ∙ s.others (24 + i) (λ e. omega arith) (λ e. omega arith) (λ e. omega arith) ∙ sym (get_or-drop 24 g i 0))

  pub iu_same : iu_of f ≡ iu_of g
  iu_same = λ i. take (length_same i) (rest_same i)

  pub form_same : well_formed f ≡ well_formed g
  form_same = λ i. all (leb 24 (s.size i) ∷ leb (s.size i) 1_048 ∷ eqb (s.size i % 4) 0 ∷ leb (fill_same i) (s.size i - 24) ∷ [])

-- two lists that differ at most in the element behind p
pub apart : (p q : List ℕ) (x y i : ℕ) → i ≢ length p → get_or (p ++ x ∷ q) i 0 ≡ get_or (p ++ y ∷ q) i 0
apart [] q x y zero e = absurd (e refl)
apart [] q x y (suc i) e = refl
apart (z ∷ p) q x y zero e = refl
apart (z ∷ p) q x y (suc i) e = apart p q x y i (λ f. e (ap suc f))
