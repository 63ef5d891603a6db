-- The writer's definition: how long a frame is, how IU and fill are put down, and what each answer shows.
use Prim.Native.Nat.{ℕ, zero, suc, ◌+◌, ◌≤◌, ◌<◌}
use mathlib.Core.List.{List, [], ◌∷◌, ◌++◌}
use mathlib.Core.Bool.{Bool, true, false}
use mathlib.Core.Path.{◌≡◌, refl, sym, ap, ◌∙◌}
use native.Mathlib.Omega.{arith}
use lib.ListN.{length, take, replicate, length-append, length-replicate}
use lib.Dec.{leb}
use borrow.Author.Tests.{le-leb, leb-true}
use Rattle.status.specs.Pick.{pick}
use Rattle.status.specs.Result.{Result}
use Rattle.status.proofs.Choose.{in_true}
use Rattle.status.proofs.OpenedCall.{differ}
use Rattle.frame.specs.Format.{fill_of, header_bytes, data_bytes, encode}
use Rattle.frame.specs.Write.{writable, write_answer, placed}
use Rattle.frame.specs.declared.types.Header.{Header}
use Rattle.frame.proofs.Place.{placed_behind}

pub header_length : (h : Header) (fill : ℕ) → length (header_bytes h fill) ≡ 24
unfolding header_bytes
header_length h fill = refl

pub data_length : (iu : List ℕ) → length (data_bytes iu) ≡ length iu + fill_of (length iu)
unfolding data_bytes
data_length iu = simp (length-append, length-replicate)

pub encode_parts : (h : Header) (iu : List ℕ) → length (encode h iu) ≡ 24 + length (data_bytes iu)
unfolding encode
encode_parts h iu = simp (length-append, header_length)

pub encode_length : (h : Header) (iu : List ℕ) → length (encode h iu) ≡ 24 + length iu + fill_of (length iu)
encode_length h iu = omega (arith, encode_parts h iu, data_length iu)

-- at most three zeros
pub zeros : (k : ℕ) → k < 4 → take {A = ℕ} k (0 ∷ 0 ∷ 0 ∷ []) ≡ replicate k 0
zeros zero b = refl
zeros (suc zero) b = refl
zeros (suc (suc zero)) b = refl
zeros (suc (suc (suc zero))) b = refl
zeros (suc (suc (suc (suc k)))) b = absurd (omega arith)

-- IU and fill put down one after the other
pub laid : (iu d y w : List ℕ) (f : ℕ) → 24 ≤ length d → f ≡ fill_of (length iu) → y ≡ placed d 24 iu → w ≡ placed y (24 + length iu) (take {A = ℕ} f (0 ∷ 0 ∷ 0 ∷ [])) → w ≡ placed d 24 (data_bytes iu)
unfolding data_bytes
laid iu d y w f within ef ey ew =
    let z = take {A = ℕ} f (0 ∷ 0 ∷ 0 ∷ []) in
    let ez : z ≡ replicate (fill_of (length iu)) 0 = zeros f (omega arith) ∙ ap (λ (k : ℕ). replicate k 0) ef in
    ew ∙ ap (λ (v : List ℕ). placed v (24 + length iu) z) ey ∙ placed_behind d iu 24 within z ∙ ap (λ (v : List ℕ). placed d 24 (iu ++ v)) ez

-- each answer, by the lengths of IU and output buffer
module _ (h : Header) (n room : ℕ) where
  abbrev pub Answers : Result ℕ → Type 0
  Answers a = (iu out : List ℕ) → length iu ≡ n → length out ≡ room → a ≡ write_answer h iu out

  pub takes : (f : ℕ) → f ≡ fill_of n → writable h n ≡ true → 24 + n + f ≤ room → Answers (Result.value (24 + n + f))
  takes f ef w long iu out ei eo =
      let k : 24 + n + f ≡ length (encode h iu) = omega (arith, encode_length h iu) in
      let s : length (encode h iu) ≤ length out = omega arith in
      in_true _ _ _ _ (ap (writable h) ei ∙ w) (in_true _ _ _ _ (le-leb _ _ s) (ap (λ (m : ℕ). Result.value m) k))

-- what holds of a frame that fits and of every refusal holds of the answer
pub by_answer : (h : Header) (iu d : List ℕ) (G : Result ℕ → Type 0) → (length (encode h iu) ≤ length d → G (Result.value (length (encode h iu)))) → ((n : ℕ) → G (Result.number n)) → G (write_answer h iu d)
unfolding pick
by_answer h iu d G fits refused = go (writable h (length iu)) (leb (length (encode h iu)) (length d)) (leb-true _ _)
  where
    go : (w l : Bool) → (l ≡ true → length (encode h iu) ≤ length d) → G (pick w (pick l (Result.value (length (encode h iu))) (Result.number 3)) (Result.number 1))
    go true true f = fits (f refl)
    go true false f = refused 3
    go false l f = refused 1

-- a frame that is not refused fits
pub fits : (h : Header) (n room k : ℕ) → Answers h n room (Result.value k) → 24 + n + fill_of n ≤ room
fits h n room k answers =
    let iu = replicate {A = ℕ} n 0 in
    let out = replicate {A = ℕ} room 0 in
    let go : Result.value k ≡ write_answer h iu out → length (encode h iu) ≤ length out = by_answer h iu out (λ a. Result.value k ≡ a → length (encode h iu) ≤ length out) (λ l e. l) (λ m e. let z : ◌≡◌ {A = ℕ} 0 1 = cc in absurd (omega arith)) in
    omega (arith, go (answers iu out (length-replicate n 0) (length-replicate room 0)), encode_length h iu, length-replicate {A = ℕ} n 0, length-replicate {A = ℕ} room 0)

-- and the writer takes its header and IU
pub taken : (h : Header) (n room k : ℕ) → Answers h n room (Result.value k) → writable h n ≡ true
unfolding pick
taken h n room k answers =
    let iu = replicate {A = ℕ} n 0 in
    let out = replicate {A = ℕ} room 0 in
    ap (writable h) (sym (length-replicate n 0)) ∙ go iu out (writable h (length iu)) (leb (length (encode h iu)) (length out)) (answers iu out (length-replicate n 0) (length-replicate room 0))
  where
    go : (iu out : List ℕ) (w l : Bool) → Result.value k ≡ pick w (pick l (Result.value (length (encode h iu))) (Result.number 3)) (Result.number 1) → w ≡ true
    go iu out true l e = refl
    go iu out false l e = differ (cc)
