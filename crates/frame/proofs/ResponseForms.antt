-- The laws of specs/ResponseForms.antt: what the reader of a RESPONSE's IU takes.
use Prim.Native.Nat.{ℕ, zero, suc, ◌+◌, ◌*◌, ◌/◌, ◌%◌, ◌≤◌, ◌<◌}
use mathlib.Core.List.{List, [], ◌∷◌, ◌++◌}
use mathlib.Core.Bool.{Bool, true, false, ◌&&◌}
use mathlib.Core.Path.{◌≡◌, refl, sym, ap, subst, ◌∙◌}
use native.Mathlib.Nat.{zero-add}
use native.Mathlib.Omega.{arith}
use lib.Dec.{eqb, leb, ltb}
use lib.ListN.{length, get_or, take, drop, length-drop, take-append-drop}
use lib.Seq.{take_all, take-length, take-suc}
use borrow.Author.Tests.{eq-eqb, le-leb, le-ltb, ltb-true, ltb-false, eqb-true, leb-true}
use Rattle.status.specs.Pick.{pick}
use Rattle.status.specs.Result.{Result}
use Rattle.status.specs.declared.answer.Opened.{Opened}
use Rattle.status.proofs.Choose.{in_true, in_false, and_true}
use Rattle.frame.specs.Format.{digits}
use Rattle.frame.specs.Reserved.{bytes_at}
use Rattle.frame.specs.RoundTrip.{Bytes}
use Rattle.frame.specs.Lent.{Lent}
use Rattle.frame.specs.Response.{kind_in, status_in, sense_length, response_length, response_fits, sense_fits, opened, needing, by_kind, response_iu_of, sense_of}
use Rattle.frame.specs.ResponseForms.{front, Form, Opens, Read, NoOther}
use Rattle.frame.proofs.ByKind as by
use Rattle.frame.proofs.Digits.{field_digits, digits_field}
use Rattle.frame.proofs.Parts.{whole_part}
use Rattle.std.proofs.lemmas.List.{nil_from_length}

-- (a): the kind's need is met
kind_back : (bits k : ℕ) → k < 4 → (bits * 4 + k) % 4 ≡ k
kind_back bits k l = omega arith

met : (t : Bool) (iu : List ℕ) (k s n : ℕ) → t ≡ true → kind_in iu ≡ k → status_in iu ≡ s → Result.value (record { kind = k; status = s; sense = n }) ≡ needing t iu n
met t iu k s n e a b = in_true t _ _ _ e (λ i. Result.value (record { kind = sym a i; status = sym b i; sense = n }))

reads : (iu : List ℕ) (o : Opened) → 24 ≤ length iu → Result.value o ≡ by_kind iu → response_iu_of iu ≡ Result.value o
unfolding response_iu_of
reads iu o l e = sym (in_false _ _ _ _ (le-ltb _ _ l) e)

response_met : (iu : List ℕ) → response_length iu ≡ 4 → length iu ≡ 28 → response_fits iu ≡ true
unfolding response_fits
response_met iu n l = simp (eq-eqb _ _ n, eq-eqb _ _ l)

sense_met : (iu : List ℕ) (n : ℕ) → sense_length iu ≡ n → 1 ≤ n → n ≤ 1_000 → length iu ≡ 24 + n → sense_fits iu ≡ true
unfolding sense_fits
sense_met iu n e lo hi l = simp (e, le-leb _ _ lo, le-leb _ _ hi, eq-eqb _ _ l)

pub opens : Opens
unfolding pick
opens iu k s d (Form.no_data a bits status n m) =
    let e = kind_back bits 0 (omega arith) in
    (reads iu _ (omega arith) (by.no_data iu _ e (met _ iu 0 status 0 refl e refl)), refl)
opens iu k s d (Form.response_data a bits status n r l) =
    let e = kind_back bits 1 (omega arith) in
    (reads iu _ (omega arith) (by.response_data iu _ e (met _ iu 1 status 0 (response_met iu refl (omega arith)) e refl)), refl)
opens iu k s d (Form.sense_data a bits status n r lo hi) =
    let e = kind_back bits 2 (omega arith) in
    let f : sense_length iu ≡ length r = field_digits 4 (length r) [] (omega arith) in
    let x : Result.value (record { kind = 2; status = status; sense = length r }) ≡ needing (sense_fits iu) iu (sense_length iu) =
    rw f (met _ iu 2 status (length r) (sense_met iu (length r) f lo hi (omega arith)) e refl) in
    (reads iu _ (omega arith) (by.sense_data iu _ e x), ap (λ (x : Lent). x.bytes) (whole_part iu 24 (length r) (omega arith)) ∙ take-length r)

-- (b): the bytes of any IU of 24 and more, as a form has them
take_bytes : (b : List ℕ) (n : ℕ) → n ≤ length b → take n b ≡ bytes_at b 0 n
take_bytes b zero l = refl
take_bytes b (suc n) l = take-suc b n 0 (omega arith) ∙ rw (take_bytes b n (omega arith), zero-add n) refl

module _ (iu : List ℕ) (small : Bytes iu) (least : 24 ≤ length iu) where
  abbrev byte : ℕ → ℕ
  byte i = get_or iu i 0

  -- with what is known of its kind and lengths
  whole : (k n m : ℕ) → kind_in iu ≡ k → sense_length iu ≡ n → response_length iu ≡ m → iu ≡ front byte (byte 10 / 4) k (status_in iu) n m ++ drop 24 iu
  whole k n m e f g =
      let x : byte 10 ≡ byte 10 / 4 * 4 + k = omega arith in
      let p : digits 4 n ≡ bytes_at iu 16 4 = ap (digits 4) (sym f) ∙ digits_field iu small 16 4 in
      let q : digits 4 m ≡ bytes_at iu 20 4 = ap (digits 4) (sym g) ∙ digits_field iu small 20 4 in
      let fr : bytes_at iu 0 24 ≡ front byte (byte 10 / 4) k (status_in iu) n m =
      λ i. (byte 0 ∷ byte 1 ∷ byte 2 ∷ byte 3 ∷ byte 4 ∷ byte 5 ∷ byte 6 ∷ byte 7 ∷ byte 8 ∷ byte 9 ∷ x i ∷ byte 11 ∷ byte 12 ∷ byte 13 ∷ byte 14 ∷ byte 15 ∷ []) ++ sym p i ++ sym q i in
      sym (take-append-drop 24 iu) ∙ ap (λ (l : List ℕ). l ++ drop 24 iu) (take_bytes iu 24 least ∙ fr)

  -- a need that is met makes the form of its kind
  none : kind_in iu ≡ 0 → length iu ≡ 24 → Form iu (kind_in iu) (status_in iu) (sense_of (opened iu 0) iu).bytes
  unfolding pick
  none e l =
      let w : iu ≡ front byte (byte 10 / 4) 0 (status_in iu) (sense_length iu) (response_length iu) =
      whole 0 _ _ e refl refl ∙ rw (nil_from_length (drop 24 iu) (omega (arith, length-drop 24 iu))) refl in
      rw e (subst (λ (x : List ℕ). Form x 0 (status_in iu) []) (sym w) (Form.no_data byte (byte 10 / 4) (status_in iu) (sense_length iu) (response_length iu)))

  response : kind_in iu ≡ 1 → response_fits iu ≡ true → Form iu (kind_in iu) (status_in iu) (sense_of (opened iu 0) iu).bytes
  unfolding response_fits pick
  response e t =
      let b = and_true (eqb (response_length iu) 4) (eqb (length iu) 28) t in
      let d = length-drop 24 iu in
      let l : length iu ≡ 28 = eqb-true _ _ b.1 in
      rw e (subst (λ (x : List ℕ). Form x 1 (status_in iu) []) (sym (whole 1 _ 4 e refl (eqb-true _ _ b.0))) (Form.response_data byte (byte 10 / 4) (status_in iu) (sense_length iu) (drop 24 iu) (omega arith)))

  sense : kind_in iu ≡ 2 → sense_fits iu ≡ true → Form iu (kind_in iu) (status_in iu) (sense_of (opened iu (sense_length iu)) iu).bytes
  unfolding sense_fits pick
  sense e t =
      let b = and_true (leb 1 (sense_length iu) && leb (sense_length iu) 1_000) (eqb (length iu) (24 + sense_length iu)) t in
      let c = and_true (leb 1 (sense_length iu)) (leb (sense_length iu) 1_000) b.0 in
      let lo : 1 ≤ sense_length iu = leb-true _ _ c.0 in
      let hi : sense_length iu ≤ 1_000 = leb-true _ _ c.1 in
      let l : length iu ≡ 24 + sense_length iu = eqb-true _ _ b.1 in
      let d : length (drop 24 iu) ≡ sense_length iu = length-drop 24 iu ∙ omega arith in
      rw (e, whole_part iu 24 (sense_length iu) (omega arith), take_all (sense_length iu) (drop 24 iu) (omega arith))
      (subst (λ (x : List ℕ). Form x 2 (status_in iu) (drop 24 iu)) (sym (whole 2 (length (drop 24 iu)) _ e (sym d) refl))
      (Form.sense_data byte (byte 10 / 4) (status_in iu) (response_length iu) (drop 24 iu) (omega arith) (omega arith)))

  needed : (t : Bool) (n : ℕ) → (t ≡ true → Form iu (kind_in iu) (status_in iu) (sense_of (opened iu n) iu).bytes) → Read iu (needing t iu n)
  unfolding pick
  needed true n f = Read.taken (opened iu n) (f refl)
  needed false n f = Read.wrong least

  by_kind_lem : Read iu (by_kind iu)
  unfolding by_kind pick
  by_kind_lem = go (eqb (kind_in iu) 0) (eqb (kind_in iu) 1) (eqb (kind_in iu) 2) refl refl refl
    where
      go : (t u v : Bool) → eqb (kind_in iu) 0 ≡ t → eqb (kind_in iu) 1 ≡ u → eqb (kind_in iu) 2 ≡ v → Read iu (pick t (needing (eqb (length iu) 24) iu 0) (pick u (needing (response_fits iu) iu 0) (pick v (needing (sense_fits iu) iu (sense_length iu)) (Result.number 34))))
      go true u v a b c = needed (eqb (length iu) 24) 0 (λ l. none (eqb-true _ _ a) (eqb-true _ _ l))
      go false true v a b c = needed (response_fits iu) 0 (response (eqb-true _ _ b))
      go false false true a b c = needed (sense_fits iu) (sense_length iu) (sense (eqb-true _ _ c))
      go false false false a b c = Read.wrong least

pub no_other : NoOther
unfolding response_iu_of pick
no_other iu small = go (ltb (length iu) 24) refl
  where
    go : (t : Bool) → ltb (length iu) 24 ≡ t → Read iu (pick t (Result.number 32) (by_kind iu))
    go true e = Read.short (ltb-true _ _ e)
    go false e = by_kind_lem iu small (ltb-false _ _ e)
