-- The round trips of specs/RoundTrip.antt.
use Prim.Native.Nat.{ℕ, zero, suc, ◌+◌, ◌-◌, ◌/◌, ◌%◌, ◌^◌, ◌≤◌, ◌<◌}
use mathlib.Core.List.{List, [], ◌∷◌, ◌++◌}
use mathlib.Core.Bool.{Bool, true, false}
use mathlib.Core.Path.{◌≡◌, refl, sym, ap, subst, ◌∙◌}
use native.Mathlib.Decide.{ℕ_discrete}
use native.Mathlib.Omega.{arith}
use lib.ListN.{length, get_or, take, drop, replicate, length-append, length-replicate, length-take, length-drop, get_or-append}
use lib.Seq.{take_at, get_or-take, get_or-drop, get_or-append-add}
use borrow.Author.Tests.{le-leb, eq-eqb, lt-ltb, ltb-true, leb-true}
use Rattle.status.specs.Pick.{pick}
use Rattle.status.specs.Result.{Result}
use Rattle.status.proofs.Choose.{each, in_true}
use Rattle.status.proofs.OpenedCall.{differ}
use Rattle.frame.specs.Format.{is_type, field, flags_of, fill_of, header_bytes, data_bytes, encode}
use Rattle.frame.specs.Write.{request, writable}
use Rattle.frame.specs.Read.{fill_count, header_in, well_formed, iu_length, iu_of, parsed, decode}
use Rattle.frame.specs.Reserved.{cleared, kept}
use Rattle.frame.specs.RoundTrip.{Bytes, InRange, ComesBack, WrittenAgain, DiffersAtMost, XferRdyComesBack}
use Rattle.frame.specs.XferRdy.{xfer_rdy_bytes, xfer_rdy_of}
use Rattle.frame.specs.declared.types.Header.{Header}
use Rattle.frame.specs.declared.types.Parsed.{Parsed}
use Rattle.frame.proofs.Bits.{flags_back, byte_back}
use Rattle.frame.proofs.Digits.{field_digits, digits_field, field_fits}
use Rattle.frame.proofs.Formed.{Formed, formed}
use Rattle.frame.proofs.Writer.{encode_length}

-- what a writable header and IU give, all bounds at once
pub record Writable (h : Header) (n : ℕ) : Type 0 where
  pub frametype : is_type h.frametype ≡ true
  pub dest : h.dest < 2 ^ 24
  pub source : h.source < 2 ^ 24
  pub tlr : h.flags.tlr < 4
  pub most : n ≤ 1024

pub writable_gives : (h : Header) (n : ℕ) → writable h n ≡ true → Writable h n
writable_gives h n e =
    let t = each (request h n) e in
    record { frametype = t.0; dest = omega (arith, ltb-true); source = omega (arith, ltb-true); tlr = omega (arith, ltb-true); most = omega (arith, leb-true) }

module _ (h : Header) (iu : List ℕ) where
  fill_back : fill_count (encode h iu) ≡ fill_of (length iu)
  unfolding encode header_bytes
  fill_back = omega arith

  iu_length_back : iu_length (encode h iu) ≡ length iu
  iu_length_back = rw (encode_length h iu, fill_back) (omega arith)

  header_back : InRange h → Writable h (length iu) → header_in (encode h iu) ≡ h
  unfolding header_in encode header_bytes
  header_back r w i =
      record {
        frametype = h.frametype;
        dest = field_digits 3 h.dest [] w.dest i;
        source = field_digits 3 h.source [] w.source i;
        flags = flags_back h.flags w.tlr i;
        tag = field_digits 2 h.tag [] r.tag i;
        tptt = field_digits 2 h.tptt [] r.tptt i;
        offset = field_digits 4 h.offset [] r.offset i;
      }

  frametype_back : get_or (encode h iu) 0 0 ≡ h.frametype
  unfolding encode header_bytes
  frametype_back = refl

  pub iu_back : iu_of (encode h iu) ≡ iu
  unfolding encode data_bytes header_bytes
  iu_back = take_at iu (replicate (fill_of (length iu)) 0) _ (sym iu_length_back)

  well_formed_back : Writable h (length iu) → well_formed (encode h iu) ≡ true
  well_formed_back w =
      let l = encode_length h iu in
      let f = fill_back in
      let m = w.most in
      simp (le-leb 24 (length (encode h iu)) (omega arith), le-leb (length (encode h iu)) 1048 (omega arith), eq-eqb (length (encode h iu) % 4) 0 (omega arith), le-leb (fill_count (encode h iu)) (length (encode h iu) - 24) (omega arith))

pub comes_back : ComesBack
unfolding decode
comes_back h iu r e =
    let w = writable_gives h (length iu) e in
    let b = encode h iu in
    let answer : Result.value (record { header = h; start = 24; len = length iu }) ≡ Result.value (parsed b) =
    λ i. Result.value (record { header = sym (header_back h iu r w) i; start = 24; len = sym (iu_length_back h iu) i }) in
    (sym (in_true _ _ _ _ (well_formed_back h iu w) (in_true _ _ _ _ (ap is_type (frametype_back h iu) ∙ w.frametype) answer)), iu_back h iu)

-- a frame that the reader takes
pub record Accepted (b : List ℕ) (p : Parsed) : Type 0 where
  pub form : well_formed b ≡ true
  pub frametype : is_type (get_or b 0 0) ≡ true
  pub is : parsed b ≡ p

pub accepted : (b : List ℕ) (p : Parsed) → decode b ≡ Result.value p → Accepted b p
unfolding decode pick
accepted b p e = go (well_formed b) (is_type (get_or b 0 0)) refl refl e
  where
    go : (t u : Bool) → well_formed b ≡ t → is_type (get_or b 0 0) ≡ u → pick t (pick u (Result.value (parsed b)) (Result.number 6)) (Result.number 5) ≡ Result.value p → Accepted b p
    go true true f k e = record { form = f; frametype = k; is = cc }
    go true false f k e = differ (cc)
    go false u f k e = differ (cc)

-- of the frames that the reader takes, read and written again
module _ (b : List ℕ) (small : Bytes b) (f : Formed b) where
  iu_size : length (iu_of b) ≡ iu_length b
  iu_size = rw (length-take, length-drop) (omega (arith, f.fill))

  fill_again : fill_of (length (iu_of b)) ≡ fill_count b
  fill_again =
      let l = f.least in
      let q = f.fours in
      let m = f.fill in
      rw iu_size (omega arith)

  header_again : header_bytes (header_in b) (fill_count b) ≡ take 24 (cleared b)
  unfolding header_bytes header_in cleared
  header_again i =
      (get_or b 0 0 ∷ digits_field b small 1 3 i) ++
      (0 ∷ digits_field b small 5 3 i) ++
      (0 ∷ 0 ∷ byte_back (get_or b 10 0) i ∷ fill_count b ∷ 0 ∷ 0 ∷ 0 ∷ 0 ∷ digits_field b small 16 2 i) ++
      digits_field b small 18 2 i ++
      digits_field b small 20 4 i

  frame_again : encode (header_in b) (iu_of b) ≡ cleared b
  unfolding encode data_bytes cleared
  frame_again = rw fill_again (ap (λ (x : List ℕ). x ++ (iu_of b ++ replicate (fill_count b) 0)) header_again)

  writable_again : is_type (get_or b 0 0) ≡ true → writable (header_in b) (iu_length b) ≡ true
  unfolding header_in flags_of
  writable_again k =
      let m = f.most in
      simp (k, lt-ltb (field b 1 3) (2 ^ 24) (field_fits b small 1 3), lt-ltb (field b 5 3) (2 ^ 24) (field_fits b small 5 3), lt-ltb (get_or b 10 0 / 8 % 4) 4 (omega arith), le-leb (iu_length b) 1024 (omega arith))

pub written_again : WrittenAgain
written_again b p small e =
    let a = accepted b p e in
    let f = formed b a.form in
    subst (λ (q : Parsed). (writable q.header q.len ≡ true) × (encode q.header (take q.len (drop q.start b)) ≡ cleared b)) a.is
    (writable_again b small f a.frametype, frame_again b small f)

-- P at each number below n
All : ℕ → (ℕ → Type 0) → Type 0
All zero P = Unit {0}
All (suc n) P = All n P × P n

below : (n : ℕ) (P : ℕ → Type 0) → All n P → (i : ℕ) → i < n → P i
unfolding All
below zero P a i p = absurd (omega arith)
below (suc n) P a i p = go (ℕ_discrete i n) (below n P a.0 i)
  where
    go : Dec (i ≡ n) → (i < n → P i) → P i
    go (yes e) f = rw e a.1
    go (no e) f = f (omega arith)

-- the bytes of a frame with its reserved bits and fill at zero, beside those of the frame
module _ (b : List ℕ) (small : Bytes b) (f : Formed b) where
  headers_agree : (i : ℕ) → i < 24 → get_or (cleared b) i 0 ≡ get_or b i 0 % get_or kept i 1
  unfolding All cleared
  headers_agree =
      let whole : (i : ℕ) → get_or b i 0 ≡ get_or b i 0 % 256 = λ i. omega (arith, small i) in
      let none : (i : ℕ) → 0 ≡ get_or b i 0 % 1 = λ i. omega arith in
      let P : ℕ → Type 0 = λ i. get_or (cleared b) i 0 ≡ get_or b i 0 % get_or kept i 1 in
      let up_to4 : All 4 P = ((((tt, whole 0), whole 1), whole 2), whole 3) in
      let up_to8 : All 8 P = ((((up_to4, none 4), whole 5), whole 6), whole 7) in
      let up_to12 : All 12 P = ((((up_to8, none 8), none 9), refl), refl) in
      let up_to16 : All 16 P = ((((up_to12, none 12), none 13), none 14), none 15) in
      let up_to20 : All 20 P = ((((up_to16, whole 16), whole 17), whole 18), whole 19) in
      below 24 P ((((up_to20, whole 20), whole 21), whole 22), whole 23)

  sizes_agree : length (cleared b) ≡ length b
  unfolding cleared
  sizes_agree =
      let l = f.least in
      let m = f.fill in
      simp (length-append, length-replicate, iu_size b small f) (omega arith)

  ius_agree : (i : ℕ) → 24 ≤ i → i < 24 + iu_length b → get_or (cleared b) i 0 ≡ get_or b i 0
  unfolding cleared
  ius_agree i lo hi =
      let j = i - 24 in
      let e : i ≡ 24 + j = omega arith in
      let s : j < length (iu_of b) = rw (iu_size b small f) (omega arith) in
      rw e
      (get_or-append-add (take 24 (cleared b)) (iu_of b ++ replicate (fill_count b) 0) j 0
      ∙ get_or-append (iu_of b) (replicate (fill_count b) 0) 0 j s
      ∙ get_or-take (iu_length b) (drop 24 b) j 0 (omega arith)
      ∙ get_or-drop 24 b j 0)

pub differs_at_most : DiffersAtMost
differs_at_most b p small e =
    let f = formed b (accepted b p e).form in
    record { size = sizes_agree b small f; header = headers_agree b small f; iu = ius_agree b small f }

pub xfer_rdy_comes_back : XferRdyComesBack
unfolding xfer_rdy_of xfer_rdy_bytes pick
xfer_rdy_comes_back x o l i =
    Result.value (record { offset = field_digits 4 x.offset [] o i; len = field_digits 4 x.len [] l i })
