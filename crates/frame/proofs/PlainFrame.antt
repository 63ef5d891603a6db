-- Plain DATA frames: their first 24 bytes by words, and what the reader gives of one.
use Prim.Native.Nat.{ℕ, ◌+◌, ◌*◌, ◌/◌, ◌%◌, ◌^◌, ◌≤◌, ◌<◌}
use mathlib.Core.List.{List, [], ◌∷◌, ◌++◌}
use mathlib.Core.Bool.{Bool, true, false, ◌&&◌, ◌||◌, false≢true}
use mathlib.Core.Path.{◌≡◌, refl, sym, ap, subst, ◌∙◌}
use native.Mathlib.Omega.{arith}
use lib.Dec.{leb, ltb, eqb}
use lib.Pointwise.{bytes_decides}
use lib.ListN.{length, take, drop, length-drop, take-append-drop}
use borrow.Author.Tests.{le-leb, lt-leb, lt-ltb, le-ltb, eq-eqb, leb-true, leb-false, ltb-true, ltb-false, eqb-true}
use Rattle.std.specs.Cmp.{both_ways}
use Rattle.std.proofs.lemmas.Bool.{or_parts}
use Rattle.status.specs.Pick.{all}
use Rattle.status.specs.Result.{Result}
use Rattle.status.proofs.Choose.{each}
use Rattle.frame.specs.Format.{digits, field, flag_byte, header_bytes, encode}
use Rattle.frame.specs.Write.{writable}
use Rattle.frame.specs.Read.{fill_count, iu_of, decode}
use Rattle.frame.specs.Words.{word}
use Rattle.frame.specs.PlainData.{plain_header, plain, is_plain_data, PlainData}
use Rattle.frame.specs.RoundTrip.{Bytes, InRange}
use Rattle.frame.specs.declared.types.Header.{Header}
use Rattle.frame.specs.declared.types.Parsed.{Parsed}
use Rattle.frame.proofs.Digits.{field_fits}
use Rattle.frame.proofs.Little.{word_split, word_take, word_fits, same_bytes}
use Rattle.frame.proofs.HeaderWords.{small_bytes, with_type}
use Rattle.frame.proofs.RoundTrip.{comes_back, accepted}
use Rattle.frame.proofs.FullFrame.{no_fill}

-- ── what the test says, all bounds at once ──
pub record Plain (b : List ℕ) (dest source tag offset : ℕ) : Type 0 where
  pub least : 28 ≤ length b
  pub most : length b ≤ 1_048
  pub fours : length b % 4 ≡ 0
  pub to : dest < 2 ^ 24
  pub from : source < 2 ^ 24
  pub header : take 24 b ≡ header_bytes (plain_header dest source tag (field b 18 2) offset) 0

module _ (b : List ℕ) (dest source tag offset : ℕ) where
  abbrev header : Header
  header = plain_header dest source tag (field b 18 2) offset

  abbrev bytes : List ℕ
  bytes = header_bytes header 0

  pub plain_gives : is_plain_data b dest source tag offset ≡ true → Plain b dest source tag offset
  unfolding is_plain_data
  plain_gives e =
      let t = each (plain b dest source tag offset) e in
      record {
        least = leb-true _ _ t.0;
        most = leb-true _ _ t.1.0;
        fours = eqb-true _ _ t.1.1.0;
        to = ltb-true _ _ t.1.1.1.0;
        from = ltb-true _ _ t.1.1.1.1.0;
        header = (bytes_decides _ _).0 t.1.1.1.1.1.0;
      }

  gives_plain : Plain b dest source tag offset → is_plain_data b dest source tag offset ≡ true
  unfolding is_plain_data
  gives_plain p =
      rw (le-leb 28 (length b) p.least, le-leb (length b) 1048 p.most, eq-eqb (length b % 4) 0 p.fours, lt-ltb dest (2 ^ 24) p.to, lt-ltb source (2 ^ 24) p.from, p.header) ((bytes_decides bytes bytes).1 refl)

  -- ── the reader ──
  module _ (small : Bytes b) (tags : tag < 2 ^ 16) (offsets : offset < 2 ^ 32) (p : Plain b dest source tag offset) where
    whole : bytes ++ drop 24 b ≡ b
    whole = ap (λ (x : List ℕ). x ++ drop 24 b) (sym p.header) ∙ take-append-drop 24 b

    again : encode header (drop 24 b) ≡ b
    again =
        let l = p.least in
        let f = p.fours in
        no_fill header (drop 24 b) (rw length-drop (omega arith)) ∙ whole

    no_fills : fill_count b ≡ 0
    unfolding header_bytes
    no_fills = subst (λ (x : List ℕ). fill_count x ≡ 0) whole refl

    taken : writable header (length (drop 24 b)) ≡ true
    taken = let m = p.most in rw (lt-ltb dest (2 ^ 24) p.to, lt-ltb source (2 ^ 24) p.from, le-leb (length (drop 24 b)) 1024 (rw length-drop (omega arith))) refl

    pub reads : PlainData b dest source tag offset
    reads =
        let r : InRange header = record { tag = tags; tptt = field_fits b small 18 2; offset = offsets } in
        let back = comes_back header (drop 24 b) r taken in
        let e : decode b ≡ Result.value (record { header = header; start = 24; len = length (drop 24 b) }) = subst (λ (x : List ℕ). decode x ≡ Result.value (record { header = header; start = 24; len = length (drop 24 b) })) again back.0 in
        let is = (accepted b _ e).is in
        record {
          least = p.least;
          most = p.most;
          read = e ∙ ap (λ (x : Parsed). Result.value x) (sym is);
          header = ap (λ (x : Parsed). x.header) is;
          fill = no_fills;
          iu = subst (λ (x : List ℕ). iu_of x ≡ drop 24 b) again back.1;
        }

-- ── the first 24 bytes, by the words that the code compares ──
parts : (l : List ℕ) → word l 0 24 ≡ word l 0 8 + 256 ^ 8 * (word l 8 8 + 256 ^ 8 * (word l 16 2 + 256 ^ 2 * (word l 18 2 + 256 ^ 2 * word l 20 4)))
parts l = word_split l 0 8 16 ∙ ap (λ (x : ℕ). word l 0 8 + 256 ^ 8 * x) (word_split l 8 8 8 ∙ ap (λ (x : ℕ). word l 8 8 + 256 ^ 8 * x) (word_split l 16 2 6 ∙ ap (λ (x : ℕ). word l 16 2 + 256 ^ 2 * x) (word_split l 18 2 4)))

module _ (b : List ℕ) (dest source tag offset : ℕ) (small : Bytes b) (least : 28 ≤ length b) (to : dest < 2 ^ 24) (from : source < 2 ^ 24) where
  abbrev front : List ℕ
  front = bytes b dest source tag offset

  front_small : Bytes front
  unfolding header_bytes flag_byte
  front_small = small_bytes front (omega arith)

  destination : word (digits 4 dest) 0 4 + 1 ≡ word front 0 4
  unfolding header_bytes word
  destination = with_type 1 dest to

  sender : word (digits 4 source) 0 4 + 0 ≡ word front 4 4
  unfolding header_bytes word
  sender = with_type 0 source from

  addresses : word (digits 4 dest) 0 4 + 1 + word (digits 4 source) 0 4 * 4294967296 ≡ word front 0 8
  addresses = omega (arith, destination, sender, word_split front 0 4 4)

  zeros : word front 8 8 ≡ 0
  unfolding header_bytes flag_byte word
  zeros = refl

  tags : word front 16 2 ≡ word (digits 2 tag) 0 2
  unfolding header_bytes word
  tags = refl

  own : word front 18 2 ≡ word b 18 2
  unfolding header_bytes word
  own = omega (arith, small 18, small 19)

  offsets : word front 20 4 ≡ word (digits 4 offset) 0 4
  unfolding header_bytes word
  offsets = refl

  low : word b 16 8 % 65536 ≡ word b 16 2
  low = omega (arith, word_split b 16 2 6, word_fits b small 16 2)

  high : word b 16 8 / 4294967296 ≡ word b 20 4
  high = omega (arith, word_split b 16 4 4, word_fits b small 16 4)

  -- both ways: the tests give the bytes, the bytes give each word
  bytes_told : word b 0 8 ≡ word (digits 4 dest) 0 4 + 1 + word (digits 4 source) 0 4 * 4294967296 → word b 8 8 ≡ 0 → word b 16 8 % 65536 ≡ word (digits 2 tag) 0 2 → word b 16 8 / 4294967296 ≡ word (digits 4 offset) 0 4 → take 24 b ≡ front
  unfolding header_bytes
  bytes_told a z t o =
      let first = a ∙ addresses in
      let second = z ∙ sym zeros in
      let third = sym low ∙ t ∙ sym tags in
      let still = sym own in
      let last = sym high ∙ o ∙ sym offsets in
      let e : word b 0 24 ≡ word front 0 24 = parts b ∙ (λ i. first i + 256 ^ 8 * (second i + 256 ^ 8 * (third i + 256 ^ 2 * (still i + 256 ^ 2 * last i)))) ∙ sym (parts front) in
      same_bytes b front small front_small 0 24 (omega arith) (omega arith) e

  told_bytes : take 24 b ≡ front → (i n : ℕ) → i + n ≤ 24 → word b i n ≡ word front i n
  told_bytes h i n within = sym (word_take b i n 24 within) ∙ ap (λ (x : List ℕ). word x i n) h

  -- the code's test, of the words that it read and swapped
  abbrev asked : List Bool
  asked =
      leb (length b) 1048 ∷
      eqb (length b % 4) 0 ∷
      eqb (word b 0 8) (word (digits 4 dest) 0 4 + 1 + word (digits 4 source) 0 4 * 4294967296) ∷
      eqb (word b 8 8) 0 ∷
      eqb (word b 16 8 % 65536) (word (digits 2 tag) 0 2) ∷
      eqb (word b 16 8 / 4294967296) (word (digits 4 offset) 0 4) ∷ []

  there : all asked ≡ true → is_plain_data b dest source tag offset ≡ true
  there e =
      let t = each asked e in
      let w = t.1.1 in
      gives_plain b dest source tag offset (record { least = least; most = leb-true _ _ t.0; fours = eqb-true _ _ t.1.0; to = to; from = from; header = bytes_told (eqb-true _ _ w.0) (eqb-true _ _ w.1.0) (eqb-true _ _ w.1.1.0) (eqb-true _ _ w.1.1.1.0) })

  back : is_plain_data b dest source tag offset ≡ true → all asked ≡ true
  back e =
      let p = plain_gives b dest source tag offset e in
      let h = told_bytes p.header in
      let a = h 0 8 (omega arith) ∙ sym addresses in
      let z = h 8 8 (omega arith) ∙ zeros in
      let t = low ∙ h 16 2 (omega arith) ∙ tags in
      let o = high ∙ h 20 4 (omega arith) ∙ offsets in
      rw (le-leb _ _ p.most, eq-eqb _ _ p.fours, eq-eqb _ _ a, eq-eqb _ _ z, eq-eqb _ _ t, eq-eqb _ _ o) refl

  pub told : {a z l sd ss st so : ℕ} → a ≡ word b 0 8 → z ≡ word b 8 8 → l ≡ word b 16 8 → sd ≡ word (digits 4 dest) 0 4 → ss ≡ word (digits 4 source) 0 4 → st ≡ word (digits 2 tag) 0 2 → so ≡ word (digits 4 offset) 0 4 →
      (leb (length b) 1048 && eqb (length b % 4) 0 && eqb a (sd + 1 + ss * 4294967296) && eqb z 0 && eqb (l % 65536) st && eqb (l / 4294967296) so) ≡ is_plain_data b dest source tag offset
  told ea ez el esd ess est eso = rw (ea, ez, el, esd, ess, est, eso) (both_ways _ _ there back)

-- what the early test says
abbrev early : List ℕ → ℕ → ℕ → Bool
early b dest source = ltb (length b) 28 || leb 16777216 dest || leb 16777216 source

pub bounded : (b : List ℕ) (dest source : ℕ) → early b dest source ≡ false → (28 ≤ length b) × (dest < 2 ^ 24) × (source < 2 ^ 24)
bounded b dest source e =
    let p = or_parts _ _ e in
    let q = or_parts _ _ p.0 in
    (ltb-false _ _ q.0, leb-false _ _ q.1, leb-false _ _ p.1)

pub unbounded : (b : List ℕ) (dest source tag offset : ℕ) → early b dest source ≡ true → false ≡ is_plain_data b dest source tag offset
unbounded b dest source tag offset e = both_ways false _ (λ f. absurd (false≢true f)) go
  where
    go : is_plain_data b dest source tag offset ≡ true → false ≡ true
    go f = let p = plain_gives b dest source tag offset f in rw (le-ltb (length b) 28 p.least, lt-leb 16777216 dest p.to, lt-leb 16777216 source p.from) at e
