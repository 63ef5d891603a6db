-- Little-endian words: what is read and put down again, std's functions for them, and the words of big-endian numbers.
use Prim.Native.Nat.{ℕ, zero, suc, ◌+◌, ◌*◌, ◌/◌, ◌%◌, ◌^◌, ◌≤◌, ◌<◌}
use mathlib.Core.List.{List}
use mathlib.Core.Path.{◌≡◌, refl, sym, ap, ◌∙◌}
use native.Mathlib.Nat.{zero-add, add-zero, add_assoc, suc-add, mul_assoc, pow-suc, pow-succ'}
use native.Mathlib.Numerals.{add-one}
use native.Mathlib.Omega.{arith}
use lib.ListN.{length, get_or, take, drop}
use lib.Seq.{drop-cons, get_or-take, get_or-drop}
use Rattle.std.specs.Int.{w16, w32, w64, from_le_bytes, to_le_bytes, swap_bytes}
use Rattle.frame.specs.Format.{digits}
use Rattle.frame.specs.Words.{little, word}
use Rattle.frame.specs.RoundTrip.{Bytes}

pub little_length : (n x : ℕ) → length (little n x) ≡ n
unfolding little
little_length zero x = refl
little_length (suc n) x = rw (little_length n (x / 256)) refl

-- bytes read as a word and put down again
pub little_word : (b : List ℕ) → Bytes b → (i n : ℕ) → i + n ≤ length b → little n (word b i n) ≡ take n (drop i b)
unfolding little word
little_word b small i zero fits = refl
little_word b small i (suc n) fits =
    let y = word b (i + 1) n in
    let m : (get_or b i 0 + 256 * y) % 256 ≡ get_or b i 0 = omega (arith, small i) in
    let d : (get_or b i 0 + 256 * y) / 256 ≡ y = omega (arith, small i) in
    rw (m, d, little_word b small (i + 1) n (omega arith), add-one, drop-cons b i 0 (omega arith)) refl

pub word_fits : (b : List ℕ) → Bytes b → (i n : ℕ) → word b i n < 256 ^ n
unfolding word
word_fits b small i zero = omega arith
word_fits b small i (suc n) = omega (arith, pow-suc 256 n, word_fits b small (i + 1) n, small i)

-- a word is its first bytes, then the others
pub word_split : (b : List ℕ) (i m n : ℕ) → word b i (m + n) ≡ word b i m + 256 ^ m * word b (i + m) n
unfolding word
word_split b i zero n = rw (zero-add n, add-zero i) (omega arith)
word_split b i (suc m) n =
    let e : i + 1 + m ≡ i + suc m = omega arith in
    rw (suc-add m n, word_split b (i + 1) m n, e, pow-succ' 256 m, mul_assoc 256 (256 ^ m) (word b (i + suc m) n)) (omega arith)

-- and depends on no byte behind it
pub word_take : (b : List ℕ) (i n k : ℕ) → i + n ≤ k → word (take k b) i n ≡ word b i n
unfolding word
word_take b i zero k within = refl
word_take b i (suc n) k within = rw (get_or-take k b i 0 (omega arith), word_take b (i + 1) n k (omega arith)) refl

-- equal words are of equal bytes
pub same_bytes : (b c : List ℕ) → Bytes b → Bytes c → (i n : ℕ) → i + n ≤ length b → i + n ≤ length c → word b i n ≡ word c i n → take n (drop i b) ≡ take n (drop i c)
same_bytes b c p q i n there also e = sym (little_word b p i n there) ∙ ap (little n) e ∙ little_word c q i n also

-- of what stands from i on
pub word_drop : (b : List ℕ) (i j n : ℕ) → word (drop i b) j n ≡ word b (i + j) n
unfolding word
word_drop b i j zero = refl
word_drop b i j (suc n) = rw (get_or-drop i b j 0, word_drop b i (j + 1) n, add_assoc i j 1) refl

-- std's words
pub read_le : (b : List ℕ) (i : ℕ) → from_le_bytes w64 (take 8 (drop i b)) ≡ word b i 8
unfolding word
read_le b i =
    let l = take 8 (drop i b) in
    let e : from_le_bytes w64 l ≡ word l 0 8 = omega arith in
    e ∙ word_take (drop i b) 0 8 8 (omega arith) ∙ word_drop b i 0 8 ∙ ap (λ (k : ℕ). word b k 8) (add-zero i)

pub written_le : (x : ℕ) → to_le_bytes w32 x ≡ little 4 x
unfolding little
written_le x =
    let x2 : x / 65536 ≡ x / 256 / 256 = omega arith in
    let x3 : x / 16777216 ≡ x / 256 / 256 / 256 = omega arith in
    rw (x2, x3) refl

-- the words whose bytes are those of a big-endian number
pub swapped : (x : ℕ) → swap_bytes w32 x ≡ word (digits 4 x) 0 4
unfolding word
swapped x =
    let x2 : x / 65536 ≡ x / 256 / 256 = omega arith in
    let x3 : x / 16777216 ≡ x / 256 / 256 / 256 = omega arith in
    rw (x2, x3) (omega arith)

pub swapped_16 : (x : ℕ) → swap_bytes w16 x ≡ word (digits 2 x) 0 2
unfolding word
swapped_16 x = omega arith
