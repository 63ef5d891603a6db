-- The buffers of a run: the bytes sent, the fates' numbers.
use Prim.Native.Nat.{ℕ, zero, suc, ◌+◌, ◌%◌, ◌≤◌, ◌<◌}
use mathlib.Core.List.{List, [], ◌∷◌, ◌++◌, map, append_assoc, append-nil}
use mathlib.Core.Path.{◌≡◌, refl, sym, ap, ◌∙◌}
use native.Mathlib.Nat.{zero-add}
use native.Mathlib.Omega.{arith}
use borrow.Author.Tests.{lt-ltb}
use Rattle.std.proofs.lemmas.Grind.{same_number_lists}
use Rattle.std.proofs.lemmas.List.{take-replicate}
use lib.ListN.{length, take, drop, set, get_or, replicate, length-append, length-replicate}
use Rattle.ladder_text.specs.Pick as text
use Rattle.ladder_text.specs.Text.{LF, before}
use Rattle.ladder_text.specs.Words.{fate_number, fate_of}
use Rattle.ladder_text.specs.RunFile.{fate_or, fates_of, fates_at, next_fate}
use Rattle.ladder_text.specs.Place.{placed}
use Rattle.ladder_text.specs.declared.types.Fate.{Fate}
use Rattle.ladder_text.specs.declared.types.NextFate.{NextFate}
use Rattle.ladder_text.proofs.FileSteps.{lines_at, lines_end}
use Rattle.ladder_text.proofs.Puts.{puts_byte}
use Rattle.ladder_run.specs.Whole.{whole_of}
use Rattle.ladder_run.specs.declared.types.Ladder.{Ladder}
use Rattle.ladder_print.specs.Text.{bytes_from, data_of, whole_text, start_text}
use Rattle.ladder_print.proofs.Behind.{Front, front_none, front_length, front_more, front_taken}

-- ── the bytes sent ──
pub bytes_length : (i n : ℕ) → length (bytes_from i n) ≡ n
bytes_length i zero = refl
bytes_length i (suc n) = ap suc (bytes_length (i + 1) n)

bytes_at : (i n k : ℕ) → k < n → get_or (bytes_from i n) k 0 ≡ (i + k) % 256
bytes_at i zero k h = absurd (omega arith)
bytes_at i (suc n) zero h = ap (λ (v : ℕ). v % 256) (omega arith)
bytes_at i (suc n) (suc k) h = bytes_at (i + 1) n k (omega arith) ∙ ap (λ (v : ℕ). v % 256) (omega arith)

-- each byte is set
pub filled : (d : List ℕ) (n : ℕ) → length d ≡ n → ((k : ℕ) → k < n → get_or d k 0 ≡ k % 256) → d ≡ data_of n
filled d n l h =
    same_number_lists d (data_of n) (omega (arith, l, bytes_length 0 n))
    (λ k m. h k (omega (arith, l)) ∙ ap (λ (v : ℕ). v % 256) (sym (zero-add k)) ∙ sym (bytes_at 0 n k (omega (arith, l))))

bytes_taken : (i n m : ℕ) → n ≤ m → take n (bytes_from i m) ≡ bytes_from i n
bytes_taken i zero m h = refl
bytes_taken i (suc n) zero h = absurd (omega arith)
bytes_taken i (suc n) (suc m) h = ap (λ (l : List ℕ). i % 256 ∷ l) (bytes_taken (i + 1) n m (omega arith))

pub data_taken : (n m : ℕ) {d : List ℕ} → n ≤ m → d ≡ data_of m → take n d ≡ data_of n
data_taken n m h p = ap (take n) p ∙ bytes_taken 0 n m h

-- a byte more at the front of a buffer
pub front_byte : {d t : List ℕ} {at : ℕ} {e : List ℕ} (x : ℕ) → Front d t at e → at < length d → length e ≡ length d → Front d (t ++ (x ∷ [])) (at + 1) (set e at x)
front_byte {at = at} {e = e} x f m l = front_more (x ∷ []) f (omega arith) (puts_byte e at x (omega arith))

-- ── the fates ──
pub fates_next : (b : List ℕ) (at : ℕ) {f : NextFate} → at < length b → f ≡ next_fate b at → fates_at b at ≡ f.fate ∷ fates_at b f.next
unfolding next_fate text.pick
fates_next b at h p =
    let there : next_fate b at ≡ record { fate = fate_or (fate_of (before LF (drop at b))); next = at + length (before LF (drop at b)) + 1 } =
    rw (lt-ltb at (length b) h) refl in
    ap fates_of (lines_at b at h) ∙ ap (λ (x : NextFate). x.fate ∷ fates_at b x.next) (sym (p ∙ there))

pub next_later : (b : List ℕ) (at : ℕ) {f : NextFate} → at < length b → f ≡ next_fate b at → at < f.next
unfolding next_fate text.pick
next_later b at h p = rw (p, lt-ltb at (length b) h) (omega arith)

pub fates_end : (b : List ℕ) (at : ℕ) → length b ≤ at → fates_at b at ≡ []
fates_end b at h = ap fates_of (lines_end b at h)

pub numbers_length : (fs : List Fate) → length (map fate_number fs) ≡ length fs
numbers_length [] = refl
numbers_length (f ∷ fs) = ap suc (numbers_length fs)

-- the numbers of the fates from `from` on: those passed stand at the front, the rest are to come
pub record Gathering (b : List ℕ) (from : ℕ) (fates₀ fates : List ℕ) (at n : ℕ) : Type 0 where
  pub text : List ℕ
  pub front : Front fates₀ text n fates
  pub rest : text ++ map fate_number (fates_at b at) ≡ map fate_number (fates_at b from)

pub gathering_first : (b : List ℕ) (from : ℕ) (fates : List ℕ) → Gathering b from fates fates from 0
gathering_first b from fates = record { text = []; front = front_none fates; rest = refl }

module _ {b : List ℕ} {from : ℕ} {fates₀ fates : List ℕ} {at n : ℕ} (g : Gathering b from fates₀ fates at n) (room : length (fates_at b from) ≤ length fates₀) where
  all_there : n + length (fates_at b at) ≡ length (fates_at b from)
  all_there = omega (arith, g.front.place, ap length g.rest, length-append g.text (map fate_number (fates_at b at)), numbers_length (fates_at b at), numbers_length (fates_at b from))

  pub fates_length : length fates ≡ length fates₀
  fates_length = front_length g.front (omega (arith, all_there, room))

  module _ (more : at < length b) {f : NextFate} (h : f ≡ next_fate b at) where
    pub some_room : n < length fates₀
    some_room = omega (arith, all_there, room, ap length (fates_next b at more h))

    pub gathering_next : {x : ℕ} → x ≡ fate_number f.fate → Gathering b from fates₀ (set fates n x) f.next (n + 1)
    gathering_next {x} p =
        record {
          text = g.text ++ (x ∷ []);
          front = front_byte x g.front some_room fates_length;
          rest =
              append_assoc g.text (x ∷ []) (map fate_number (fates_at b f.next))
              ∙ ap (λ (v : ℕ). g.text ++ (v ∷ map fate_number (fates_at b f.next))) p
              ∙ ap (λ (l : List Fate). g.text ++ map fate_number l) (sym (fates_next b at more h))
              ∙ g.rest;
        }

  pub gathered : length b ≤ at → (n ≡ length (fates_at b from)) × (fates ≡ placed fates₀ 0 (map fate_number (fates_at b from)))
  gathered h =
      let e : g.text ≡ map fate_number (fates_at b from) = sym (append-nil g.text) ∙ ap (λ (l : List Fate). g.text ++ map fate_number l) (sym (fates_end b at h)) ∙ g.rest in
      (g.front.place ∙ ap length e ∙ numbers_length (fates_at b from), g.front.is ∙ ap (placed fates₀ 0) e)

-- the part of the buffer that has them
pub gathered_taken : (fs : List Fate) (d : List ℕ) {n : ℕ} {e : List ℕ} → n ≡ length fs → e ≡ placed d 0 (map fate_number fs) → take n e ≡ map fate_number fs
gathered_taken fs d p q = front_taken {d = d} (record { place = p ∙ sym (numbers_length fs); is = q })

-- the fates, the data sent and the data received as a run is lent them
pub lent_text : (l : Ladder) (n : ℕ) (fs : List ℕ) {f d b : List ℕ} → f ≡ fs → d ≡ data_of n → b ≡ replicate n 0 → whole_text f (whole_of f d l b) ≡ start_text l n fs
unfolding start_text
lent_text l n fs p q r i = whole_text (p i) (whole_of (p i) (q i) l (r i))

-- buffers of k fates and of m bytes
pub in_buffers : (k m n : ℕ) (l : Ladder) (fs : List Fate) {j : ℕ} {f d : List ℕ} → n ≤ m → (j ≡ length fs) × (f ≡ placed (replicate k 0) 0 (map fate_number fs)) → d ≡ data_of (length (replicate {A = ℕ} m 0)) → whole_text (take j f) (whole_of (take j f) (take n d) l (take n (replicate m 0))) ≡ start_text l n (map fate_number fs)
in_buffers k m n l fs h p q = lent_text l n (map fate_number fs) (gathered_taken fs (replicate k 0) p.0 p.1) (data_taken n m h (q ∙ ap data_of (length-replicate {A = ℕ} m 0))) (take-replicate n m 0 h)
