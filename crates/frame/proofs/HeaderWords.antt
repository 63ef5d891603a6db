-- The header as six words put down one behind the other.
use Prim.Native.Nat.{ℕ, zero, suc, ◌+◌, ◌*◌, ◌/◌, ◌^◌, ◌<◌}
use mathlib.Core.List.{List, [], ◌∷◌, ◌++◌}
use mathlib.Core.Path.{◌≡◌, refl, sym, ap, ◌∙◌}
use native.Mathlib.Nat.{add-zero}
use native.Mathlib.Omega.{arith}
use lib.ListN.{length}
use lib.Seq.{take-length}
use Rattle.frame.specs.Format.{digits, flag_byte, header_bytes}
use Rattle.frame.specs.Write.{placed}
use Rattle.frame.specs.Words.{little, word}
use Rattle.frame.specs.RoundTrip.{Bytes}
use Rattle.frame.specs.declared.types.Header.{Header}
use Rattle.frame.proofs.Place.{none_placed, placed_behind}
use Rattle.frame.proofs.Little.{little_word}

-- a list of bytes, by its elements
abbrev pub Small : List ℕ → Type 0
Small [] = Unit {0}
Small (x ∷ l) = (x < 256) × Small l

pub small_bytes : (l : List ℕ) → Small l → Bytes l
small_bytes [] s i = omega arith
small_bytes (x ∷ l) s zero = s.0
small_bytes (x ∷ l) s (suc i) = small_bytes l s.1 i

pub little_list : (l : List ℕ) → Small l → little (length l) (word l 0 (length l)) ≡ l
little_list l s = little_word l (small_bytes l s) 0 (length l) (omega arith) ∙ take-length l

-- the word of the bytes l put down behind p
behind : (d p l : List ℕ) {w : ℕ} {x y : List ℕ} → Small l → w ≡ word l 0 (length l) → x ≡ placed d 0 p → y ≡ placed x (0 + length p) (little (length l) w) → y ≡ placed d 0 (p ++ l)
behind d p l {w} {x} s ew ex ey = ey ∙ ap (placed x (0 + length p)) (ap (little (length l)) ew ∙ little_list l s) ∙ ap (λ (v : List ℕ). placed v (0 + length p) l) ex ∙ placed_behind d p 0 (omega arith) l

-- type and destination, source, and two fields of two bytes
pub with_type : (t x : ℕ) → x < 2 ^ 24 → word (digits 4 x) 0 4 + t ≡ word (t ∷ digits 3 x) 0 4
unfolding word
with_type t x small = let z : x / 256 / 256 / 256 ≡ 0 = omega arith in rw z (omega arith)

pub type_fits : (t x : ℕ) → t < 256 → x < 2 ^ 24 → word (digits 4 x) 0 4 + t < 2 ^ 32
unfolding word
type_fits t x byte small = let z : x / 256 / 256 / 256 ≡ 0 = omega arith in rw z (omega arith)

-- the same of any number, its fourth byte left out
in_its_place : (t x : ℕ) → word (digits 4 x) 0 4 / 256 * 256 + t ≡ word (t ∷ digits 3 x) 0 4
unfolding word
in_its_place t x = omega arith

pub both_fields : (x y : ℕ) → word (digits 2 x) 0 2 + word (digits 2 y) 0 2 * 65536 ≡ word (digits 2 x ++ digits 2 y) 0 4
unfolding word
both_fields x y = omega arith

flags_and_fill : (x y : ℕ) → x * 65536 + y * 16777216 ≡ word (0 ∷ 0 ∷ x ∷ y ∷ []) 0 4
unfolding word
flags_and_fill x y = omega arith

none : 0 ≡ word (0 ∷ 0 ∷ 0 ∷ 0 ∷ []) 0 4
unfolding word
none = refl

module _ (h : Header) (fill : ℕ) (frametype : h.frametype < 256) (flags : flag_byte h.flags < 256) (fills : fill < 256) where
  abbrev first : List ℕ
  first = h.frametype ∷ digits 3 h.dest

  abbrev second : List ℕ
  second = first ++ 0 ∷ digits 3 h.source

  abbrev third : List ℕ
  third = second ++ 0 ∷ 0 ∷ flag_byte h.flags ∷ fill ∷ []

  abbrev fourth : List ℕ
  fourth = third ++ 0 ∷ 0 ∷ 0 ∷ 0 ∷ []

  abbrev fifth : List ℕ
  fifth = fourth ++ digits 2 h.tag ++ digits 2 h.tptt

  pub laid : (d : List ℕ) {to from flag tag tptt offset : ℕ} {u v w x y z : List ℕ} →
      to ≡ word (digits 4 h.dest) 0 4 → u ≡ placed d 0 (little 4 (to / 256 * 256 + h.frametype)) →
      from ≡ word (digits 4 h.source) 0 4 → v ≡ placed u 4 (little 4 (from / 256 * 256)) →
      flag ≡ flag_byte h.flags → w ≡ placed v 8 (little 4 (flag * 65536 + fill * 16777216)) →
      x ≡ placed w 12 (little 4 0) →
      tag ≡ word (digits 2 h.tag) 0 2 → tptt ≡ word (digits 2 h.tptt) 0 2 → y ≡ placed x 16 (little 4 (tag + tptt * 65536)) →
      offset ≡ word (digits 4 h.offset) 0 4 → z ≡ placed y 20 (little 4 offset) →
      z ≡ placed d 0 (header_bytes h fill)
  unfolding header_bytes
  laid d to u from v flag w x tag tptt y offset z =
      let a = ap (λ (n : ℕ). n / 256 * 256 + h.frametype) to ∙ in_its_place h.frametype h.dest in
      let b = ap (λ (n : ℕ). n / 256 * 256) from ∙ sym (add-zero _) ∙ in_its_place 0 h.source in
      let c = ap (λ (n : ℕ). n * 65536 + fill * 16777216) flag ∙ flags_and_fill _ _ in
      let e = (λ i. tag i + tptt i * 65536) ∙ both_fields h.tag h.tptt in
      let p1 = behind d [] first (omega arith) a (none_placed d 0) u in
      let p2 = behind d first (0 ∷ digits 3 h.source) (omega arith) b p1 v in
      let p3 = behind d second (0 ∷ 0 ∷ flag_byte h.flags ∷ fill ∷ []) (omega arith) c p2 w in
      let p4 = behind d third (0 ∷ 0 ∷ 0 ∷ 0 ∷ []) (omega arith) none p3 x in
      let p5 = behind d fourth (digits 2 h.tag ++ digits 2 h.tptt) (omega arith) e p4 y in
      behind d fifth (digits 4 h.offset) (omega arith) offset p5 z
