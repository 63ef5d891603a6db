-- Frames that nothing refuses and that need no fill: what the test gives, and how header and IU make one.
use Prim.Native.Nat.{ℕ, ◌+◌, ◌%◌, ◌≤◌}
use mathlib.Core.List.{List, ◌++◌, append-nil}
use mathlib.Core.Bool.{Bool, true, false, not, ◌&&◌}
use mathlib.Core.Path.{◌≡◌, refl, sym, ap, ◌∙◌}
use native.Mathlib.Omega.{arith}
use lib.Dec.{leb, eqb}
use lib.ListN.{length}
use borrow.Author.Tests.{leb-true, eqb-true, not-false}
use Rattle.status.specs.Result.{Result}
use Rattle.status.proofs.Choose.{each, in_true}
use Rattle.frame.specs.Format.{fill_of, header_bytes, data_bytes, encode}
use Rattle.frame.specs.Write.{writable, over, placed}
use Rattle.frame.specs.Full.{full, is_full, put_full, IsTheFrame}
use Rattle.frame.specs.declared.types.Header.{Header}
use Rattle.frame.proofs.Place.{at_front, placed_behind}
use Rattle.frame.proofs.Writer.{header_length, encode_length, takes}
use Rattle.frame.proofs.RoundTrip.{Writable, writable_gives}

pub record Full (h : Header) (n room : ℕ) : Type 0 where
  pub taken : writable h n ≡ true
  pub bounds : Writable h n
  pub fours : n % 4 ≡ 0
  pub fits : 24 + n ≤ room

pub full_gives : (h : Header) (n room : ℕ) → is_full h n room ≡ true → Full h n room
unfolding is_full
full_gives h n room e =
    let t = each (full h n room) e in
    record { taken = t.0; bounds = writable_gives h n t.0; fours = eqb-true _ _ t.1.0; fits = leb-true _ _ t.1.1.0 }

-- what the code's test says of it
module _ (h : Header) (n room : ℕ) {w : Bool} (e : w ≡ writable h n) where
  pub is_full_lem : not (w && eqb (n % 4) 0 && leb (24 + n) room) ≡ false → is_full h n room ≡ true
  unfolding is_full
  is_full_lem t = ap (λ (v : Bool). v && eqb (n % 4) 0 && leb (24 + n) room) (sym e) ∙ not-false _ t

-- without fill
pub no_fill : (h : Header) (iu : List ℕ) → length iu % 4 ≡ 0 → encode h iu ≡ header_bytes h 0 ++ iu
unfolding encode data_bytes
no_fill h iu fours =
    let z : fill_of (length iu) ≡ 0 = omega arith in
    rw z (ap (λ (v : List ℕ). header_bytes h 0 ++ v) (append-nil iu))

pub is_the_frame : IsTheFrame
is_the_frame h iu out e =
    let f = full_gives h (length iu) (length out) e in
    let m = f.fours in
    let r = f.fits in
    let l : length (encode h iu) ≡ 24 + length iu = omega (arith, encode_length h iu) in
    let k : fill_of (length iu) ≡ 0 = omega arith in
    let a = takes h (length iu) (length out) 0 (sym k) f.taken (omega arith) iu out refl refl in
    (sym a ∙ ap (λ (n : ℕ). Result.value n) (omega arith), l)

-- what the code leaves: header, then IU
module _ (h : Header) (iu out : List ℕ) where
  pub both_put : {x y : List ℕ} → is_full h (length iu) (length out) ≡ true → x ≡ placed out 0 (header_bytes h 0) → y ≡ placed x 24 iu → y ≡ put_full h iu out
  both_put {x} {y} e ex ey =
      let f = full_gives h (length iu) (length out) e in
      let p : placed (placed out 0 (header_bytes h 0)) 24 iu ≡ placed out 0 (header_bytes h 0 ++ iu) =
      ap (λ (k : ℕ). placed (placed out 0 (header_bytes h 0)) k iu) (omega (arith, header_length h 0)) ∙ placed_behind out (header_bytes h 0) 0 (omega arith) iu in
      in_true _ _ _ _ e (ey ∙ ap (λ (v : List ℕ). placed v 24 iu) ex ∙ p ∙ at_front _ out ∙ ap (λ (v : List ℕ). over v out) (sym (no_fill h iu f.fours)))
