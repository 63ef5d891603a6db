-- Text that was tried in a buffer, and what the public printers make of it.
use Rattle.std.specs.Prelude.{Option, Some, None, Result}
use Prim.Native.Nat.{ℕ, ◌+◌, ◌≤◌, ◌<◌}
use mathlib.Core.Bool.{Bool, true, false}
use mathlib.Core.List.{List}
use mathlib.Core.Path.{◌≡◌, refl, sym, ap, subst, ◌∙◌}
use native.Mathlib.Nat.{zero-add}
use native.Mathlib.Omega.{arith}
use borrow.Author.Tests.{leb-true, le-leb, lt-leb}
use lib.ListN.{length, take, replicate}
use lib.Seq.{length-take-le}
use lib.Dec.{leb}
use Rattle.status.specs.Pick.{pick}
use Rattle.status.proofs.Choose.{in_true, in_false}
use Rattle.ladder_text.specs.Place.{placed, Puts, Placed}
use Rattle.ladder_text.specs.declared.types.RunFile.{RunFile}
use Rattle.ladder_text.specs.declared.types.Misfit.{Misfit}
use Rattle.ladder_text.specs.RunFile.{file_of}
use Rattle.ladder_text.proofs.Place.{placed_length}
use Rattle.ladder_print.proofs.Behind.{put_room, put_short}
use Rattle.ladder_print.specs.Text.{TEXT-MOST, of_file, text_of, Prints}
use Rattle.ladder_print.specs.Room.{PrintsIfRoom, Tries}

pub tries_text : {t d : List ℕ} {n : ℕ} {e : List ℕ} → Puts d 0 t n e → n ≤ TEXT-MOST → Tries t d (Some n) e
tries_text {t} {d} {n} {e} p m =
    record {
      text = λ k q. (let s : n ≡ k = cc in subst (λ (v : ℕ). Puts d 0 t v e × (v ≤ TEXT-MOST)) s (p, m));
      short = λ q. (let z : ◌≡◌ {A = ℕ} 0 1 = cc in absurd (omega arith));
    }

pub tries_short : {t d e : List ℕ} → (length d < TEXT-MOST) × (length d < length t + 64) → Tries t d None e
tries_short m =
    record {
      text = λ k q. (let z : ◌≡◌ {A = ℕ} 0 1 = cc in absurd (omega arith));
      short = λ q. m;
    }

-- a line at the front, or no room for it
pub tries_line : (t d : List ℕ) {r : Option ℕ} {e : List ℕ} → length t ≤ 64 → Placed d 0 t r e → Tries t d r e
tries_line t d {r = Some n} m q = let p = put_room d 0 t q refl in tries_text p.1 (omega (arith, p.1.0))
tries_line t d {r = None} m q = let p = put_short d 0 t q refl in tries_short (omega arith, omega arith)

-- another text that is the same
pub tries_as : {t u d : List ℕ} {r : Option ℕ} {e : List ℕ} → t ≡ u → Tries t d r e → Tries u d r e
tries_as {d = d} {r = r} {e = e} p h = subst (λ (v : List ℕ). Tries v d r e) p h

pub tries_file : (b : List ℕ) {d : List ℕ} {f : Result RunFile Misfit} {r : Option ℕ} {e : List ℕ} → f ≡ file_of b → Tries (of_file f b) d r e → Tries (text_of b) d r e
unfolding text_of
tries_file b p h = tries_as (ap (λ (v : Result RunFile Misfit). of_file v b) p) h

-- the length that is answered is the text's
text_length : {t d : List ℕ} {r : Option ℕ} {n : ℕ} {e : List ℕ} → Tries t d r e → r ≡ Some n → n ≡ length t
text_length {t} {n = n} h q = (h.text n q).0.0 ∙ zero-add (length t)

-- ── room for every ladder ──
pub no_room : (t d : List ℕ) → length d < TEXT-MOST → Prints t d None d
no_room t d h =
    let f = lt-leb TEXT-MOST (length d) h in
    record { answer = in_false _ _ _ _ f refl; left = in_false _ _ _ _ f refl; fits = λ m. absurd (omega arith) }

pub printed : {t d : List ℕ} (r : Option ℕ) {e : List ℕ} → TEXT-MOST ≤ length d → Tries t d r e → Prints t d r e
printed {t} {d} (Some n) m h =
    let f = le-leb TEXT-MOST (length d) m in
    let p = h.text n refl in
    let l = text_length h refl in
    record { answer = in_true _ _ _ _ f (ap Some l); left = in_true _ _ _ _ f p.0.1; fits = λ q. omega (arith, l, p.1) }
printed None m h = absurd (omega (arith, (h.short refl).0))

-- who has room is answered how much
pub within : {t d : List ℕ} {r : Option ℕ} {e : List ℕ} {n : ℕ} → Prints t d r e → TEXT-MOST ≤ length d → r ≡ Some n → n ≤ TEXT-MOST
within {t} {d} {r} {n = n} p m q =
    let a : Some n ≡ Some (length t) = sym q ∙ p.answer ∙ sym (in_true _ _ _ _ (le-leb TEXT-MOST (length d) m) refl) in
    let l : n ≡ length t = cc in
    omega (arith, l, p.fits m)

-- and the text is there
pub text_taken : {t d : List ℕ} {r : Option ℕ} {e : List ℕ} {n : ℕ} → Prints t d r e → TEXT-MOST ≤ length d → r ≡ Some n → n ≡ length (take n e)
text_taken {t} {d} {e = e} {n = n} p m q =
    let f : e ≡ placed d 0 t = p.left ∙ sym (in_true _ _ _ _ (le-leb TEXT-MOST (length d) m) refl) in
    let l : length e ≡ length d = ap length f ∙ placed_length d 0 t (omega (arith, p.fits m)) in
    sym (length-take-le n e (omega (arith, l, within p m q)))

-- ── room for this text ──
module _ {t d : List ℕ} {r : Option ℕ} {e : List ℕ} (h : Tries t d r e) where
  pub if_room : (n : ℕ) → r ≡ Some n → n + 64 ≤ length d → PrintsIfRoom t d (Some n) e
  if_room n q m =
      let l : n ≡ length t = text_length h q in
      let f = le-leb (length t + 64) (length d) (omega (arith, l)) in
      record { answer = in_true _ _ _ _ f (ap Some l); left = in_true _ _ _ _ f (h.text n q).0.1 }

  cleared : length d < length t + 64 → {z : List ℕ} → z ≡ replicate (length e) 0 → length e ≡ length d → PrintsIfRoom t d None z
  cleared m p q =
      let f = lt-leb (length t + 64) (length d) m in
      record { answer = in_false _ _ _ _ f refl; left = in_false _ _ _ _ f (p ∙ ap (λ (v : ℕ). replicate v 0) q) }

  pub too_long : (n : ℕ) → r ≡ Some n → length d < n + 64 → {z : List ℕ} → z ≡ replicate (length e) 0 → length e ≡ length d → PrintsIfRoom t d None z
  too_long n q m = cleared (let l : n ≡ length t = text_length h q in omega (arith, l))

  pub too_short : r ≡ None → {z : List ℕ} → z ≡ replicate (length e) 0 → length e ≡ length d → PrintsIfRoom t d None z
  too_short q = cleared (h.short q).1

-- what is answered fits
pub room_within : {t d : List ℕ} {r : Option ℕ} {e : List ℕ} {n : ℕ} → PrintsIfRoom t d r e → r ≡ Some n → (n ≤ length d) × (n ≡ length (take n e))
unfolding pick
room_within {t} {d} {r} {e} {n} p q = go (leb (length t + 64) (length d)) refl p.answer p.left
  where
    go : (b : Bool) → leb (length t + 64) (length d) ≡ b → r ≡ pick b (Some (length t)) None → e ≡ pick b (placed d 0 t) (replicate (length d) 0) → (n ≤ length d) × (n ≡ length (take n e))
    go true f a s =
        let m = leb-true (length t + 64) (length d) f in
        let same : Some n ≡ Some (length t) = sym q ∙ a in
        let l : n ≡ length t = cc in
        let k : length e ≡ length d = ap length s ∙ placed_length d 0 t (omega arith) in
        (omega (arith, l), sym (length-take-le n e (omega (arith, l, k))))
    go false f a s = let z : ◌≡◌ {A = ℕ} 0 1 = cc in absurd (omega arith)
