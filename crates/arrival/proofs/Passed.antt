-- A frame that has passed 5 to 8: what is known of it, and that one written for this port passes as it was written.
use Prim.Native.Nat.{ℕ, ◌+◌, ◌-◌, ◌≤◌}
use mathlib.Core.List.{List}
use mathlib.Core.Bool.{Bool, true, false, not, ◌||◌}
use mathlib.Core.Path.{◌≡◌, refl, sym, ap, ◌∙◌}
use native.Mathlib.Omega.{arith}
use lib.Dec.{eqb}
use Rattle.std.specs.Prelude.{Option, Some, None}
use lib.ListN.{length, take, drop, length-take, length-drop}
use borrow.Author.Tests.{eq-eqb}
use Rattle.status.specs.Pick.{pick}
use Rattle.status.specs.Result.{Result}
use Rattle.status.proofs.OpenedCall.{differ}
use Rattle.transfer.specs.declared.Transfer.{Transfer}
use Rattle.frame.specs.Format.{is_type, encode}
use Rattle.frame.specs.Read.{decode, header_in, well_formed, iu_length, iu_of, parsed}
use Rattle.frame.specs.Write.{writable}
use Rattle.frame.specs.RoundTrip.{InRange}
use Rattle.frame.specs.declared.types.Header.{Header}
use Rattle.frame.specs.declared.types.Parsed.{Parsed}
use Rattle.frame.proofs.RoundTrip.{accepted, comes_back}
use Rattle.frame.proofs.Formed.{formed}
use Rattle.arrival.specs.Accept.{class_of, screen_of, screened, accept_of}
use Rattle.arrival.specs.declared.Role.{Role}
use Rattle.arrival.specs.declared.Class.{Class}
use Rattle.arrival.specs.declared.Arrived.{Arrived}

-- the frame that the bytes f are, taken for that class
abbrev pub arrived_in : Class → List ℕ → Arrived
arrived_in class f = record { class = class; header = header_in f; start = 24; len = iu_length f }

pub record Passed (role : Role) (f : List ℕ) (a : Arrived) : Type 0 where
  pub is : arrived_in a.class f ≡ a
  pub class : class_of role (header_in f).frametype ≡ Some a.class
  pub inside : 24 + iu_length f ≤ length f

module _ (t : Transfer) where
  -- 6, 7 and 8 are not met
  record Screened (k : Option Class) (p : Parsed) (a : Arrived) : Type 0 where
    is : record { class = a.class; header = p.header; start = p.start; len = p.len } ≡ a
    class : k ≡ Some a.class
    address : (not (eqb p.header.dest t.local) || not (eqb p.header.source t.remote)) ≡ false
    tag : not (eqb p.header.tag t.tag) ≡ false

  screen_passed : (k : Option Class) (p : Parsed) (a : Arrived) → screen_of t k p ≡ Result.value a → Screened k p a
  unfolding screen_of pick
  screen_passed None p a e = differ (cc)
  screen_passed (Some k) p a e = go (not (eqb p.header.dest t.local) || not (eqb p.header.source t.remote)) (not (eqb p.header.tag t.tag)) refl refl e
    where
      go : (y z : Bool) → (not (eqb p.header.dest t.local) || not (eqb p.header.source t.remote)) ≡ y → not (eqb p.header.tag t.tag) ≡ z → pick y (Result.number 7) (pick z (Result.number 8) (Result.value (record { class = k; header = p.header; start = p.start; len = p.len }))) ≡ Result.value a → Screened (Some k) p a
      go false false c d e =
          let v : record { class = k; header = p.header; start = p.start; len = p.len } ≡ a = cc in
          let n : k ≡ a.class = ap (λ (b : Arrived). b.class) v in
          record { is = ap (λ (c : Class). record { class = c; header = p.header; start = p.start; len = p.len }) (sym n) ∙ v; class = ap (λ (c : Class). Some c) n; address = c; tag = d }
      go false true c d e = differ (cc)
      go true z c d e = differ (cc)

  pub passed : (role : Role) (f : List ℕ) (a : Arrived) → accept_of role t f ≡ Result.value a → Passed role f a
  unfolding accept_of
  passed role f a e = go (decode f) refl e
    where
      go : (x : Result Parsed) → decode f ≡ x → screened x role t ≡ Result.value a → Passed role f a
      go (Result.number n) d e = differ (cc)
      go (Result.value p) d e =
          let q = accepted f p d in
          let b = formed f q.form in
          let s = screen_passed (class_of role (header_in f).frametype) (parsed f) a (ap (λ (v : Parsed). screen_of t (class_of role v.header.frametype) v) q.is ∙ e) in
          record { is = s.is; class = s.class; inside = omega (arith, b.least, b.fill) }

  -- a frame passes where one of the same form, type, addresses and tag does
  pub same_passes : (role : Role) (f g : List ℕ) (a : Arrived) → well_formed g ≡ well_formed f → (header_in g).frametype ≡ (header_in f).frametype → (header_in g).dest ≡ (header_in f).dest → (header_in g).source ≡ (header_in f).source → (header_in g).tag ≡ (header_in f).tag → accept_of role t f ≡ Result.value a → accept_of role t g ≡ Result.value (arrived_in a.class g)
  unfolding accept_of decode screen_of header_in pick
  same_passes role f g a form frametype dest source tag e = go (decode f) refl e
    where
      go : (x : Result Parsed) → decode f ≡ x → screened x role t ≡ Result.value a → accept_of role t g ≡ Result.value (arrived_in a.class g)
      go (Result.number n) d e = differ (cc)
      go (Result.value p) d e =
          let q = accepted f p d in
          let s = screen_passed (class_of role (header_in f).frametype) (parsed f) a (ap (λ (v : Parsed). screen_of t (class_of role v.header.frametype) v) q.is ∙ e) in
          rw (form ∙ q.form, ap is_type frametype ∙ q.frametype, ap (λ (k : ℕ). class_of role k) frametype ∙ s.class, (λ i. not (eqb (dest i) t.local) || not (eqb (source i) t.remote)) ∙ s.address, ap (λ (n : ℕ). not (eqb n t.tag)) tag ∙ s.tag)

  -- a frame that was written for this port
  module _ (role : Role) (h : Header) (iu : List ℕ) (k : Class) (e : class_of role h.frametype ≡ Some k) (d : h.dest ≡ t.local) (s : h.source ≡ t.remote) (g : h.tag ≡ t.tag) (r : InRange h) (w : writable h (length iu) ≡ true) where
    pub written_passes : accept_of role t (encode h iu) ≡ Result.value (record { class = k; header = h; start = 24; len = length iu })
    unfolding accept_of screen_of pick
    written_passes = rw ((comes_back h iu r w).0, e, eq-eqb _ _ d, eq-eqb _ _ s, eq-eqb _ _ g)

-- what was written stands in the bytes
pub written_stands : (h : Header) (iu : List ℕ) → InRange h → writable h (length iu) ≡ true → (header_in (encode h iu) ≡ h) × (iu_length (encode h iu) ≡ length iu) × (iu_of (encode h iu) ≡ iu)
written_stands h iu r w =
    let b = comes_back h iu r w in
    let a = (accepted (encode h iu) _ b.0).is in
    (ap (λ (p : Parsed). p.header) a, ap (λ (p : Parsed). p.len) a, b.1)

-- the part of a frame that the code cuts out
pub part : (start len : ℕ) (f : List ℕ) → take ((start + len) - start) (drop start f) ≡ take len (drop start f)
part start len f = let e : (start + len) - start ≡ len = omega arith in rw e

pub part_length : (start len : ℕ) (f : List ℕ) → start + len ≤ length f → length (take ((start + len) - start) (drop start f)) ≡ len
part_length start len f h = rw (part start len f, length-take, length-drop) (omega arith)
