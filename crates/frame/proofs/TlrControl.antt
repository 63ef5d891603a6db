-- Frames that differ at most in TLR CONTROL: the reader gives the same of both but for that field, and the writer makes them.
use Prim.Native.Nat.{ℕ, ◌+◌, ◌/◌, ◌%◌}
use mathlib.Core.List.{List}
use mathlib.Core.Bool.{Bool, true, false}
use mathlib.Core.Path.{◌≡◌, refl, sym, ◌∙◌}
use native.Mathlib.Omega.{arith}
use lib.Dec.{eqb}
use lib.ListN.{get_or, take, drop}
use Rattle.status.specs.Pick.{pick}
use Rattle.status.specs.Result.{Result}
use Rattle.frame.specs.Format.{is_type, flag_byte, flags_of, header_bytes, encode}
use Rattle.frame.specs.Read.{header_in, well_formed, parsed, decode}
use Rattle.frame.specs.TlrControl.{SameButTlr, tlr≔, WrittenSo}
use Rattle.frame.specs.declared.types.Parsed.{Parsed}
use Rattle.frame.proofs.Bits.{bit_small}
use Rattle.frame.proofs.Writer.{encode_length}
use Rattle.frame.proofs.Alike.{Alike, tlr_alike, field_same, apart, type_same, dest_same, source_same, tag_same, offset_same, length_same, form_same}

-- a frame read and the reader's answer with another TLR CONTROL
abbrev pub parsed≔ : ℕ → Parsed → Parsed
parsed≔ n p = record { header = tlr≔ n p.header; start = p.start; len = p.len }

abbrev pub read≔ : ℕ → Result Parsed → Result Parsed
read≔ n (Result.number k) = Result.number k
read≔ n (Result.value p) = Result.value (parsed≔ n p)

module _ (f g : List ℕ) (s : SameButTlr f g) where
  same : Alike f g
  same = tlr_alike f g s

  header_same : tlr≔ (header_in g).flags.tlr (header_in f) ≡ header_in g
  unfolding header_in flags_of
  header_same =
      let l = s.below in
      let retry : get_or f 10 0 / 4 % 2 ≡ get_or g 10 0 / 4 % 2 = omega arith in
      let retransmit : get_or f 10 0 / 2 % 2 ≡ get_or g 10 0 / 2 % 2 = omega arith in
      let cdp : get_or f 10 0 % 2 ≡ get_or g 10 0 % 2 = omega arith in
      λ i. record {
        frametype = type_same f g same i;
        dest = dest_same f g same i;
        source = source_same f g same i;
        flags = record { tlr = get_or g 10 0 / 8 % 4; retry = eqb (retry i) 1; retransmit = eqb (retransmit i) 1; cdp = eqb (cdp i) 1 };
        tag = tag_same f g same i;
        tptt = field_same f g 18 2 (λ k l. s.others (18 + k) (λ e. omega arith)) i;
        offset = offset_same f g same i;
      }

  pub read_alike : decode g ≡ read≔ (header_in g).flags.tlr (decode f)
  unfolding decode pick
  read_alike = sym (go (well_formed f) (is_type (get_or f 0 0)) ∙ λ i. pick (form_same f g same i) (pick (is_type (type_same f g same i)) (Result.value (record { header = header_same i; start = 24; len = length_same f g same i })) (Result.number 6)) (Result.number 5))
    where
      n : ℕ
      n = (header_in g).flags.tlr

      go : (t u : Bool) → read≔ n (pick t (pick u (Result.value (parsed f)) (Result.number 6)) (Result.number 5)) ≡ pick t (pick u (Result.value (parsed≔ n (parsed f))) (Result.number 6)) (Result.number 5)
      go true true = refl
      go true false = refl
      go false u = refl

pub written_so : WrittenSo
unfolding encode header_bytes flag_byte
written_so h n iu =
    let p = bit_small h.flags.retry in
    let q = bit_small h.flags.retransmit in
    let r = bit_small h.flags.cdp in
    record {
      size = encode_length h iu ∙ sym (encode_length (tlr≔ n h) iu);
      others = apart (take 10 (encode h iu)) (drop 11 (encode h iu)) _ _;
      above = omega arith;
      below = omega arith;
    }
