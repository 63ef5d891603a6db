-- Request K8, TLR CONTROL, bits 4 and 3 of byte 10: frames that differ at most in these bits. That each role takes them alike is stated in
-- link specs/TakenAlike.
use Rattle.std.specs.Prelude.{ℕ, ◌/◌, ◌%◌, List, ◌≡◌, ◌≢◌, length, get_or}
use Rattle.frame.specs.Format.{encode}
use Rattle.frame.specs.declared.types.Header.{Header}

pub record SameButTlr (f g : List ℕ) : Type 0 where
  pub size : length f ≡ length g
  pub others : (i : ℕ) → i ≢ 10 → get_or f i 0 ≡ get_or g i 0
  -- byte 10: bits 7 to 5, and the flags
  pub above : get_or f 10 0 / 32 ≡ get_or g 10 0 / 32
  pub below : get_or f 10 0 % 8 ≡ get_or g 10 0 % 8

-- a header with n for its TLR CONTROL
abbrev pub tlr≔ : ℕ → Header → Header
tlr≔ n h = record { frametype = h.frametype; dest = h.dest; source = h.source; flags = record { tlr = n; retry = h.flags.retry; retransmit = h.flags.retransmit; cdp = h.flags.cdp }; tag = h.tag; tptt = h.tptt; offset = h.offset }

-- such are the frames written for two headers that differ only there; proved in proofs/TlrControl.antt
abbrev pub WrittenSo : Type 0
WrittenSo = (h : Header) (n : ℕ) (iu : List ℕ) → SameButTlr (encode h iu) (encode (tlr≔ n h) iu)
