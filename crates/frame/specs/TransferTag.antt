-- Request K7, TPTT, bytes 18 and 19: frames that differ at most in these bytes. That the roles that ignore it take them alike is stated in link specs/TakenAlike.
use Rattle.std.specs.Prelude.{ℕ, List, ◌≡◌, ◌≢◌, length, get_or}
use Rattle.frame.specs.Format.{encode}
use Rattle.frame.specs.declared.types.Header.{Header}

pub record SameButTptt (f g : List ℕ) : Type 0 where
  pub size : length f ≡ length g
  pub others : (i : ℕ) → i ≢ 18 → i ≢ 19 → get_or f i 0 ≡ get_or g i 0

-- a header with n for its TPTT
abbrev pub tptt≔ : ℕ → Header → Header
tptt≔ n h = record { frametype = h.frametype; dest = h.dest; source = h.source; flags = h.flags; tag = h.tag; tptt = n; offset = h.offset }

-- such are the frames written for two headers that differ only there; proved in proofs/TransferTag.antt
abbrev pub WrittenSo : Type 0
WrittenSo = (h : Header) (n : ℕ) (iu : List ℕ) → SameButTptt (encode h iu) (encode (tptt≔ n h) iu)
