-- Frames that differ at most in TPTT: the writer makes them.
use mathlib.Core.Path.{sym, ◌∙◌}
use lib.ListN.{take, drop}
use Rattle.frame.specs.Format.{header_bytes, encode}
use Rattle.frame.specs.TransferTag.{tptt≔, WrittenSo}
use Rattle.frame.proofs.Writer.{encode_length}
use Rattle.frame.proofs.Alike.{apart}

pub tag_written_so : WrittenSo
unfolding encode header_bytes
tag_written_so h n iu =
    let f = encode h iu in
    record {
      size = encode_length h iu ∙ sym (encode_length (tptt≔ n h) iu);
      others = λ i a b. apart (take 18 f) (drop 19 f) _ _ i a ∙ apart (take 19 (encode (tptt≔ n h) iu)) (drop 20 f) _ _ i b;
    }
