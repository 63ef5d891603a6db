-- Of an XFER_RDY's header the initiator of a write looks at TPTT, RETRY DATA FRAMES and RETRANSMIT alone: two that agree there are taken alike.
use Prim.Native.Nat.{ℕ, ◌+◌}
use mathlib.Core.List.{List}
use mathlib.Core.Bool.{Bool}
use mathlib.Core.Path.{◌≡◌, refl, ap, ◌∙◌}
use Rattle.status.specs.Answer.{Taking, Said}
use Rattle.status.specs.Result.{Result}
use Rattle.frame.specs.XferRdy.{xfer_rdy_of}
use Rattle.frame.specs.declared.types.Header.{Header}
use Rattle.frame.specs.declared.types.XferRdy.{XferRdy}
use Rattle.initiator.specs.WriteTake.{disposition_of, limit_of, next_taken, burst_taken, judged_by, sized_by, xfer_rdy_taken}
use Rattle.initiator.specs.declared.types.XferRdyDisposition.TheVariants.{Next, Repeat}
use Rattle.initiator.specs.declared.types.Writer.{Writer}
use Rattle.std.specs.Prelude.{Ok, Err}
use Rattle.initiator.specs.WriteTake.{Disposition}

module _ (w : Writer) (h k : Header) (tptt : h.tptt ≡ k.tptt) (retry : h.flags.retry ≡ k.flags.retry) (retransmit : h.flags.retransmit ≡ k.flags.retransmit) where
  judged : (v : Disposition) (x : XferRdy) → judged_by v w h x ≡ judged_by v w k x
  judged (Err why) x = refl
  judged (Ok Next) x = λ i. burst_taken w (record { base = x.offset; end = x.offset + x.len; tptt = tptt i; limit = limit_of w (retry i) }) (next_taken w)
  judged (Ok Repeat) x = λ i. burst_taken w (record { base = x.offset; end = x.offset + x.len; tptt = tptt i; limit = limit_of w (retry i) }) (Said.xfer_rdy Taking.repeats)

  sized : (o : Result XferRdy) → sized_by o w h ≡ sized_by o w k
  sized (Result.number n) = refl
  sized (Result.value x) = judged (disposition_of w x h.flags.retransmit) x ∙ ap (λ (b : Bool). judged_by (disposition_of w x b) w k x) retransmit

  pub xfer_rdy_alike : (iu : List ℕ) → xfer_rdy_taken w h iu ≡ xfer_rdy_taken w k iu
  unfolding xfer_rdy_taken
  xfer_rdy_alike iu = sized (xfer_rdy_of iu)
