-- "An XFER_RDY IU is requested offset (4 bytes), write data length (4), reserved (4)."
use Rattle.std.specs.Prelude.{ℕ, List, [], ◌∷◌, ◌++◌, length, ltb}
use Rattle.status.specs.Pick.{pick}
use Rattle.status.specs.Result.{Result}
use Rattle.frame.specs.Format.{digits, field}
use Rattle.frame.specs.declared.types.XferRdy.{XferRdy}

unfoldable pub xfer_rdy_bytes : XferRdy → List ℕ
xfer_rdy_bytes x = digits 4 x.offset ++ digits 4 x.len ++ (0 ∷ 0 ∷ 0 ∷ 0 ∷ [])

-- 23 and 24: "under, over 12 bytes"
unfoldable pub xfer_rdy_of : List ℕ → Result XferRdy
xfer_rdy_of iu =
    pick (ltb (length iu) 12) (Result.number 23)
    (pick (ltb 12 (length iu)) (Result.number 24) (Result.value (record { offset = field iu 0 4; len = field iu 4 4 })))
