-- Frames that nothing refuses and that need no fill: the writer's short way. The law is proved in proofs/FullFrame.antt.
use Rattle.std.specs.Prelude.{ℕ, ◌+◌, ◌%◌, List, [], ◌∷◌, Bool, true, ◌≡◌, length, leb, eqb}
use Rattle.status.specs.Pick.{pick, all}
use Rattle.status.specs.Result.{Result}
use Rattle.frame.specs.Format.{encode}
use Rattle.frame.specs.Write.{writable, write_answer, over}
use Rattle.frame.specs.declared.types.Header.{Header}

-- the writer takes header and IU of n bytes, which is a multiple of four, and the frame fits
abbrev pub full : Header → ℕ → ℕ → List Bool
full h n room = writable h n ∷ eqb (n % 4) 0 ∷ leb (24 + n) room ∷ []

unfoldable pub is_full : Header → ℕ → ℕ → Bool
is_full h n room = all (full h n room)

-- the output buffer after it: any other frame changes no byte
abbrev pub put_full : Header → List ℕ → List ℕ → List ℕ
put_full h iu out = pick (is_full h (length iu) (length out)) (over (encode h iu) out) out

-- such a frame is what the writer writes
abbrev pub IsTheFrame : Type 0
IsTheFrame = (h : Header) (iu out : List ℕ) → is_full h (length iu) (length out) ≡ true → (write_answer h iu out ≡ Result.value (24 + length iu)) × (length (encode h iu) ≡ 24 + length iu)
