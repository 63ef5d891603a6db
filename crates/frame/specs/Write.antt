-- The frame writer: what it answers and what it leaves in the output buffer.
use Rattle.std.specs.Prelude.{ℕ, ◌+◌, ◌^◌, List, [], ◌∷◌, ◌++◌, Bool, length, take, drop, ltb, leb}
use Rattle.status.specs.Pick.{pick, if_any, all}
use Rattle.status.specs.Answer.{Said, view, Left, ◌saying◌}
use Rattle.status.specs.Result.{Result}
use Rattle.frame.specs.Format.{is_type, encode}
use Rattle.frame.specs.declared.types.Header.{Header}

-- "the writer 1 (also for another type or an IU over 1,024 bytes)": a hashed address has 24 bits; request K8: TLR CONTROL is 0 to 3, "the writer refuses a larger number by 1"
abbrev pub request : Header → ℕ → List Bool
request h n = is_type h.frametype ∷ ltb h.dest (2 ^ 24) ∷ ltb h.source (2 ^ 24) ∷ ltb h.flags.tlr 4 ∷ leb n 1_024 ∷ []

abbrev pub writable : Header → ℕ → Bool
writable h n = all (request h n)

-- 1, then 3, else the frame's length
abbrev pub write_answer : Header → List ℕ → List ℕ → Result ℕ
write_answer h iu out =
    pick (writable h (length iu))
    (pick (leb (length (encode h iu)) (length out)) (Result.value (length (encode h iu))) (Result.number 3))
    (Result.number 1)

-- what a port x makes of the writer's answer, y being x with the frame handed out
abbrev pub answered : {X : Type 0} → X → X → Result ℕ → Left X
answered x y (Result.value n) = y saying Said.frame n
answered x y (Result.number n) = x saying Said.refused n

-- f at the front of d; "output bytes beyond the frame stay unchanged"
unfoldable pub over : List ℕ → List ℕ → List ℕ
over f d = f ++ drop (length f) d

-- s in d at place i, the rest unchanged
unfoldable pub placed : List ℕ → ℕ → List ℕ → List ℕ
placed d i s = take i d ++ (s ++ drop (i + length s) d)

-- the output buffer after an answer for the frame f: a refusal changes no byte
abbrev pub put : Result ℕ → List ℕ → List ℕ → List ℕ
put (Result.value n) f d = over f d
put (Result.number n) f d = d

-- the same after a port's answer: the frame f stands in the output buffer if it was handed out
abbrev pub handing : Said → List ℕ → List ℕ → List ℕ
handing a f out = if_any (view a).frame (λ n. over f out) out

-- a port x has the frame f due, and is y once it is handed out: "3: a frame is due, the output buffer is shorter"
unfoldable pub hands : {X : Type 0} → X → X → List ℕ → List ℕ → Left X
hands x y f out = pick (leb (length f) (length out)) (y saying Said.frame (length f)) (x saying Said.refused 3)
