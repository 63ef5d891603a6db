-- The laws of the writer's two steps: specs/TwoSteps.antt has each statement.
use Prim.Native.Nat.{ℕ, ◌+◌, ◌≤◌}
use mathlib.Core.List.{List, ◌++◌}
use mathlib.Core.Bool.{Bool}
use mathlib.Core.Path.{◌≡◌, refl, sym, ap, ◌∙◌}
use native.Mathlib.Omega.{arith}
use lib.Dec.{leb}
use lib.ListN.{length, take, drop}
use Rattle.status.specs.Pick.{pick}
use Rattle.status.specs.Result.{Result}
use Rattle.frame.specs.Format.{fill_of, header_bytes, data_bytes, encode}
use Rattle.frame.specs.Write.{writable, write_answer, placed, put}
use Rattle.frame.specs.TwoSteps.{put_at, put_data, put_header, AreTheWriter, TwiceIsOnce, LeaveTheAnswer, LeaveTheRest, OnlyTheLength, OnlyWhetherTaken}
use Rattle.frame.specs.declared.types.Header.{Header}
use Rattle.frame.proofs.Place.{at_front, placed_before, placed_behind, placed_twice, placed_length, before_stays, behind_stays}
use Rattle.frame.proofs.Writer.{header_length, encode_parts, encode_length, by_answer}

-- the answer goes by whether the writer takes header and IU, the frame's length and the output buffer's
abbrev answer_of : Bool → ℕ → ℕ → Result ℕ
answer_of w n room = pick w (pick (leb n room) (Result.value n) (Result.number 3)) (Result.number 1)

by_length : (h : Header) (iu out : List ℕ) → write_answer h iu out ≡ answer_of (writable h (length iu)) (24 + length iu + fill_of (length iu)) (length out)
by_length h iu out = ap (λ (n : ℕ). answer_of (writable h (length iu)) n (length out)) (encode_length h iu)

-- either step: the bytes s at place i, within the frame
module _ (h : Header) (iu out : List ℕ) (i : ℕ) (s : List ℕ) (within : i + length s ≤ length (encode h iu)) where
  abbrev answer : Result ℕ
  answer = write_answer h iu out

  abbrev left : List ℕ
  left = put_at i answer s out

  left_length : length left ≡ length out
  left_length = by_answer h iu out (λ a. length (put_at i a s out) ≡ length out) (λ fits. placed_length out s i (omega arith) (omega arith)) (λ n. refl)

  alike : write_answer h iu left ≡ answer
  alike = ap (answer_of (writable h (length iu)) (length (encode h iu))) left_length

  -- a step t after it answers alike
  next : (j : ℕ) (t : List ℕ) → put_at j (write_answer h iu left) t left ≡ put_at j answer t left
  next j t = ap (λ (a : Result ℕ). put_at j a t left) alike

  twice : put_at i (write_answer h iu left) s left ≡ left
  twice = next i s ∙ by_answer h iu out (λ a. put_at i a s (put_at i a s out) ≡ put_at i a s out) (λ fits. placed_twice out s i (omega arith)) (λ n. refl)

  before : take i left ≡ take i out
  before = by_answer h iu out (λ a. take i (put_at i a s out) ≡ take i out) (λ fits. before_stays out s i (omega arith)) (λ n. refl)

  beyond : (n : ℕ) → i + length s ≡ n → drop n left ≡ drop n out
  beyond n e = ap (λ (k : ℕ). drop k left) (sym e) ∙ by_answer h iu out (λ a. drop (i + length s) (put_at i a s out) ≡ drop (i + length s) out) (λ fits. behind_stays out s i (omega arith)) (λ n. refl) ∙ ap (λ (k : ℕ). drop k out) e

module _ (h : Header) (iu : List ℕ) where
  abbrev header : List ℕ
  header = header_bytes h (fill_of (length iu))

  header_24 : 0 + length header ≡ 24
  header_24 = omega (arith, header_length h (fill_of (length iu)))

  data_within : 24 + length (data_bytes iu) ≤ length (encode h iu)
  data_within = omega (arith, encode_parts h iu)

  header_within : 0 + length header ≤ length (encode h iu)
  header_within = omega (arith, encode_parts h iu, header_24)

  data_first : (out : List ℕ) → put_header h iu (put_data h iu out) ≡ put (write_answer h iu out) (encode h iu) out
  unfolding encode
  data_first out = next h iu out 24 (data_bytes iu) data_within 0 header ∙ by_answer h iu out (λ a. put_at 0 a header (put_at 24 a (data_bytes iu) out) ≡ put a (encode h iu) out) (λ fits. placed_before header (data_bytes iu) out 24 (header_length h _) (omega (arith, encode_parts h iu)) ∙ at_front (header ++ data_bytes iu) out) (λ n. refl)

  header_first : (out : List ℕ) → put_data h iu (put_header h iu out) ≡ put (write_answer h iu out) (encode h iu) out
  unfolding encode
  header_first out = next h iu out 0 header header_within 24 (data_bytes iu) ∙ by_answer h iu out (λ a. put_at 24 a (data_bytes iu) (put_at 0 a header out) ≡ put a (encode h iu) out) (λ fits. ap (λ (n : ℕ). placed (placed out 0 header) n (data_bytes iu)) (sym header_24) ∙ placed_behind out header 0 (omega arith) (data_bytes iu) ∙ at_front (header ++ data_bytes iu) out) (λ n. refl)

pub are_the_writer : AreTheWriter
are_the_writer h iu out = (data_first h iu out, header_first h iu out)

pub twice_is_once : TwiceIsOnce
twice_is_once h iu out = (twice h iu out 24 (data_bytes iu) (data_within h iu), twice h iu out 0 (header h iu) (header_within h iu))

pub leave_the_answer : LeaveTheAnswer
leave_the_answer h iu out = (alike h iu out 24 (data_bytes iu) (data_within h iu), alike h iu out 0 (header h iu) (header_within h iu))

pub leave_the_rest : LeaveTheRest
leave_the_rest h iu out = (before h iu out 24 (data_bytes iu) (data_within h iu), beyond h iu out 24 (data_bytes iu) (data_within h iu) _ (sym (encode_parts h iu)), beyond h iu out 0 (header h iu) (header_within h iu) 24 (header_24 h iu))

pub only_the_length : OnlyTheLength
only_the_length h iu ju out e =
    let a : write_answer h iu out ≡ write_answer h ju out = by_length h iu out ∙ ap (λ (n : ℕ). answer_of (writable h n) (24 + n + fill_of n) (length out)) e ∙ sym (by_length h ju out) in
    (a, ap (λ (o : Result ℕ). put_at 0 o (header h iu) out) a ∙ ap (λ (n : ℕ). put_at 0 (write_answer h ju out) (header_bytes h (fill_of n)) out) e)

pub only_whether_taken : OnlyWhetherTaken
only_whether_taken h g iu out w =
    let a : write_answer h iu out ≡ write_answer g iu out = by_length h iu out ∙ ap (λ (t : Bool). answer_of t (24 + length iu + fill_of (length iu)) (length out)) w ∙ sym (by_length g iu out) in
    (a, ap (λ (o : Result ℕ). put_at 24 o (data_bytes iu) out) a)

-- what the writer's code shows: the header step after the data step
pub both : (h : Header) (iu out : List ℕ) {x y : List ℕ} {a : Result ℕ} → x ≡ put_data h iu out → (a ≡ write_answer h iu x) × (y ≡ put_header h iu x) → (a ≡ write_answer h iu out) × (y ≡ put (write_answer h iu out) (encode h iu) out)
both h iu out e p = let v = rw e at p in (v.0 ∙ (leave_the_answer h iu out).0, v.1 ∙ (are_the_writer h iu out).0)
