-- A frame of the full data size: what its premises give, how long it is, and that the writer puts it down.
use Prim.Native.Nat.{ℕ, ◌+◌, ◌-◌, ◌%◌, ◌^◌, ◌≤◌, ◌<◌}
use mathlib.Core.List.{List}
use mathlib.Core.Path.{◌≡◌, refl, sym, ap, ◌∙◌}
use mathlib.Core.Bool.{Bool, true, false, ◌||◌}
use native.Mathlib.Omega.{arith}
use lib.Dec.{leb}
use lib.ListN.{length, take, drop}
use borrow.Author.Tests.{le-leb, lt-leb, ne_eqb, eq-eqb}
use Rattle.status.specs.Pick.{◌with◌}
use Rattle.status.proofs.Choose.{in_true}
use Rattle.frame.specs.Write.{writable, over}
use Rattle.frame.specs.Full.{is_full, put_full}
use Rattle.frame.specs.declared.types.Header.{Header}
use Rattle.frame.proofs.Writer.{encode_length}
use Rattle.sender_steps.specs.Transmit.{waits_of, lesser, data_header, part_of, frame_of, sent_of}
use Rattle.sender_steps.specs.Fields.{next≔, unanswered≔, cdp≔, frames≔}
use Rattle.sender_steps.specs.declared.types.Sender.{Sender}
use Rattle.sender_steps.proofs.Held.{Held, held, lent_holds}
use Rattle.sender_steps.proofs.Due.{part_length, can_write}
use Rattle.ssp.specs.ShortSend.{Full, Sendable}

-- what the writer and the copy lean on
pub record Fitting (s : Sender) (n room : ℕ) : Type 0 where
  pub dest : s.transfer.remote < 2 ^ 24
  pub source : s.transfer.local < 2 ^ 24
  pub fours : s.transfer.size % 4 ≡ 0
  pub some : 4 ≤ s.transfer.size
  pub most : s.transfer.size ≤ 1_024
  pub long : 24 + s.transfer.size ≤ room
  -- the data lies in the data buffer
  pub start : s.transfer.start ≤ s.next
  pub within : (s.next - s.transfer.start) + s.transfer.size ≤ n
  pub whole : lesser s ≡ s.transfer.size
  pub frames : s.frames < 2 ^ 60

pub fitting : (s : Sender) (n room : ℕ) → Full s n room → Fitting s n room
fitting s n room f =
    let e = lent_holds s n f.1 in
    let h = held s e.0 in
    let l = h.limits in
    let m = h.marks in
    omega arith

-- the data's length is the size
pub sized : (s : Sender) → Sendable s → lesser s ≡ s.transfer.size
sized s f = let m = (held s f.2).marks in omega arith

-- a frame is due
none_of : {a b c : Bool} → a ≡ false → b ≡ false → c ≡ false → (a || b || c) ≡ false
none_of p q r = λ i. p i || q i || r i

pub not_waiting : (s : Sender) (n room : ℕ) → Full s n room → waits_of s ≡ false
unfolding waits_of
not_waiting s n room f = let g = fitting s n room f in none_of f.0.0 (lt-leb _ _ f.0.1) (ne_eqb s.next s.burst.end (λ e. omega (arith, f.0.2)))

-- the record once it is handed out
pub sent_is : (s : Sender) {k : ℕ} → lesser s ≡ k → (s with next≔ (s.next + k) with unanswered≔ (s.unanswered + 1) with cdp≔ false with frames≔ (s.frames + 1)) ≡ sent_of s
unfolding sent_of
sent_is s e = λ i. s with next≔ (s.next + sym e i) with unanswered≔ (s.unanswered + 1) with cdp≔ false with frames≔ (s.frames + 1)

module _ (s : Sender) (d w : List ℕ) (f : Full s (length d) (length w)) where
  g : Fitting s (length d) (length w)
  g = fitting s (length d) (length w) f

  h : Held s
  h = held s (lent_holds s (length d) f.1).0

  pub part_size : length (part_of s d) ≡ s.transfer.size
  part_size = part_length s d h (lent_holds s (length d) f.1).1 ∙ g.whole

  pub frame_length : length (frame_of s d) ≡ 24 + s.transfer.size
  unfolding frame_of
  frame_length = let k = g in omega (arith, encode_length (data_header s) (part_of s d), part_size)

  pub frame_fits : leb (length (frame_of s d)) (length w) ≡ true
  frame_fits = le-leb (length (frame_of s d)) (length w) (omega (arith, frame_length, g.long))

  -- the frame's data, as the code takes it from the data buffer
  part_is : let from = s.next - s.transfer.start in take ((from + s.transfer.size) - from) (drop from d) ≡ part_of s d
  part_is =
      let from = s.next - s.transfer.start in
      let k : (from + s.transfer.size) - from ≡ lesser s = omega (arith, g.whole) in
      ap (λ (k : ℕ). take k (drop from d)) k

  -- the writer takes header and data
  pub data_writable : writable (data_header s) (length (part_of s d)) ≡ true
  data_writable = can_write s (length (part_of s d)) h (omega (arith, part_size, g.most))

  -- the writer's short way takes it
  is_full_lem : is_full (data_header s) (length (part_of s d)) (length w) ≡ true
  unfolding is_full
  is_full_lem =
      let n = length (part_of s d) in
      let f4 : n % 4 ≡ 0 = rw part_size g.fours in
      let r : 24 + n ≤ length w = omega (arith, part_size, g.long) in
      simp (data_writable, eq-eqb _ _ f4, le-leb _ _ r)

  pub put_full_lem : {a : Header} {zs : List ℕ} → let from = s.next - s.transfer.start in let iu = take ((from + s.transfer.size) - from) (drop from d) in a ≡ data_header s → zs ≡ put_full a iu w → zs ≡ over (frame_of s d) w
  unfolding frame_of
  put_full_lem ea ez = (rw (ea, part_is) at ez) ∙ sym (in_true _ _ _ _ is_full_lem refl)
