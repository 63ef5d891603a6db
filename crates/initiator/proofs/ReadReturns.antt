-- An arrival in a read, by what is tested first, and what it leaves in the buffer.
use Prim.Native.Nat.{ℕ, ◌+◌, ◌-◌, ◌≤◌}
use mathlib.Core.Bool.{true, false, not}
use mathlib.Core.List.{List}
use mathlib.Core.Path.{◌≡◌, refl, sym, ap, ◌∙◌}
use lib.ListN.{length, take, drop}
use Rattle.status.specs.Answer.{Left}
use Rattle.status.specs.Result.{Result}
use Rattle.status.proofs.Choose.{each}
use Rattle.status.proofs.OpenedCall.{opened}
use Rattle.arrival.proofs.LetIn.{let_in_is, let_in_by}
use Rattle.frame.specs.Read.{header_in, iu_of}
use Rattle.frame.specs.XferRdy.{xfer_rdy_of}
use Rattle.frame.specs.Response.{response_iu_of}
use Rattle.status.specs.declared.answer.Opened.{Opened}
use Rattle.frame.specs.declared.types.XferRdy.{XferRdy}
use Rattle.arrival.specs.Accept.{accept_of}
use Rattle.arrival.specs.declared.Role.TheVariants.{ReadInitiator}
use Rattle.arrival.specs.declared.Class.{Class}
use Rattle.arrival.specs.declared.Arrived.{Arrived}
use Rattle.arrival.proofs.Passed.{passed, part, part_length}
use Rattle.receiver_steps.specs.Record.{holds_of, lent_of}
use Rattle.receiver_steps.specs.DataFrame.{data_step_of, storing}
use Rattle.receiver_steps.specs.declared.types.Receiver.{Receiver}
use Rattle.receiver.proofs.Views.{step_is}
use Rattle.initiator.specs.Read.{read_tests, read_holds_of, read_lent_of, rejected_by, not_expected_of, opened_by, response_of, taken_of, arrived_by, arrived_frame, read_arrival_of}

-- a read's record, with or without its buffer
pub read_holds : (r : Receiver) → read_holds_of r ≡ true → (holds_of r ≡ true) × (not r.transfer.write ≡ true)
unfolding read_holds_of
read_holds r e = let h = each (read_tests (holds_of r) r) e in (h.0, h.1.0)

pub read_lent : (r : Receiver) (m : ℕ) → read_lent_of r m ≡ true → (lent_of r m ≡ true) × (not r.transfer.write ≡ true)
unfolding read_lent_of
read_lent r m e = let h = each (read_tests (lent_of r m) r) e in (h.0, h.1.0)

pub read_lent_again : (r : Receiver) (m : ℕ) → lent_of r m ≡ true → r.transfer.write ≡ false → read_lent_of r m ≡ true
unfolding read_lent_of
read_lent_again r m e f = simp (e, f)

-- a result x that is z, both being y, and that left the buffer so
pub told : {x y z : Left Receiver} {left : List ℕ} (offset : ℕ) (iu d : List ℕ) → z ≡ y → x ≡ y → left ≡ storing y.says offset iu d → (x ≡ z) × (left ≡ storing z.says offset iu d)
told offset iu d e p q = (p ∙ sym e, q ∙ ap (λ (w : Left Receiver). storing w.says offset iu d) (sym e))

-- a frame that has passed 5 to 8, and what it left in the buffer
pub taken_is : (r : Receiver) (f d : List ℕ) (a : Arrived) {x z : Left Receiver} {left : List ℕ} → accept_of ReadInitiator r.transfer f ≡ Result.value a → z ≡ taken_of a.class r a f (length d) → (x ≡ taken_of a.class r a f (length d)) × (left ≡ storing (taken_of a.class r a f (length d)).says a.header.offset (take a.len (drop a.start f)) d) → (x ≡ z) × (left ≡ storing z.says (header_in f).offset (iu_of f) d)
taken_is r f d a {z = z} e q t =
    let p = (passed r.transfer ReadInitiator f a e).is in
    let s : storing (taken_of a.class r a f (length d)).says a.header.offset (take a.len (drop a.start f)) d ≡ storing (taken_of a.class r a f (length d)).says (header_in f).offset (iu_of f) d =
    ap (λ (b : Arrived). storing (taken_of a.class r a f (length d)).says b.header.offset (take b.len (drop b.start f)) d) (sym p) in
    told (header_in f).offset (iu_of f) d q t.0 (t.1 ∙ s)

-- DATA: what the receiving port answered to that part
pub data_is : (r : Receiver) (a : Arrived) (f d : List ℕ) {x : Left Receiver} {left : List ℕ} → (a.start + a.len ≤ length f) × (lent_of r (length d) ≡ true) × (r.ended ≡ false) → let iu = take ((a.start + a.len) - a.start) (drop a.start f) in (x ≡ data_step_of r a.header.offset a.header.flags.cdp (length iu) (length d)) × (left ≡ storing (data_step_of r a.header.offset a.header.flags.cdp (length iu) (length d)).says a.header.offset iu d) → let z = taken_of Class.Data r a f (length d) in (x ≡ z) × (left ≡ storing z.says a.header.offset (take a.len (drop a.start f)) d)
data_is r a f d s e =
    rw (step_is r a.header.offset a.header.flags.cdp a.len (length d) s.1 s.2) (rw (part_length a.start a.len f s.0, part a.start a.len f) at e)

-- only DATA changes the buffer
pub not_expected_leaves : (r : Receiver) (x : List ℕ) (offset : ℕ) (iu d : List ℕ) → d ≡ storing (not_expected_of r x).says offset iu d
unfolding not_expected_of
not_expected_leaves r x offset iu d = go (xfer_rdy_of x)
  where
    go : (y : Result XferRdy) → d ≡ storing (rejected_by y r).says offset iu d
    go (Result.number n) = refl
    go (Result.value y) = refl

pub response_leaves : (r : Receiver) (start len : ℕ) (x : List ℕ) (offset : ℕ) (iu d : List ℕ) → d ≡ storing (response_of r start len x).says offset iu d
unfolding response_of
response_leaves r start len x offset iu d = go (response_iu_of x)
  where
    go : (y : Result Opened) → d ≡ storing (opened_by y r start len).says offset iu d
    go (Result.number n) = refl
    go (Result.value o) = refl

-- an arrival, tested in one with 1 and 2
pub arrival_is : (r : Receiver) (f : List ℕ) (m : ℕ) → read_arrival_of r f m ≡ arrived_by (arrived_frame r f m) r f m
unfolding read_arrival_of arrived_frame
arrival_is r f m = let_in_by _ _ r (λ (x : Result Arrived). arrived_by x r f m) (λ n. refl)

-- an accepted frame: 1 and 2 do not apply
pub accepted_is : (r : Receiver) (f : List ℕ) (m : ℕ) (a : Arrived) → arrived_frame r f m ≡ Result.value a → (accept_of ReadInitiator r.transfer f ≡ Result.value a) × (lent_of r m ≡ true) × (r.ended ≡ false)
unfolding arrived_frame
accepted_is r f m a e =
    let l = let_in_is _ _ a e in
    let o = opened _ _ l.0 in
    (l.1, (read_lent r m o.0).0, o.1)
