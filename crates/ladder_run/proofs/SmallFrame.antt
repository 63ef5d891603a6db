-- A frame that a sending port hands out fits the output buffer, and its data offset is below start plus count, since the port's next offset is below its burst's end.
use Prim.Native.Nat.{ℕ, ◌^◌, ◌≤◌, ◌<◌}
use mathlib.Core.List.{List, []}
use mathlib.Core.Bool.{Bool, true, false}
use mathlib.Core.Path.{◌≡◌, refl, sym, subst}
use native.Mathlib.Omega.{arith}
use lib.Dec.{leb}
use lib.ListN.{length, get_or}
use borrow.Author.Tests.{leb-true}
use Rattle.status.specs.Pick.{pick}
use Rattle.status.specs.Entry.{entry_of}
use Rattle.status.specs.Answer.{Word, Said, Left, ◌saying◌, unless}
use Rattle.status.specs.Result.{Result}
use Rattle.status.specs.Entry.{Entry}
use Rattle.std.specs.Prelude.{Ok, Err, None}
use Rattle.status.proofs.Choose.{each}
use Rattle.status.proofs.Leaves.{picked, unless_gives}
use Rattle.status.proofs.OpenedCall.{opened}
use Rattle.frame.specs.Format.{is_type, header_bytes, encode}
use Rattle.frame.specs.Read.{header_in, form, well_formed, parsed, decode}
use Rattle.frame.specs.Write.{hands, handing}
use Rattle.frame.specs.declared.types.Header.{Header}
use Rattle.frame.proofs.Digits.{field_digits}
use Rattle.transfer.specs.Limits.{past}
use Rattle.sender_steps.specs.Record.{lent_of}
use Rattle.sender_steps.specs.Transmit.{waits_of, data_header, part_of, frame_of, sent_of}
use Rattle.sender.specs.Transmit.{next_of}
use Rattle.sender_steps.specs.declared.types.Sender.{Sender}
use Rattle.sender_steps.proofs.Held.{held, lent_holds}
use Rattle.sender_steps.proofs.Due.{due}
use Rattle.initiator.specs.WriteSend as write
use Rattle.initiator.specs.declared.types.Writer.{Writer}
use Rattle.initiator.proofs.WriteReturns.{kept_says}
use Rattle.target.specs.ReadSend.{read_next_of}
use Rattle.ladder_run.specs.Ends.{ask_of, past_of}
use Rattle.ladder_run.specs.Row.{COUNT-MOST, handed, bit, shown_of}
use Rattle.ladder_run.specs.declared.types.Sending.{Sending}
use Rattle.ladder_run.specs.declared.types.Sending.TheVariants as sending
use Rattle.ladder_run.specs.declared.types.Shown.{Shown}

-- nothing was handed out, or the frame f of at most m bytes, whose data offset is below p
pub data Hands (p m : ℕ) (f : List ℕ) : Said → Type 0 where
  nothing : {x : Said} → handed x ≡ None → Hands p m f x
  frame : (header_in f).offset < p → length f ≤ m → Hands p m f (Said.frame (length f))

-- the data offset comes back
offset_back : (h : Header) (iu : List ℕ) → h.offset < 2 ^ 32 → (header_in (encode h iu)).offset ≡ h.offset
unfolding header_in encode header_bytes
offset_back h iu r = field_digits 4 h.offset [] r

module _ (s : Sender) (d out : List ℕ) where
  due_offset : lent_of s (length d) ≡ true → waits_of s ≡ false → (header_in (frame_of s d)).offset < past s.transfer
  unfolding frame_of data_header
  due_offset l w =
      let h = lent_holds s (length d) l in
      let k = held s h.0 in
      let m = k.marks in
      let t = k.limits in
      let u = due s w in
      omega (arith, m.next_most, m.end_most, u.next, offset_back (data_header s) (part_of s d) (omega (arith, m.next_most, m.end_most, t.past_most)))

  next_hands : Hands (past s.transfer) (length out) (frame_of s d) (next_of s d out).says
  unfolding next_of hands pick
  next_hands = go (entry_of (lent_of s (length d)) s.ended) (waits_of s) (leb (length (frame_of s d)) (length out)) refl refl refl
    where
      go : (e : Entry) (w t : Bool) → e ≡ entry_of (lent_of s (length d)) s.ended → waits_of s ≡ w → leb (length (frame_of s d)) (length out) ≡ t → Hands (past s.transfer) (length out) (frame_of s d) (unless e s (pick w (s saying Said.word Word.wait) (pick t (sent_of s saying Said.frame (length (frame_of s d))) (s saying Said.refused 3)))).says
      go (Err why) w t p q r = Hands.nothing refl
      go (Ok tt) true t p q r = Hands.nothing refl
      go (Ok tt) false false p q r = Hands.nothing refl
      go (Ok tt) false true p q r = Hands.frame (due_offset (opened _ _ p).0 q) (leb-true _ _ r)

  read_hands : Hands (past s.transfer) (length out) (frame_of s d) (read_next_of s d out).says
  read_hands = picked (λ (x : Left Sender). Hands (past s.transfer) (length out) (frame_of s d) x.says) s.transfer.write _ _ (Hands.nothing refl) next_hands

-- the burst that starts is one of the same transfer
begun_past : (w : Writer) → past (write.begun_of w).sender.transfer ≡ past w.sender.transfer
unfolding write.begun_of
begun_past w = picked (λ (v : Writer). past v.sender.transfer ≡ past w.sender.transfer) w.pending _ _ refl refl

write_hands : (w : Writer) (d out : List ℕ) → Hands (past w.sender.transfer) (length out) (frame_of (write.begun_of w).sender d) (write.next_of w d out).says
unfolding write.next_of
write_hands w d out =
    let p = past w.sender.transfer in
    let m = length out in
    let f = frame_of (write.begun_of w).sender d in
    unless_gives (λ (x : Left Writer). Hands p m f x.says) (entry_of (write.lent_of w (length d)) w.sender.ended) w _ (λ n. Hands.nothing refl)
    (picked (λ (x : Left Writer). Hands p m f x.says) (write.held_up w) _ _ (Hands.nothing refl)
    (subst (Hands p m f) (sym (kept_says w _)) (subst (λ (n : ℕ). Hands n m f (next_of (write.begun_of w).sender d out).says) (begun_past w) (next_hands (write.begun_of w).sender d out))))

-- the frame that is due at a port, if any is
abbrev pub due_frame : Sending → List ℕ → List ℕ
due_frame (sending.Read s) d = frame_of s d
due_frame (sending.Write w) d = frame_of (write.begun_of w).sender d

pub ask_hands : (s : Sending) (d out : List ℕ) → Hands (past_of s) (length out) (due_frame s d) (ask_of s d out).says
ask_hands (sending.Read s) d out = read_hands s d out
ask_hands (sending.Write w) d out = write_hands w d out

pub ask_lends : (s : Sending) (d out : List ℕ) → (ask_of s d out).lent ≡ handing (ask_of s d out).says (due_frame s d) out
ask_lends (sending.Read s) d out = refl
ask_lends (sending.Write w) d out = refl

-- what any frame of that offset shows
pub record SmallShown (x : Shown) : Type 0 where
  pub offset : x.offset < COUNT-MOST
  pub bytes : x.bytes ≤ 1_024
  pub cdp : x.cdp ≤ 1

bit_most : (t : Bool) → bit t ≤ 1
bit_most true = omega arith
bit_most false = omega arith

pub shown_small : (f : List ℕ) → (header_in f).offset < COUNT-MOST → SmallShown (shown_of (decode f))
unfolding decode pick
shown_small f h = go (well_formed f) (is_type (get_or f 0 0)) refl
  where
    none : SmallShown (record { offset = 0; bytes = 0; cdp = 0 })
    none = record { offset = omega arith; bytes = omega arith; cdp = omega arith }

    go : (t u : Bool) → well_formed f ≡ t → SmallShown (shown_of (pick t (pick u (Result.value (parsed f)) (Result.number 6)) (Result.number 5)))
    go true true e = let k = each (form f) e in record { offset = h; bytes = omega (arith, leb-true (length f) 1_048 k.1.0); cdp = bit_most (header_in f).flags.cdp }
    go true false e = none
    go false u e = none
