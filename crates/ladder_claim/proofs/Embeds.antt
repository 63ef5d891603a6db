-- The ports of one direction as a ladder has them: its calls are those of the delivery claim's ports.
use Prim.Native.Nat.{ℕ, ◌≤◌}
use mathlib.Core.List.{List}
use mathlib.Core.Path.{◌≡◌, refl, sym, subst}
use native.Mathlib.Omega.{arith}
use lib.Dec.{leb}
use lib.ListN.{length}
use Rattle.status.specs.Entry.{entry_of}
use Rattle.status.specs.Answer.{Said, Left, ◌saying◌}
use Rattle.status.proofs.Leaves.{picked, unless_gives}
use Rattle.frame.specs.Write.{hands}
use Rattle.frame.proofs.Writer.{encode_length}
use Rattle.sender_steps.specs.Transmit.{frame_of, sent_of, waits_of, data_header, part_of}
use Rattle.sender_steps.specs.Record.{lent_of}
use Rattle.sender.specs.Transmit.{next_of}
use Rattle.sender_steps.specs.declared.types.Sender.{Sender}
use Rattle.initiator.specs.WriteSend as write
use Rattle.initiator.specs.declared.types.Writer.{Writer}
use Rattle.initiator.proofs.WriteReturns.{kept_says}
use Rattle.target.specs.ReadSend.{read_next_of}
use Rattle.link.specs.Ports.{Signal, Ports}
use Rattle.link.specs.Reading.{read_ports}
use Rattle.link.specs.Writing.{write_ports}
use Rattle.ladder_run.specs.Ends.{onto, called, ask_of, signalled_of, arrive_of}
use Rattle.ladder_run.specs.declared.types.Sending.{Sending}
use Rattle.ladder_run.specs.declared.types.Sending.TheVariants as sending
use Rattle.ladder_run.specs.declared.types.Receiving.{Receiving}
use Rattle.ladder_run.specs.declared.types.Receiving.TheVariants as receiving

-- what a frame asked for may answer: a frame has bytes, and nothing is reported
abbrev pub Fair : Said → Type 0
Fair (Said.frame n) = 1 ≤ n
Fair (Said.refused n) = Unit {0}
Fair (Said.failed f n) = ⊥
Fair (Said.delivered n) = ⊥
Fair Said.stored = Unit {0}
Fair Said.received = Unit {0}
Fair (Said.xfer_rdy t) = Unit {0}
Fair (Said.response start len o n) = Unit {0}
Fair (Said.word w) = Unit {0}

pub record Embeds (P : Ports) : Type 0 where
  pub sender : P.Sending → Sending
  pub receiver : P.Receiving → Receiving
  pub same : (x y : P.Sending) → sender x ≡ sender y → x ≡ y
  pub asks : (s : P.Sending) (d out : List ℕ) → ask_of (sender s) d out ≡ called sender (P.ask s d out)
  pub told : (g : Signal) (s : P.Sending) → signalled_of g (sender s) ≡ onto sender (P.signal g s)
  pub arrives : (r : P.Receiving) (f b : List ℕ) → arrive_of (receiver r) f b ≡ called receiver (P.receive_call (P.arrival f) r b)
  pub fair : (s : P.Sending) (d out : List ℕ) → Fair (P.ask s d out).says

frame_some : (s : Sender) (d : List ℕ) → 1 ≤ length (frame_of s d)
unfolding frame_of
frame_some s d = omega (arith, encode_length (data_header s) (part_of s d))

-- the sending port's own
next_fair : (s : Sender) (d out : List ℕ) → Fair (next_of s d out).says
unfolding next_of hands
next_fair s d out =
    unless_gives fair_left (entry_of (lent_of s (length d)) s.ended) s _ (λ n. tt)
    (picked fair_left (waits_of s) _ _ tt (picked fair_left (leb (length (frame_of s d)) (length out)) (sent_of s saying Said.frame (length (frame_of s d))) (s saying Said.refused 3) (frame_some s d) tt))
  where
    fair_left : Left Sender → Type 0
    fair_left x = Fair x.says

pub read_fair : (s : Sender) (d out : List ℕ) → Fair (read_next_of s d out).says
read_fair s d out = picked (λ (x : Left Sender). Fair x.says) s.transfer.write _ _ tt (next_fair s d out)

pub write_fair : (w : Writer) (d out : List ℕ) → Fair (write.next_of w d out).says
unfolding write.next_of
write_fair w d out =
    unless_gives fair_left (entry_of (write.lent_of w (length d)) w.sender.ended) w _ (λ n. tt)
    (picked fair_left (write.held_up w) _ _ tt (subst Fair (sym (kept_says w (write.reached_of (write.begun_of w) x))) (next_fair (write.begun_of w).sender d out)))
  where
    x : Left Sender
    x = next_of (write.begun_of w).sender d out

    fair_left : Left Writer → Type 0
    fair_left x = Fair x.says

pub read_same : (x y : Sender) → sending.Read x ≡ sending.Read y → x ≡ y
read_same x y e = cc

pub write_same : (x y : Writer) → sending.Write x ≡ sending.Write y → x ≡ y
write_same x y e = cc

abbrev pub read_embeds : Embeds read_ports
read_embeds = record { sender = sending.Read; receiver = receiving.Read; same = read_same; asks = λ s d out. refl; told = λ g s. refl; arrives = λ r f b. refl; fair = read_fair }

abbrev pub write_embeds : Embeds write_ports
write_embeds = record { sender = sending.Write; receiver = receiving.Write; same = write_same; asks = λ s d out. refl; told = λ g s. refl; arrives = λ r f b. refl; fair = write_fair }
