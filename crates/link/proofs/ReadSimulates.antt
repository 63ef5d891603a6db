-- The ports of a read are the sending and the receiving core themselves, behind the frame writer and reader.
use Prim.Native.Nat.{ℕ}
use mathlib.Core.List.{List}
use mathlib.Core.Bool.{true, false}
use mathlib.Core.Logic.{◌⊎◌, inl, inr}
use mathlib.Core.Path.{◌≡◌, refl, sym, ap, subst, ◌∙◌}
use lib.ListN.{length}
use Rattle.status.specs.Answer.{Said, Left, refuses}
use Rattle.status.specs.Entry.{entry_of}
use Rattle.status.proofs.Leaves.{Leaves, leaves_pick, refused_same, refused_stores, unless_gives}
use Rattle.transfer.specs.declared.Transfer.{Transfer}
use Rattle.frame.specs.Format.{encode}
use Rattle.frame.specs.Read.{header_in, iu_of}
use Rattle.frame.specs.Write.{writable, handing}
use Rattle.frame.specs.declared.types.Header.{Header}
use Rattle.arrival.proofs.Passed.{written_stands}
use Rattle.sender_steps.specs.Record.{holds_of}
use Rattle.sender_steps.specs.Transmit.{frame_of}
use Rattle.sender.specs.Transmit.{next_of}
use Rattle.sender_steps.specs.Record as transmit
use Rattle.sender_steps.specs.Confirmation.{ended_of}
use Rattle.sender.specs.Confirmation.{loss_of}
use Rattle.sender_steps.specs.declared.types.Sender.{Sender}
use Rattle.sender_steps.proofs.Held.{held, lent_holds}
use Rattle.sender.proofs.Shape.{next_shape}
use Rattle.sender.proofs.Ended as sender
use Rattle.receiver_steps.specs.Record.{lent_of}
use Rattle.receiver_steps.specs.DataFrame.{storing}
use Rattle.receiver.specs.DataFrame.{arrival_of}
use Rattle.receiver.specs.Record as receiver-record
use Rattle.receiver_steps.specs.declared.types.Receiver.{Receiver}
use Rattle.receiver.proofs.Views as receiver
use Rattle.receiver.proofs.Kept.{arrival_same}
use Rattle.receiver_steps.proofs.Buffer.{storing_none}
use Rattle.initiator.specs.Read.{read_arrival_of, read_loss_of}
use Rattle.initiator.proofs.ReadViews.{data_arrives, read_arrival_leaves, read_loss_leaves, response_stores_nothing}
use Rattle.target.specs.ReadSend.{only_read, read_next_of}
use Rattle.target.proofs.Ended.{read_refuses}
use Rattle.target.proofs.ReadSteps.{only_read_lem}
use Rattle.link.specs.Ports.{Signal}
use Rattle.link.specs.Calls.{signalled, read_signalled, SenderCall, sender_call, ReaderCall, reader_call}
use Rattle.link.specs.Reading.{SenderLate, ReaderLate, read_ports}
use Rattle.link.proofs.Others.{Steady}
use Rattle.link.proofs.Quiet.{read_quiet}
use Rattle.link.proofs.Simulates.{Addressed, Simulates, signal_shape}

-- each record is a read's
pub record SendsRead (x s : Sender) : Type 0 where
  pub is : x ≡ s
  pub read : s.transfer.write ≡ false

pub record ReadsAs (y r : Receiver) : Type 0 where
  pub is : y ≡ r
  pub read : r.transfer.write ≡ false

-- ── DATA of the burst goes through writer and reader to the receiving core ──
module _ (r : Receiver) (v : r.transfer.write ≡ false) (h : Header) (iu b : List ℕ) (tptt : ℕ) (l : lent_of r (length b) ≡ true) (o : r.ended ≡ false) (a : Addressed tptt h r) (c : writable h (length iu) ≡ true) where
  abbrev core : Left Receiver
  core = arrival_of r h.offset h.flags.cdp (length iu) (length b)

  arrives : read_arrival_of r (encode h iu) (length b) ≡ core
  arrives = data_arrives r h iu (length b) l v o a.frametype a.dest a.source a.tag a.range c

  lands : storing (read_arrival_of r (encode h iu) (length b)).says (header_in (encode h iu)).offset (iu_of (encode h iu)) b ≡ storing core.says h.offset iu b
  lands =
      let p = written_stands h iu a.range c in
      λ i. storing (arrives i).says (p.0 i).offset (p.2 i) b

  reads_on : ReadsAs (read_arrival_of r (encode h iu) (length b)).left core.left
  reads_on = record { is = ap (λ (x : Left Receiver). x.left) arrives; read = ap (λ (t : Transfer). t.write) (arrival_same r h.offset h.flags.cdp (length iu) (length b)).transfer ∙ v }

-- ── a refusal changes nothing ──
signalled_leaves : (g : Signal) (s : Sender) → Leaves sender.Ended s (signalled g s)
signalled_leaves Signal.ack s = sender.ack_leaves s
signalled_leaves Signal.nak s = sender.nak_leaves s
signalled_leaves Signal.timeout s = sender.timeout_leaves s
signalled_leaves Signal.cut s = sender.cut_leaves s
signalled_leaves Signal.loss s = sender.loss_leaves s

kept : (r : Receiver) (x : Left Receiver) → Leaves receiver.Ended r x → refuses x.says ≡ true → x.left ≡ r
kept r x = refused_same receiver.Ended r x

unwritten : (a : Said) → refuses a ≡ true → (offset : ℕ) (iu b : List ℕ) → storing a offset iu b ≡ b
unwritten a e = storing_none a (refused_stores a e)

reader_refused : (c : ReaderCall) (r : Receiver) (b : List ℕ) → refuses (reader_call c r b).says ≡ true → ((reader_call c r b).left ≡ r) × ((reader_call c r b).lent ≡ b)
reader_refused (ReaderCall.bytes f) r b e = let x = read_arrival_of r f (length b) in (kept r x (read_arrival_leaves r f (length b)) e, unwritten x.says e (header_in f).offset (iu_of f) b)
reader_refused ReaderCall.loss r b e = (kept r (read_loss_of r) (read_loss_leaves r) e, refl)
reader_refused (ReaderCall.core_data offset cdp iu) r b e =
    let x = arrival_of r offset cdp (length iu) (length b) in
    (kept r x (receiver.arrival_leaves r offset cdp (length iu) (length b)) e, unwritten x.says e offset iu b)
reader_refused ReaderCall.core_loss r b e = (kept r (receiver-record.loss_of r) (receiver.loss_leaves r) e, refl)

reader_late : (c : ReaderCall) → ReaderLate c → (r : Receiver) (b : List ℕ) → (reader_call c r b).lent ≡ b
reader_late (ReaderCall.bytes f) l r b = storing_none (read_arrival_of r f (length b)).says (response_stores_nothing r f (length b) l) (header_in f).offset (iu_of f) b
reader_late ReaderCall.loss l r b = refl
reader_late (ReaderCall.core_data offset cdp iu) l r b = absurd l
reader_late ReaderCall.core_loss l r b = refl

-- ── a read's record goes through the target's entry points to the sending core ──
only_leaves : (s : Sender) (x : Left Sender) → Leaves sender.Ended s x → Leaves sender.Ended s (only_read s x)
only_leaves s x l = leaves_pick sender.Ended s _ _ _ refl l

signal_only : (g : Signal) (s : Sender) → read_signalled g s ≡ only_read s (signalled g s)
signal_only Signal.ack s = refl
signal_only Signal.nak s = refl
signal_only Signal.timeout s = refl
signal_only Signal.cut s = refl
signal_only Signal.loss s = refl

sends_ask : (x s : Sender) (d out : List ℕ) → SendsRead x s → transmit.lent_of s (length d) ≡ true →
    SendsRead (read_next_of x d out).left (next_of s d out).left × ((read_next_of x d out).says ≡ (next_of s d out).says) × (handing (read_next_of x d out).says (frame_of x d) out ≡ handing (next_of s d out).says (frame_of s d) out)
sends_ask x s d out e l =
    let q : read_next_of x d out ≡ next_of s d out = ap (λ (v : Sender). read_next_of v d out) e.is ∙ only_read_lem s (next_of s d out) e.read in
    let t = (next_shape s (held s (lent_holds s (length d) l).0) d out).transfer in
    (record { is = ap (λ (z : Left Sender). z.left) q; read = ap (λ (u : Transfer). u.write) t ∙ e.read }, ap (λ (z : Left Sender). z.says) q, λ i. handing (q i).says (frame_of (e.is i) d) out)

sends_signal : (g : Signal) (x s : Sender) → SendsRead x s → holds_of s ≡ true → SendsRead (read_signalled g x).left (signalled g s).left × ((read_signalled g x).says ≡ (signalled g s).says)
sends_signal g x s e h =
    let q : read_signalled g x ≡ signalled g s = ap (read_signalled g) e.is ∙ signal_only g s ∙ only_read_lem s (signalled g s) e.read in
    let t = (signal_shape g s (held s h)).transfer in
    (record { is = ap (λ (z : Left Sender). z.left) q; read = ap (λ (u : Transfer). u.write) t ∙ e.read }, ap (λ (z : Left Sender). z.says) q)

sender_refused : (c : SenderCall) (s : Sender) → refuses (sender_call c s).says ≡ true → (sender_call c s).left ≡ s
sender_refused (SenderCall.bytes f) s e = ap (λ (x : Left Sender). x.left) (read_refuses s f).1
sender_refused (SenderCall.core_ask d out) s e = refused_same sender.Ended s (next_of s d out) (sender.next_leaves s d out) e
sender_refused (SenderCall.core_signal g) s e = refused_same sender.Ended s (signalled g s) (signalled_leaves g s) e

lost : (s : Sender) → s.transfer.write ≡ false → SendsRead (loss_of s).left s ⊎ SendsRead (loss_of s).left (ended_of s)
lost s v =
    unless_gives (λ (z : Left Sender). SendsRead z.left s ⊎ SendsRead z.left (ended_of s)) (entry_of (holds_of s) s.ended) s _
    (λ n. inl (record { is = refl; read = v })) (inr (record { is = refl; read = v }))

sender_late : (c : SenderCall) → SenderLate c → (x s : Sender) → SendsRead x s → SendsRead (sender_call c x).left s ⊎ SendsRead (sender_call c x).left (ended_of s)
sender_late (SenderCall.bytes f) l x s e = inl (record { is = ap (λ (z : Left Sender). z.left) (read_refuses x f).1 ∙ e.is; read = e.read })
sender_late (SenderCall.core_ask d out) l x s e = absurd l
sender_late (SenderCall.core_signal Signal.loss) l x s e = subst (λ (v : Sender). SendsRead (loss_of v).left s ⊎ SendsRead (loss_of v).left (ended_of s)) (sym e.is) (lost s e.read)
sender_late (SenderCall.core_signal Signal.ack) l x s e = absurd l
sender_late (SenderCall.core_signal Signal.nak) l x s e = absurd l
sender_late (SenderCall.core_signal Signal.timeout) l x s e = absurd l
sender_late (SenderCall.core_signal Signal.cut) l x s e = absurd l

read_steady : Steady read_ports
read_steady =
    record {
      ask_refused = λ s d out. refused_same sender.Ended s (read_next_of s d out) (only_leaves s _ (sender.next_leaves s d out));
      signal_refused = λ g s. refused_same sender.Ended s (read_signalled g s) (subst (Leaves sender.Ended s) (sym (signal_only g s)) (only_leaves s _ (signalled_leaves g s)));
      send_call_refused = sender_refused;
      receive_call_refused = reader_refused;
    }

-- whatever TPTT the DATA frames have
pub read_simulates : (tptt : ℕ) → Simulates read_ports tptt
read_simulates tptt =
    record {
      SendsAs = SendsRead;
      TakesAs = ReadsAs;
      asks_as = sends_ask;
      signals_as = sends_signal;
      asks_quiet = read_quiet;
      arrives_as = λ y r h iu b e l o a c. subst (λ (v : Receiver). ReadsAs (read_arrival_of v (encode h iu) (length b)).left (arrival_of r h.offset h.flags.cdp (length iu) (length b)).left × (storing (read_arrival_of v (encode h iu) (length b)).says (header_in (encode h iu)).offset (iu_of (encode h iu)) b ≡ storing (arrival_of r h.offset h.flags.cdp (length iu) (length b)).says h.offset iu b)) (sym e.is) (reads_on r e.read h iu b tptt l o a c, lands r e.read h iu b tptt l o a c);
      steady = read_steady;
      late_sends = λ c l x s e h. sender_late c l x s e;
      late_receives = reader_late;
      passes_as = λ c t. absurd t;
      times_lend = λ c t. absurd t;
    }

-- each record stands for itself
pub read_is : (tptt : ℕ) (x s : Sender) → (read_simulates tptt).SendsAs x s → x ≡ s
unfolding read_simulates
read_is tptt x s a = a.is

pub read_sends : (tptt : ℕ) (s : Sender) → s.transfer.write ≡ false → (read_simulates tptt).SendsAs s s
unfolding read_simulates
read_sends tptt s v = record { is = refl; read = v }

pub read_takes : (tptt : ℕ) (r : Receiver) → r.transfer.write ≡ false → (read_simulates tptt).TakesAs r r
unfolding read_simulates
read_takes tptt r v = record { is = refl; read = v }

pub read_filled : (tptt : ℕ) (y r : Receiver) → (read_simulates tptt).TakesAs y r → y.filled ≡ r.filled
unfolding read_simulates
read_filled tptt y r a = ap (λ (v : Receiver). v.filled) a.is
