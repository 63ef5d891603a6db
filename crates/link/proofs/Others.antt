-- What holds of the calls between the link's events: one that is refused or changes nothing leaves the world as it is.
use Prim.Native.Nat.{ℕ}
use mathlib.Core.List.{List, []}
use mathlib.Core.Bool.{true}
use mathlib.Core.Logic.{inl, inr}
use mathlib.Core.Path.{◌≡◌, refl, ap}
use Rattle.status.specs.Answer.{Said, Left, refuses}
use Rattle.status.proofs.Leaves.{refusing}
use Rattle.link.specs.Ports.{Called, lending, Signal, Ports}
use Rattle.link.specs.World.{World, Report, Call, noted, sends, receives, called, receiving≔, Harmless, Idle}
use Rattle.status.specs.Pick.{◌with◌}

-- a refused call leaves the record, and what it was lent
pub record Steady (P : Ports) : Type 0 where
  pub ask_refused : (x : P.Sending) (d out : List ℕ) → refuses (P.ask x d out).says ≡ true → (P.ask x d out).left ≡ x
  pub signal_refused : (g : Signal) (x : P.Sending) → refuses (P.signal g x).says ≡ true → (P.signal g x).left ≡ x
  pub send_call_refused : (c : P.SendCall) (x : P.Sending) → refuses (P.send_call c x).says ≡ true → (P.send_call c x).left ≡ x
  pub receive_call_refused : (c : P.ReceiveCall) (y : P.Receiving) (b : List ℕ) → refuses (P.receive_call c y b).says ≡ true → ((P.receive_call c y b).left ≡ y) × ((P.receive_call c y b).lent ≡ b)

-- a refusal is no report
refused_quiet : (a : Said) (q : Report) → refuses a ≡ true → noted a q ≡ q
refused_quiet a q = refusing (λ (b : Said). noted b q ≡ q) (λ n. refl) a

module _ {P : Ports} (T : Steady P) (w : World P) where
  sends_same : (x : Left P.Sending) → x.left ≡ w.sending → noted x.says w.report ≡ w.report → sends w x ≡ w
  sends_same x e q i = record { sending = e i; receiving = w.receiving; sent = w.sent; received = w.received; frames = w.frames; confirmations = w.confirmations; tally = w.tally; handed = w.handed; report = q i }

  receives_same : (x : Called P.Receiving) → x.left ≡ w.receiving → x.lent ≡ w.received → receives w x ≡ w
  receives_same x e q i = record { sending = w.sending; receiving = e i; sent = w.sent; received = q i; frames = w.frames; confirmations = w.confirmations; tally = w.tally; handed = w.handed; report = w.report }

  harmless_send : (b : List ℕ) (x : Called P.Sending) → (refuses x.says ≡ true → x.left ≡ w.sending) → Harmless w.sending b w.report x → sends w (record { left = x.left; says = x.says }) ≡ w
  harmless_send b x f (inl e) = sends_same (record { left = x.left; says = x.says }) (f e) (refused_quiet x.says w.report e)
  harmless_send b x f (inr e) = sends_same (record { left = x.left; says = x.says }) e.0 e.2

  left_same : (b : List ℕ) (x : Called P.Receiving) → (refuses x.says ≡ true → (x.left ≡ w.receiving) × (x.lent ≡ b)) → Harmless w.receiving b w.report x → (x.left ≡ w.receiving) × (x.lent ≡ b)
  left_same b x f (inl e) = f e
  left_same b x f (inr e) = (e.0, e.1)

  pub idle_same : (k : Call P) → Idle w k → called w k ≡ w
  idle_same (Call.asking d out) h = harmless_send out (P.ask w.sending d out) (T.ask_refused w.sending d out) h
  idle_same (Call.signals g) h = harmless_send [] (lending (P.signal g w.sending) []) (T.signal_refused g w.sending) h
  idle_same (Call.at_sender c) h = harmless_send [] (lending (P.send_call c w.sending) []) (T.send_call_refused c w.sending) h
  idle_same (Call.at_receiver c) h = let s = left_same w.received (P.receive_call c w.receiving w.received) (T.receive_call_refused c w.receiving w.received) h in receives_same (P.receive_call c w.receiving w.received) s.0 s.1
  idle_same (Call.at_receiver_in c b) h = ap (λ (y : P.Receiving). w with receiving≔ y) (left_same b (P.receive_call c w.receiving b) (T.receive_call_refused c w.receiving b) h).0
