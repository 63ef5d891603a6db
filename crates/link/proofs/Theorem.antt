-- Demand 3: the delivery claim holds from every start (specs/Claim `Starts`), after every allowed list of link events.
use Prim.Native.Nat.{ℕ, ◌≤◌}
use mathlib.Core.List.{List}
use mathlib.Core.Bool.{Bool, true, false, not, false≢true}
use mathlib.Core.Logic.{inl, inr}
use mathlib.Core.Path.{◌≡◌, refl, sym, ap, subst₂}
use native.Mathlib.Nat.{zero-mul}
use native.Mathlib.Omega.{arith}
use lib.ListN.{length}
use Rattle.status.specs.Pick.{pick, all}
use Rattle.status.specs.Result.{Result, granted}
use Rattle.status.proofs.OpenedCall.{differ}
use Rattle.status.proofs.Choose.{each}
use Rattle.transfer.specs.Limits.{past, limits_hold}
use Rattle.transfer.specs.declared.Transfer.{Transfer}
use Rattle.transfer.proofs.Bounds.{bounds}
use Rattle.sender.specs.Record as sender
use Rattle.sender_steps.specs.Record as sender-step
use Rattle.sender_steps.specs.declared.types.Sender.{Sender}
use Rattle.sender.proofs.Kept as sender-kept
use Rattle.receiver.specs.Record as receiver
use Rattle.receiver_steps.specs.Record as receiver-step
use Rattle.receiver_steps.specs.declared.types.Receiver.{Receiver}
use Rattle.receiver.proofs.Kept as receiver-kept
use Rattle.link.specs.World.{World}
use Rattle.link.specs.Delivers.{fresh}
use Rattle.link.specs.Claim.{Alike, Starts, Always, DeliveryClaim}
use Rattle.link.specs.Reading.{read_ports}
use Rattle.link.proofs.ReadSetting.{setting}
use Rattle.link.proofs.Flight.{Flight}
use Rattle.link.proofs.Invariant.{Standing, Live, live}
use Rattle.link.proofs.ReadSimulates.{read_simulates, read_sends, read_takes, read_filled}
use Rattle.link.proofs.Delivery.{delivers}
use Rattle.link.proofs.Filled.{Fills, fills}
use Rattle.link.proofs.Exchange.{write_delivers}

-- what a set_up that is not refused says
set_up : {X : Type 0} (ok : Bool) (x y : X) → granted ok x ≡ Result.value y → (ok ≡ true) × (x ≡ y)
unfolding granted pick
set_up true x y e = (refl, cc)
set_up false x y e = differ (cc)

read_only : (w : Bool) → not w ≡ true → w ≡ false
read_only true e = absurd (false≢true e)
read_only false e = refl

module _ (t u : Transfer) (d b : List ℕ) (tl : limits_hold t ≡ true) (tr : t.write ≡ false) (ul : limits_hold u ≡ true) (ur : u.write ≡ false) (a : Alike t u) (on : 1 ≤ t.limit) (dl : length d ≡ t.count) (bl : past t ≤ length b) where
  abbrev sent_of : Sender
  sent_of = sender-step.beginning t (sender.whole t)

  abbrev got_of : Receiver
  got_of = receiver-step.beginning u u.start (past u)

  begins : Live (setting t u d b tl tr ul ur a on dl bl) (read_simulates t.value) (fresh read_ports sent_of got_of d b)
  unfolding pick
  begins =
      let lt = bounds t tl in
      let z = zero-mul t.size in
      live (setting t u d b tl tr ul ur a on dl bl) (read_simulates t.value) sent_of got_of false 0 0 0 0 (read_sends t.value sent_of tr)
      (record {
        takes = read_takes t.value got_of ur;
        send_for = record { transfer = refl; limit = refl; tptt = ap (λ (v : Bool). pick v 0 t.value) tr; base = refl; end = refl };
        take_for = record { transfer = refl; base = sym a.start; end = omega (arith, a.start, a.count) };
        s_holds = sender-kept.begins_holds t (sender.whole t) tl (omega arith) (omega arith) (omega arith) (omega arith);
        s_open = refl;
        r_holds = receiver-kept.begins_holds u u.start (past u) ul (omega arith) (omega arith) (omega arith);
        r_open = refl;
      })
      (record { source = refl; size = refl; right = λ i lo hi. absurd (omega arith); rest = λ i h. refl }) (omega arith)
      (record { next_at = omega arith; balance_at = omega arith; restart_in = omega (arith, lt.count_least); all_in = λ i h. absurd (omega arith); from_base = λ q. refl })
      (record { flight = Flight.none; pointed = λ q. refl; from = omega arith; conserved = refl; same = refl })
      (record { nak_owed = λ q. absurd (false≢true q); begun = λ q. absurd (omega arith); undone = λ q e. omega (arith, lt.count_least) })
      (record { frames_are = refl; most = omega arith; since = omega arith; ever = omega arith; paid = omega arith })
      (Standing.clean tt refl refl (inr (inr (refl, omega arith)))) refl

-- what holds of both ports as they begin holds of those that were set up
set_up_as : (t u : Transfer) (s : Sender) (r : Receiver) (d b : List ℕ) (Q : World read_ports → Type 0) → sender.set_up_read_of t ≡ Result.value s → receiver.set_up_read_of u ≡ Result.value r →
    (limits_hold t ≡ true → t.write ≡ false → limits_hold u ≡ true → u.write ≡ false → Q (fresh read_ports (sender-step.beginning t (sender.whole t)) (receiver-step.beginning u u.start (past u)) d b)) → Q (fresh read_ports s r d b)
set_up_as t u s r d b Q hs hr f =
    let x = set_up (all (sender.set_up_tests t)) _ s hs in
    let y = set_up (all (receiver.set_up_tests u)) _ r hr in
    let xs = each (sender.set_up_tests t) x.0 in
    let ys = each (receiver.set_up_tests u) y.0 in
    subst₂ (λ (v : Sender) (q : Receiver). Q (fresh read_ports v q d b)) x.1 y.1 (f xs.0 (read_only t.write xs.1.0) ys.0 (read_only u.write ys.1.0))

pub delivery : DeliveryClaim
delivery P x b w (Starts.read t u s r d e hs hr a on dl bl) =
    set_up_as t u s r d e (Always (record { start = t.start; base = t.start; end = past t; size = t.size; limit = t.limit })) hs hr
    (λ tl tr ul ur. delivers (setting t u d e tl tr ul ur a on dl bl) (read_simulates t.value) _ (refl, refl) (inl (begins t u d e tl tr ul ur a on dl bl)))
delivery P z b w (Starts.write x y out d e n hx ox zx a on dl el hands took acks) = write_delivers x y out d e n hx ox zx a on dl el hands took acks

-- with the report of a read's delivery the initiator's filled mark is start plus count
pub read_fills : (t u : Transfer) (s : Sender) (r : Receiver) (d b : List ℕ) → sender.set_up_read_of t ≡ Result.value s → receiver.set_up_read_of u ≡ Result.value r → Alike t u → 1 ≤ t.limit →
    length d ≡ t.count → past t ≤ length b → Fills {P = read_ports} (λ v. v.filled) (past t) (fresh read_ports s r d b)
read_fills t u s r d b hs hr a on dl bl =
    set_up_as t u s r d b (Fills {P = read_ports} (λ v. v.filled) (past t)) hs hr
    (λ tl tr ul ur. fills (setting t u d b tl tr ul ur a on dl bl) (read_simulates t.value) (λ v. v.filled) (read_filled t.value) _ (inl (begins t u d b tl tr ul ur a on dl bl)))
