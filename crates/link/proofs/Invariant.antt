-- What holds of the world while the sending port has reported nothing (Live), and once it has (Done).
-- The groups speak of field values, so an event that leaves a value alone leaves the group as it is.
use Prim.Native.Nat.{ℕ, ◌+◌, ◌-◌, ◌*◌, ◌≤◌, ◌<◌}
use mathlib.Core.List.{List, []}
use mathlib.Core.Bool.{Bool, true, false}
use mathlib.Core.Logic.{◌⊎◌}
use mathlib.Core.Path.{◌≡◌}
use lib.ListN.{length, get_or}
use Rattle.sender_steps.specs.Record.{holds_of}
use Rattle.sender_steps.specs.declared.types.Sender.{Sender}
use Rattle.receiver_steps.specs.Record as receiver
use Rattle.receiver_steps.specs.declared.types.Receiver.{Receiver}
use Rattle.link.specs.Ports.{Ports}
use Rattle.link.specs.Tally.{Confirmation}
use Rattle.link.specs.World.{World, Report}
use Rattle.link.proofs.Setting.{Setting, Sends, Takes, place, within, enough, piece}
use Rattle.link.proofs.Simulates.{Simulates}
use Rattle.link.proofs.Flight.{Flight, AllAck, SomeNak}

module _ (S : Setting) where
  -- what is stored is right: below the filled mark the sender's bytes, else as at the start
  pub record Stored (sent received : List ℕ) (filled : ℕ) : Type 0 where
    pub source : sent ≡ S.source
    pub size : length received ≡ length S.before
    pub right : (i : ℕ) → S.base ≤ i → i < filled → get_or received i 0 ≡ get_or S.source (i - S.start) 0
    pub rest : (i : ℕ) → (i < S.base) ⊎ (filled ≤ i) → get_or received i 0 ≡ get_or S.before i 0

  -- next offset and restart point by frame numbers j and m
  pub record Marked (write : Bool) (next balance m j : ℕ) : Type 0 where
    pub next_at : next ≡ place S j
    pub balance_at : balance ≡ place S m
    pub restart_in : within S m
    pub all_in : (i : ℕ) → i < j → within S i
    pub from_base : write ≡ true → m ≡ 0

  -- conservation: what is unanswered is on the way or lost; the frames on the way are those from k up to j
  pub record Linked (frames : List (List ℕ)) (answers : List Confirmation) (unanswered lost owed : ℕ) (cdp c : Bool) (k m j : ℕ) : Type 0 where
    pub flight : Flight (piece S) c k cdp j frames
    pub pointed : c ≡ true → k ≡ m
    pub from : m ≤ k
    pub conserved : length frames + length answers + lost ≡ owed
    pub same : unanswered ≡ owed

  -- a NAK is pending only with frames unanswered; those were handed out in this attempt; else a frame is due
  pub record Pending (nak cdp : Bool) (owed next m j : ℕ) : Type 0 where
    pub nak_owed : nak ≡ true → 0 < owed
    pub begun : 0 < owed → (m < j) × (cdp ≡ false)
    pub undone : owed ≡ 0 → next ≡ S.end → ⊥

  -- frames and retries are counted, R in all, and the retries are paid for by faults
  pub record Counted (frames retries : ℕ) (handed : List (List ℕ)) (faults R m j : ℕ) : Type 0 where
    pub frames_are : frames ≡ length handed
    pub most : length handed ≤ R * enough S + j
    pub since : retries ≤ R
    pub ever : R ≤ S.limit * m + retries
    pub paid : R ≤ faults

  -- a clean attempt is in step
  abbrev pub InStep : Bool → ℕ → Bool → ℕ → ℕ → Type 0
  InStep c k waiting expected filled = (filled ≡ S.end) ⊎ ((c ≡ true) ⊎ ((waiting ≡ false) × (expected ≡ place S k)))

  abbrev pub Dirty : List Confirmation → Bool → ℕ → Type 0
  Dirty answers nak lost = SomeNak answers ⊎ ((nak ≡ true) ⊎ (0 < lost))

  pub data Standing (answers : List Confirmation) (nak : Bool) (lost : ℕ) (c : Bool) (k : ℕ) (waiting : Bool) (expected filled R faults : ℕ) : Type 0 where
    clean : AllAck answers → nak ≡ false → lost ≡ 0 → InStep c k waiting expected filled → Standing answers nak lost c k waiting expected filled R faults
    dirty : Dirty answers nak lost → R < faults → Standing answers nak lost c k waiting expected filled R faults

  module _ {P : Ports} (M : Simulates P S.tptt) where
    pub record Ported (y : P.Receiving) (s : Sender) (r : Receiver) : Type 0 where
      pub takes : M.TakesAs y r
      pub send_for : Sends S s
      pub take_for : Takes S r
      pub s_holds : holds_of s ≡ true
      pub s_open : s.ended ≡ false
      pub r_holds : receiver.holds_of r ≡ true
      pub r_open : r.ended ≡ false

    -- the same with another sending record
    pub ported_as : {y : P.Receiving} {s s' : Sender} {r : Receiver} → Ported y s r → Sends S s' → holds_of s' ≡ true → s'.ended ≡ false → Ported y s' r
    ported_as p f h o = record { takes = p.takes; send_for = f; take_for = p.take_for; s_holds = h; s_open = o; r_holds = p.r_holds; r_open = p.r_open }

    pub record Live (w : World P) : Type 0 where
      pub s : Sender
      pub r : Receiver
      pub c : Bool
      pub k : ℕ
      pub m : ℕ
      pub j : ℕ
      pub R : ℕ
      pub sends : M.SendsAs w.sending s
      pub ported : Ported w.receiving s r
      pub stored : Stored w.sent w.received r.filled
      pub reached : place S m ≤ r.filled
      pub marked : Marked s.transfer.write s.next s.balance m j
      pub linked : Linked w.frames w.confirmations w.tally.unanswered w.tally.lost s.unanswered s.cdp c k m j
      pub pending : Pending s.nak s.cdp s.unanswered s.next m j
      pub counted : Counted s.frames s.retries w.handed w.tally.faults R m j
      pub standing : Standing w.confirmations s.nak w.tally.lost c k r.waiting r.expected r.filled R w.tally.faults
      pub silent : w.report ≡ Report.none

    pub live : {w : World P} (s : Sender) (r : Receiver) (c : Bool) (k m j R : ℕ) → M.SendsAs w.sending s → Ported w.receiving s r →
        Stored w.sent w.received r.filled → place S m ≤ r.filled → Marked s.transfer.write s.next s.balance m j →
        Linked w.frames w.confirmations w.tally.unanswered w.tally.lost s.unanswered s.cdp c k m j → Pending s.nak s.cdp s.unanswered s.next m j →
        Counted s.frames s.retries w.handed w.tally.faults R m j →
        Standing w.confirmations s.nak w.tally.lost c k r.waiting r.expected r.filled R w.tally.faults → w.report ≡ Report.none → Live w
    live s r c k m j R h p st re ma li pe co sta si =
        record { s = s; r = r; c = c; k = k; m = m; j = j; R = R; sends = h; ported = p; stored = st; reached = re; marked = ma; linked = li; pending = pe; counted = co; standing = sta; silent = si }

    -- what was reported: delivery of every byte, or a failure that took more faults than the limit
    pub data Reported (received : List ℕ) (handed : List (List ℕ)) (faults : ℕ) : Report → Type 0 where
      delivers : ((i : ℕ) → S.base ≤ i → i < S.end → get_or received i 0 ≡ get_or S.source (i - S.start) 0) → Reported received handed faults (Report.delivered (length handed))
      fails : (f : ℕ) → 28 ≤ f → f ≤ 30 → S.limit < faults → Reported received handed faults (Report.failed f (length handed))

    -- nothing moves any more
    pub record Done (w : World P) : Type 0 where
      pub s : Sender
      pub sends : M.SendsAs w.sending s
      pub send_for : Sends S s
      pub s_holds : holds_of s ≡ true
      pub rests : (s.ended ≡ true) ⊎ ((s.ended ≡ false) × (s.unanswered ≡ 0) × (s.next ≡ s.burst.end))
      pub no_frames : w.frames ≡ []
      pub no_answers : w.confirmations ≡ []
      pub none_open : w.tally.unanswered ≡ 0
      pub source : w.sent ≡ S.source
      pub size : length w.received ≡ length S.before
      pub rest : (i : ℕ) → (i < S.base) ⊎ (S.end ≤ i) → get_or w.received i 0 ≡ get_or S.before i 0
      pub bounded : length w.handed ≤ enough S * (1 + w.tally.faults)
      pub reported : Reported w.received w.handed w.tally.faults w.report

    pub done : {w : World P} (s : Sender) → M.SendsAs w.sending s → Sends S s → holds_of s ≡ true →
        (s.ended ≡ true) ⊎ ((s.ended ≡ false) × (s.unanswered ≡ 0) × (s.next ≡ s.burst.end)) → w.frames ≡ [] → w.confirmations ≡ [] → w.tally.unanswered ≡ 0 → w.sent ≡ S.source →
        length w.received ≡ length S.before → ((i : ℕ) → (i < S.base) ⊎ (S.end ≤ i) → get_or w.received i 0 ≡ get_or S.before i 0) →
        length w.handed ≤ enough S * (1 + w.tally.faults) → Reported w.received w.handed w.tally.faults w.report → Done w
    done s h f sh re nf na op so si rs bo rp =
        record { s = s; sends = h; send_for = f; s_holds = sh; rests = re; no_frames = nf; no_answers = na; none_open = op; source = so; size = si; rest = rs; bounded = bo; reported = rp }

    abbrev pub Inv : World P → Type 0
    Inv w = Live w ⊎ Done w
