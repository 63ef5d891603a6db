-- What holds after a list of link events from a start of one burst: demand 3's six parts, and two that leave no room beside them, one record.
use Rattle.std.specs.Prelude.{ℕ, ◌+◌, ◌-◌, ◌*◌, ◌/◌, ◌≤◌, ◌<◌, List, [], ◌⊎◌, ◌≡◌, length, get_or, leb}
use Rattle.status.specs.Pick.{pick}
use Rattle.status.specs.Answer.{Word, Said, view}
use Rattle.link.specs.Ports.{Signal, Ports}
use Rattle.link.specs.Tally.{nothing}
use Rattle.link.specs.World.{World, Report, Reported}

-- the burst that is delivered: where the sending buffer begins in the receiving one, the burst's offsets, the data size, the retry limit
pub record BurstParameters : Type 0 where
  pub start : ℕ
  pub base : ℕ
  pub end : ℕ
  pub size : ℕ
  pub limit : ℕ

-- "A faultless transfer needs the burst divided by the data size, rounded up"
abbrev pub faultless : BurstParameters → ℕ
faultless b = (b.end - b.base + (b.size - 1)) / b.size

-- nothing has happened yet between two ports
abbrev pub fresh : (P : Ports) → P.Sending → P.Receiving → List ℕ → List ℕ → World P
fresh P s r sent received =
    record {
      sending = s;
      receiving = r;
      sent = sent;
      received = received;
      frames = [];
      confirmations = [];
      tally = nothing;
      handed = [];
      report = Report.none;
    }

module _ {P : Ports} where
  -- the sending port "has reported, or says wait with nothing unanswered"
  abbrev pub Concluded : World P → Type 0
  Concluded w =
      Reported w ⊎
      ((w.tally.unanswered ≡ 0) × ((out : List ℕ) × ((P.ask w.sending w.sent out).says ≡ Said.word Word.wait)))

  abbrev pub Delivered : World P → Type 0
  Delivered w = (n : ℕ) × (w.report ≡ Report.delivered n)

  -- "failure 28, 29 or 30"
  abbrev pub LinkFailed : World P → Type 0
  LinkFailed w = (f : ℕ) × ((n : ℕ) × (w.report ≡ Report.failed f n) × (28 ≤ f) × (f ≤ 30))

  -- w after a list of events that began at the world `first`
  pub record Delivers (b : BurstParameters) (first w : World P) : Type 0 where
    -- 1: "if the sending port reported delivery, every byte of the burst stands in the receiving buffer as in the sending one"; request K5: "byte i of the sender is at
    -- start plus i in the receiver". In a read that is every byte of the sending buffer; in a write burst the start is 0, so it is "at the same offset"
    pub stored : Delivered w → (i : ℕ) → b.base ≤ b.start + i → b.start + i < b.end → get_or w.received (b.start + i) 0 ≡ get_or first.sent i 0
    -- 2: "and no other byte changed"; "only the receiving port writes, in its own"
    pub untouched : ((i : ℕ) → (i < b.base) ⊎ (b.end ≤ i) → get_or w.received i 0 ≡ get_or first.received i 0) × (length w.received ≡ length first.received) × (w.sent ≡ first.sent)
    -- 3: "The DATA frames handed out are at most those of a faultless transfer times one more than the faults"
    pub bounded : length w.handed ≤ faultless b * (1 + w.tally.faults)
    -- 4: the count in the report is the length of the history of frames
    pub counted : (f n : ℕ) → (w.report ≡ Report.delivered n) ⊎ (w.report ≡ Report.failed f n) → n ≡ length w.handed
    -- 5: "A sending port that has reported, or says wait with nothing unanswered, has reported delivery, or failure 28, 29 or 30"
    pub concluded : Concluded w → Delivered w ⊎ LinkFailed w
    -- 6: "with no more faults than the retry limit, delivery"
    pub succeeds : Concluded w → w.tally.faults ≤ b.limit → Delivered w
    -- 7: the report is the only one: after it no frame asked for, with any buffers, and no ACK, NAK, timeout or cut reports anything
    pub once : Reported w →
        ((d out : List ℕ) → (view (P.ask w.sending d out).says).report ≡ Report.none) ×
        ((g : Signal) → (g ≡ Signal.loss → ⊥) → (view (P.signal g w.sending).says).report ≡ Report.none)
    -- 8: with no report and nothing unanswered a frame is due, of n bytes: asked for, it is handed out, or 3 where the output buffer is shorter
    pub goes_on : w.report ≡ Report.none → w.tally.unanswered ≡ 0 →
        (n : ℕ) × (24 < n) × (n ≤ 1_048) × ((out : List ℕ) → (P.ask w.sending w.sent out).says ≡ pick (leb n (length out)) (Said.frame n) (Said.refused 3))
