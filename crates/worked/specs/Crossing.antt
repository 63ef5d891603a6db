-- XFER_RDYs at either port, without a link: one that crosses resent data, one that repeats a burst, the target's tags. Proved in proofs/Crossing.antt.
use Rattle.std.specs.Prelude.{ℕ, ◌+◌, List, [], ◌∷◌, ◌++◌, true, ◌≡◌, replicate}
use Rattle.status.specs.Answer.{Word, Taking, Said, ◌saying◌}
use Rattle.status.specs.Pick.{◌with◌}
use Rattle.initiator.specs.Fields.{pending≔, taken≔}
use Rattle.initiator.specs.WriteRecord.{start_of}
use Rattle.initiator.specs.WriteTake.{write_arrival_of}
use Rattle.initiator.specs.declared.types.Writer.{Writer}
use Rattle.target.specs.Record as target
use Rattle.target.specs.declared.types.Target.{Target}
use Rattle.link.specs.Ports.{Called, lending, frame_in, Signal}
use Rattle.link.specs.Writing.{write_ports}
use Rattle.link.specs.Calls.{TargetCall}
use Rattle.worked.specs.Setting.{between, ten, space, response, busy}
use Rattle.worked.specs.Write.{host, device, ready, xfer_rdy_for, xfer_rdy, data_frame, writer, sent_first}

-- a list of calls at a port: the record it leaves, its answers, the frames it hands out
abbrev pub calls : {X : Type 0} → X → List (X → Called X) → X
calls x [] = x
calls x (c ∷ cs) = calls (c x).left cs

abbrev pub said : {X : Type 0} → X → List (X → Called X) → List Said
said x [] = []
said x (c ∷ cs) = (c x).says ∷ said (c x).left cs

abbrev pub frames_of : {X : Type 0} → X → List (X → Called X) → List (List ℕ)
frames_of x [] = []
frames_of x (c ∷ cs) = frame_in (c x).says (c x).lent ++ frames_of (c x).left cs

-- at the initiator: a frame asked for, a confirmation, an arrival
abbrev pub asks : Writer → Called Writer
asks w = write_ports.ask w ten space

abbrev pub hears : Signal → Writer → Called Writer
hears g w = lending (write_ports.signal g w) []

abbrev pub takes : List ℕ → Writer → Called Writer
takes f w = lending (write_ports.send_call f w) []

-- the first of burst 1's two frames is handed out; then the second, a timeout, the first again; then the second again: two unanswered
abbrev pub opened : Writer
opened = writer 0 0 5 4 4 1 0 1

abbrev pub resent_one : Writer
resent_one = writer 0 0 5 4 5 1 1 3

abbrev pub resent_both : Writer
resent_both = writer 0 0 5 5 5 2 1 4

-- a burst of five bytes is pending, with its TPTT
abbrev pub waits : ℕ → ℕ → Writer → Writer
waits base tptt w = w with pending≔ true with taken≔ (record { base = base; end = base + 5; tptt = tptt; limit = 3 })

-- burst 2 is: burst 1 has so many frames unanswered, one retry, four frames handed out
abbrev pub crossed : ℕ → ℕ → Writer
crossed unanswered tptt = waits 5 tptt (writer 0 0 5 5 5 unanswered 1 4)

-- burst 2 has started, with its TPTT: next offset 5, its base; nothing unanswered, no retry, no frame
abbrev pub started : ℕ → Writer
started tptt = writer tptt 5 10 5 5 0 0 0

-- the first frame of burst 2 under TPTT 1: offset 5, CDP zero
abbrev pub first_frame : List ℕ
first_frame = data_frame 1 5 0 (15 ∷ 16 ∷ 17 ∷ 18 ∷ [])

-- the XFER_RDY for burst 2 crosses burst 1's resent data
pub record Crossing : Type 0 where
  -- burst 1 from set_up
  pub opens : calls (start_of host) (takes (xfer_rdy 4 0 0) ∷ asks ∷ []) ≡ opened
  pub resends_one : calls opened (asks ∷ hears Signal.timeout ∷ asks ∷ []) ≡ resent_one
  pub resends_both : calls resent_one (asks ∷ []) ≡ resent_both
  -- the XFER_RDY is taken, "the old burst then counts as delivered", after four frames; burst 2 is pending
  pub taken : write_arrival_of resent_both (xfer_rdy 4 1 5) ≡ (crossed 2 1 saying Said.xfer_rdy (Taking.delivers 4))
  -- "till then wait", and the confirmations report nothing; then a frame
  pub answers :
      said (crossed 2 1) (asks ∷ hears Signal.nak ∷ asks ∷ hears Signal.ack ∷ asks ∷ []) ≡
      Said.word Word.wait ∷ Said.word Word.taken ∷ Said.word Word.wait ∷ Said.word Word.taken ∷ Said.frame 28 ∷ []
  -- "answers, timeout or cut only lower or clear the count, with no retry and no failure"
  pub nak_lowers : (hears Signal.nak (crossed 2 1)).left ≡ crossed 1 1
  pub ack_lowers : (hears Signal.ack (crossed 2 1)).left ≡ crossed 1 1
  pub nak_starts : (hears Signal.nak (crossed 1 1)).left ≡ started 1
  pub ack_starts : (hears Signal.ack (crossed 1 1)).left ≡ started 1
  pub timeout_starts : (hears Signal.timeout (crossed 2 1)).left ≡ started 1
  pub cut_starts : (hears Signal.cut (crossed 2 1)).left ≡ started 1
  pub carries : frames_of (started 1) (asks ∷ []) ≡ first_frame ∷ []
  -- no call leaves it so, but a record may say that burst 2 is pending with nothing unanswered: it starts when a frame is asked for
  pub asked_starts : calls (crossed 0 1) (asks ∷ []) ≡ writer 1 5 10 9 9 1 0 1
  pub asked_carries : frames_of (crossed 0 1) (asks ∷ []) ≡ first_frame ∷ []
  -- where the delivery of burst 1 was reported, that is not told again, and burst 2 starts at once
  pub next : write_arrival_of sent_first (xfer_rdy 4 1 5) ≡ (started 1 saying Said.xfer_rdy Taking.next)
  -- "if every frame of that burst was handed out at least once, else 27"
  pub too_early : (write_arrival_of opened (xfer_rdy 4 1 5)).says ≡ Said.failed 27 1
  pub once_is_enough : (write_arrival_of resent_one (xfer_rdy 4 1 5)).says ≡ Said.xfer_rdy (Taking.delivers 3)
  -- "with RETRANSMIT one it also takes the previous base, at any time", started or not; else that base is 26
  pub again : write_arrival_of opened (xfer_rdy 6 1 0) ≡ (waits 0 1 opened saying Said.xfer_rdy Taking.repeats)
  pub again_later : (write_arrival_of resent_both (xfer_rdy 6 1 0)).says ≡ Said.xfer_rdy Taking.repeats
  pub again_pending : write_arrival_of (crossed 2 1) (xfer_rdy 6 2 5) ≡ (crossed 2 2 saying Said.xfer_rdy Taking.repeats)
  pub not_again : (write_arrival_of opened (xfer_rdy 4 1 0)).says ≡ Said.failed 26 1
  -- a RESPONSE tells the frames of the burst in service: burst 1's while burst 2 is pending, then those of burst 2
  pub ends_first : (write_arrival_of resent_both response).says ≡ Said.response 24 24 busy 4
  pub ends_pending : (write_arrival_of (crossed 2 1) response).says ≡ Said.response 24 24 busy 4
  pub ends_second : (write_arrival_of (started 1) response).says ≡ Said.response 24 24 busy 0

-- at the target: an XFER_RDY asked for, a confirmation of it, an arrival
abbrev pub issues : Target → Called Target
issues y = write_ports.receive_call TargetCall.asking y ready

abbrev pub signalled : Signal → Target → Called Target
signalled g y = write_ports.receive_call (TargetCall.signals g) y []

abbrev pub stores : List ℕ → Target → Called Target
stores f y = write_ports.receive_call (TargetCall.bytes f) y (replicate 10 0xff)

-- each burst of ten bytes in bursts of four: its XFER_RDY is handed out, has its ACK, and one frame fills it
abbrev pub three_bursts : List (Target → Called Target)
three_bursts =
    issues ∷ signalled Signal.ack ∷ stores (data_frame 0 0 0 (10 ∷ 11 ∷ 12 ∷ 13 ∷ [])) ∷
    issues ∷ signalled Signal.ack ∷ stores (data_frame 1 4 0 (14 ∷ 15 ∷ 16 ∷ 17 ∷ [])) ∷
    issues ∷ signalled Signal.ack ∷ stores (data_frame 0 8 2 (18 ∷ 19 ∷ 0 ∷ 0 ∷ [])) ∷ issues ∷ []

abbrev pub fours : Target
fours = target.start_of (between 0xabcdef 0x123456 true 10 2 3 4)

-- "a new TPTT", "the lowest number from 0 that is not in use"; resent with RETRANSMIT one, "the rest the same"
pub record Tags : Type 0 where
  -- no DATA is stored: 0, 1, 2
  pub resent :
      frames_of (target.start_of device) (issues ∷ signalled Signal.timeout ∷ issues ∷ signalled Signal.nak ∷ issues ∷ []) ≡
      xfer_rdy 4 0 0 ∷ xfer_rdy 6 1 0 ∷ xfer_rdy 6 2 0 ∷ []
  -- "earlier tags leave use when DATA is stored under a later one": burst 1 is filled under 1, so burst 2 has 0, then 2
  pub freed :
      frames_of (target.start_of device)
      (issues ∷ signalled Signal.cut ∷ issues ∷ signalled Signal.ack ∷
      stores (data_frame 1 0 0 (10 ∷ 11 ∷ 12 ∷ 13 ∷ [])) ∷ stores (data_frame 1 4 3 (14 ∷ 0 ∷ 0 ∷ 0 ∷ [])) ∷
      issues ∷ signalled Signal.timeout ∷ issues ∷ []) ≡
      xfer_rdy 4 0 0 ∷ xfer_rdy 6 1 0 ∷ xfer_rdy 4 0 5 ∷ xfer_rdy 6 2 5 ∷ []
  -- "the lesser of the burst size and what remains": 4, 4 and 2 bytes; 0, then 1, and 0 again, which left use with the store under 1; then "wait"
  pub three : frames_of fours three_bursts ≡ xfer_rdy_for 4 0 0 4 ∷ xfer_rdy_for 4 1 4 4 ∷ xfer_rdy_for 4 0 8 2 ∷ []
  pub three_said :
      said fours three_bursts ≡
      Said.frame 36 ∷ Said.word Word.acknowledged ∷ Said.received ∷ Said.frame 36 ∷ Said.word Word.acknowledged ∷ Said.received ∷
      Said.frame 36 ∷ Said.word Word.acknowledged ∷ Said.received ∷ Said.word Word.wait ∷ []
