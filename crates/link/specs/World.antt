-- "The link holds frames and answers on the way, in order, at first none": the world that an event meets, and each event.
use Rattle.std.specs.Prelude.{ℕ, List, [], ◌∷◌, ◌++◌, true, false, ◌⊎◌, ◌≡◌, take}
use Rattle.status.specs.Pick.{if_any, ◌with◌}
use Rattle.status.specs.Answer.{Said, view, Left, refuses, fails}
pub use Rattle.status.specs.Report.{Report}
use Rattle.link.specs.Ports.{Called, lending, Signal, Ports}
use Rattle.link.specs.Tally.{Confirmation, Tally, handed_out, frame_lost_of, frame_damaged, confirmation_reached, confirmation_lost_of, cut_fault, timeout_fault, closed}

-- the first report stays
abbrev pub first : Report → Report → Report
first Report.none q = q
first (Report.delivered n) q = Report.delivered n
first (Report.failed f n) q = Report.failed f n

-- what is reported now, if anything, after q
abbrev pub next : Report → Report → Report
next Report.none q = q
next (Report.delivered n) q = first q (Report.delivered n)
next (Report.failed f n) q = first q (Report.failed f n)

abbrev pub noted : Said → Report → Report
noted a q = next (view a).report q

pub record World (P : Ports) : Type 0 where
  pub sending : P.Sending
  pub receiving : P.Receiving
  -- the ports' data buffers
  pub sent : List ℕ
  pub received : List ℕ
  -- on the way: frames as bytes, and confirmations
  pub frames : List (List ℕ)
  pub confirmations : List Confirmation
  pub tally : Tally
  -- the history of frames: every frame handed out, as bytes
  pub handed : List (List ℕ)
  pub report : Report

-- any other call on either port, with any arguments
pub data Call (P : Ports) : Type 0 where
  -- at the sending port: a frame asked for, with a data buffer and an output buffer; a signal; its other entry points
  asking : List ℕ → List ℕ → Call P
  signals : Signal → Call P
  at_sender : P.SendCall → Call P
  -- at the receiving port: lent its own data buffer; lent another
  at_receiver : P.ReceiveCall → Call P
  at_receiver_in : P.ReceiveCall → List ℕ → Call P

pub data Event (P : Ports) : Type 0 where
  -- a frame asked for, with the output buffer that is lent
  ask : List ℕ → Event P
  -- the first frame arrives whole, arrives damaged, is lost
  arrives damaged frame_lost : Event P
  -- the first confirmation reaches the sending port, is lost
  confirmed confirmation_lost : Event P
  timeout cut : Event P
  other : Call P → Event P

abbrev pub signal_of : Confirmation → Signal
signal_of Confirmation.ack = Signal.ack
signal_of Confirmation.nak = Signal.nak

-- "any calls that are refused or change nothing": record, lent buffer and report
abbrev pub Harmless : {X : Type 0} → X → List ℕ → Report → Called X → Type 0
Harmless x b q y = (refuses y.says ≡ true) ⊎ ((y.left ≡ x) × (y.lent ≡ b) × (noted y.says q ≡ q))

module _ {P : Ports} where
  -- the fields that an event sets anew
  abbrev pub sending≔ : P.Sending → World P → World P
  sending≔ v w = record { sending = v; receiving = w.receiving; sent = w.sent; received = w.received; frames = w.frames; confirmations = w.confirmations; tally = w.tally; handed = w.handed; report = w.report }

  abbrev pub receiving≔ : P.Receiving → World P → World P
  receiving≔ v w = record { sending = w.sending; receiving = v; sent = w.sent; received = w.received; frames = w.frames; confirmations = w.confirmations; tally = w.tally; handed = w.handed; report = w.report }

  abbrev pub received≔ : List ℕ → World P → World P
  received≔ v w = record { sending = w.sending; receiving = w.receiving; sent = w.sent; received = v; frames = w.frames; confirmations = w.confirmations; tally = w.tally; handed = w.handed; report = w.report }

  abbrev pub frames≔ : List (List ℕ) → World P → World P
  frames≔ v w = record { sending = w.sending; receiving = w.receiving; sent = w.sent; received = w.received; frames = v; confirmations = w.confirmations; tally = w.tally; handed = w.handed; report = w.report }

  abbrev pub confirmations≔ : List Confirmation → World P → World P
  confirmations≔ v w = record { sending = w.sending; receiving = w.receiving; sent = w.sent; received = w.received; frames = w.frames; confirmations = v; tally = w.tally; handed = w.handed; report = w.report }

  abbrev pub tally≔ : Tally → World P → World P
  tally≔ v w = record { sending = w.sending; receiving = w.receiving; sent = w.sent; received = w.received; frames = w.frames; confirmations = w.confirmations; tally = v; handed = w.handed; report = w.report }

  abbrev pub handed≔ : List (List ℕ) → World P → World P
  handed≔ v w = record { sending = w.sending; receiving = w.receiving; sent = w.sent; received = w.received; frames = w.frames; confirmations = w.confirmations; tally = w.tally; handed = v; report = w.report }

  abbrev pub report≔ : Report → World P → World P
  report≔ v w = record { sending = w.sending; receiving = w.receiving; sent = w.sent; received = w.received; frames = w.frames; confirmations = w.confirmations; tally = w.tally; handed = w.handed; report = v }

  -- the sending port's record after a call on it, with what it reported; the link stays
  abbrev pub sends : World P → Left P.Sending → World P
  sends w x = w with sending≔ x.left with report≔ (noted x.says w.report)

  -- "a frame asked for (one handed out joins)": the frame stands at the front of the output buffer
  abbrev pub joins : Said → World P → List ℕ → World P
  joins a w out =
      if_any (view a).frame (λ n. w with frames≔ (w.frames ++ (take n out ∷ [])) with handed≔ (w.handed ++ (take n out ∷ [])) with tally≔ (handed_out w.tally)) w

  abbrev pub asks : World P → Called P.Sending → World P
  asks w x = joins x.says (sends w (record { left = x.left; says = x.says })) x.lent

  -- the receiving port's record after a call that was lent its own data buffer: what stands in the buffer then is the world's
  abbrev pub receives : World P → Called P.Receiving → World P
  receives w x = w with receiving≔ x.left with received≔ x.lent

  -- "arriving whole (the receiving port gets it, an ACK joins)"
  abbrev pub arrives_whole : World P → List (List ℕ) → World P
  arrives_whole w [] = w
  arrives_whole w (f ∷ fs) = receives w (P.receive_call (P.arrival f) w.receiving w.received) with frames≔ fs with confirmations≔ (w.confirmations ++ (Confirmation.ack ∷ []))

  -- "damaged (kept from it, a NAK joins)"
  abbrev pub arrives_damaged : World P → List (List ℕ) → World P
  arrives_damaged w [] = w
  arrives_damaged w (f ∷ fs) = w with frames≔ fs with confirmations≔ (w.confirmations ++ (Confirmation.nak ∷ [])) with tally≔ (frame_damaged w.tally)

  -- "or lost"
  abbrev pub loses_frame : World P → List (List ℕ) → World P
  loses_frame w [] = w
  loses_frame w (f ∷ fs) = w with frames≔ fs with tally≔ (frame_lost_of w.tally)

  -- "the first answer, if any, reaching the sending port"
  abbrev pub confirms : World P → List Confirmation → World P
  confirms w [] = w
  confirms w (a ∷ rest) = sends (w with confirmations≔ rest with tally≔ (confirmation_reached w.tally)) (P.signal (signal_of a) w.sending)

  -- "or lost"
  abbrev pub loses_confirmation : World P → List Confirmation → World P
  loses_confirmation w [] = w
  loses_confirmation w (a ∷ rest) = w with confirmations≔ rest with tally≔ (confirmation_lost_of a w.tally)

  -- "a timeout or cut told to that port, which closes the connection and clears both"
  abbrev pub closes : World P → Signal → ℕ → World P
  closes w g fault = sends (w with frames≔ [] with confirmations≔ [] with tally≔ (closed fault w.tally)) (P.signal g w.sending)

  -- any other call moves its port's record; it leaves the link as it is
  abbrev pub called : World P → Call P → World P
  called w (asking d out) = let x = P.ask w.sending d out in sends w (record { left = x.left; says = x.says })
  called w (signals g) = sends w (P.signal g w.sending)
  called w (at_sender c) = sends w (P.send_call c w.sending)
  called w (at_receiver c) = receives w (P.receive_call c w.receiving w.received)
  called w (at_receiver_in c b) = w with receiving≔ (P.receive_call c w.receiving b).left

  abbrev pub step : World P → Event P → World P
  step w (ask out) = asks w (P.ask w.sending w.sent out)
  step w arrives = arrives_whole w w.frames
  step w damaged = arrives_damaged w w.frames
  step w frame_lost = loses_frame w w.frames
  step w confirmed = confirms w w.confirmations
  step w confirmation_lost = loses_confirmation w w.confirmations
  step w timeout = closes w Signal.timeout (timeout_fault w.tally)
  step w cut = closes w Signal.cut (cut_fault w.tally)
  step w (other k) = called w k

  abbrev pub run : World P → List (Event P) → World P
  run w [] = w
  run w (e ∷ es) = run (step w e) es

  abbrev pub Idle : World P → Call P → Type 0
  Idle w (asking d out) = Harmless w.sending out w.report (P.ask w.sending d out)
  Idle w (signals g) = Harmless w.sending [] w.report (lending (P.signal g w.sending) [])
  Idle w (at_sender c) = Harmless w.sending [] w.report (lending (P.send_call c w.sending) [])
  Idle w (at_receiver c) = Harmless w.receiving w.received w.report (P.receive_call c w.receiving w.received)
  Idle w (at_receiver_in c b) = Harmless w.receiving b w.report (P.receive_call c w.receiving b)

  -- "No nexus loss, crossing frame or RESPONSE comes before the report": after it nexus loss and RESPONSE are allowed, at either end; a crossing XFER_RDY
  -- begins another burst, whose frames are not this one's. After the report any report of time is allowed
  abbrev pub Late : Call P → Type 0
  Late (asking d out) = ⊥
  Late (signals Signal.loss) = Unit {0}
  Late (signals Signal.ack) = ⊥
  Late (signals Signal.nak) = ⊥
  Late (signals Signal.timeout) = ⊥
  Late (signals Signal.cut) = ⊥
  Late (at_sender c) = P.SendLate c
  Late (at_receiver c) = P.ReceiveLate c
  Late (at_receiver_in c b) = P.ReceiveLate c

  abbrev pub Reported : World P → Type 0
  Reported w = w.report ≡ Report.none → ⊥

  -- request K4: "Reports of time now stand in the delivery rule's lists, and it also assumes that none of them fails the transfer"
  abbrev pub Passes : World P → Call P → Type 0
  Passes w (asking d out) = ⊥
  Passes w (signals g) = ⊥
  Passes w (at_sender c) = ⊥
  Passes w (at_receiver c) = P.ReceiveTimes c × (fails (P.receive_call c w.receiving w.received).says ≡ false)
  -- a report of time is lent no buffer: `at_receiver` stands for it
  Passes w (at_receiver_in c b) = ⊥

  abbrev pub Allows : World P → Event P → Type 0
  Allows w (other k) = Idle w k ⊎ ((Reported w × Late k) ⊎ Passes w k)
  Allows w (ask out) = Unit {0}
  Allows w arrives = Unit {0}
  Allows w damaged = Unit {0}
  Allows w frame_lost = Unit {0}
  Allows w confirmed = Unit {0}
  Allows w confirmation_lost = Unit {0}
  Allows w timeout = Unit {0}
  Allows w cut = Unit {0}

  -- each other call of the list, met where it stands, is refused or changes nothing; or is a nexus loss, a RESPONSE or a report of time after the report; or is a
  -- report of time that does not fail the transfer: the only premise on a list
  abbrev pub Allowed : World P → List (Event P) → Type 0
  Allowed w [] = Unit {0}
  Allowed w (e ∷ es) = Allows w e × Allowed (step w e) es
