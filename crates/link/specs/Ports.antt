-- A pair of ports as the link meets it: two records, moved only by the definitions that the ports' contracts cite.
use Rattle.std.specs.Prelude.{ℕ, List}
use Rattle.status.specs.Answer.{Said, Left}
pub use Rattle.frame.specs.HandedOut.{frame_in}

-- a call's record as it is left, what it answers, and the lent buffer as it is left
pub record Called (X : Type 0) : Type 0 where
  pub left : X
  pub says : Said
  pub lent : List ℕ

abbrev pub lending : {X : Type 0} → Left X → List ℕ → Called X
lending x b = record { left = x.left; says = x.says; lent = b }

-- what a port is told without a buffer
pub data Signal : Type 0 where
  ack nak timeout cut loss : Signal

pub record Ports : Type 1 where
  pub Sending : Type 0
  pub Receiving : Type 0
  -- a frame asked for: the data buffer, the output buffer
  pub ask : Sending → List ℕ → List ℕ → Called Sending
  pub signal : Signal → Sending → Left Sending
  -- the sending port's other entry points, each with its arguments; those that bring a RESPONSE
  pub SendCall : Type 0
  pub send_call : SendCall → Sending → Left Sending
  pub SendLate : SendCall → Type 0
  -- the receiving port's entry points, each with its arguments and the buffer that it is lent to write in; an arrival of any bytes is one;
  -- those that may come after the report: RESPONSE, nexus loss, reports of time; reports of time
  pub ReceiveCall : Type 0
  pub receive_call : ReceiveCall → Receiving → List ℕ → Called Receiving
  pub ReceiveLate : ReceiveCall → Type 0
  pub ReceiveTimes : ReceiveCall → Type 0
  pub arrival : List ℕ → ReceiveCall
