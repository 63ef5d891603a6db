-- The record's fields, each set anew by itself: a definition says only what moves.
use Rattle.std.specs.Prelude.{ℕ, Bool}
use Rattle.sender_steps.specs.declared.types.Sender.{Sender}

abbrev pub next≔ : ℕ → Sender → Sender
next≔ v x = record { transfer = x.transfer; burst = x.burst; next = v; balance = x.balance; unanswered = x.unanswered; nak = x.nak; cdp = x.cdp; retries = x.retries; frames = x.frames; ended = x.ended }

abbrev pub balance≔ : ℕ → Sender → Sender
balance≔ v x = record { transfer = x.transfer; burst = x.burst; next = x.next; balance = v; unanswered = x.unanswered; nak = x.nak; cdp = x.cdp; retries = x.retries; frames = x.frames; ended = x.ended }

abbrev pub unanswered≔ : ℕ → Sender → Sender
unanswered≔ v x = record { transfer = x.transfer; burst = x.burst; next = x.next; balance = x.balance; unanswered = v; nak = x.nak; cdp = x.cdp; retries = x.retries; frames = x.frames; ended = x.ended }

abbrev pub nak≔ : Bool → Sender → Sender
nak≔ v x = record { transfer = x.transfer; burst = x.burst; next = x.next; balance = x.balance; unanswered = x.unanswered; nak = v; cdp = x.cdp; retries = x.retries; frames = x.frames; ended = x.ended }

abbrev pub cdp≔ : Bool → Sender → Sender
cdp≔ v x = record { transfer = x.transfer; burst = x.burst; next = x.next; balance = x.balance; unanswered = x.unanswered; nak = x.nak; cdp = v; retries = x.retries; frames = x.frames; ended = x.ended }

abbrev pub retries≔ : ℕ → Sender → Sender
retries≔ v x = record { transfer = x.transfer; burst = x.burst; next = x.next; balance = x.balance; unanswered = x.unanswered; nak = x.nak; cdp = x.cdp; retries = v; frames = x.frames; ended = x.ended }

abbrev pub frames≔ : ℕ → Sender → Sender
frames≔ v x = record { transfer = x.transfer; burst = x.burst; next = x.next; balance = x.balance; unanswered = x.unanswered; nak = x.nak; cdp = x.cdp; retries = x.retries; frames = v; ended = x.ended }

abbrev pub ended≔ : Bool → Sender → Sender
ended≔ v x = record { transfer = x.transfer; burst = x.burst; next = x.next; balance = x.balance; unanswered = x.unanswered; nak = x.nak; cdp = x.cdp; retries = x.retries; frames = x.frames; ended = v }
