-- The record's fields, each set anew by itself: a definition says only what moves.
use Rattle.std.specs.Prelude.{ℕ, Bool}
use Rattle.receiver_steps.specs.declared.types.Receiver.{Receiver}
use Rattle.target.specs.declared.types.Target.{Target}

abbrev pub receiver≔ : Receiver → Target → Target
receiver≔ v x = record { receiver = v; state = x.state; tptt = x.tptt; retries = x.retries; stored = x.stored; under = x.under; since = x.since; elapsed = x.elapsed }

abbrev pub state≔ : ℕ → Target → Target
state≔ v x = record { receiver = x.receiver; state = v; tptt = x.tptt; retries = x.retries; stored = x.stored; under = x.under; since = x.since; elapsed = x.elapsed }

abbrev pub tptt≔ : ℕ → Target → Target
tptt≔ v x = record { receiver = x.receiver; state = x.state; tptt = v; retries = x.retries; stored = x.stored; under = x.under; since = x.since; elapsed = x.elapsed }

abbrev pub retries≔ : ℕ → Target → Target
retries≔ v x = record { receiver = x.receiver; state = x.state; tptt = x.tptt; retries = v; stored = x.stored; under = x.under; since = x.since; elapsed = x.elapsed }

abbrev pub stored≔ : Bool → Target → Target
stored≔ v x = record { receiver = x.receiver; state = x.state; tptt = x.tptt; retries = x.retries; stored = v; under = x.under; since = x.since; elapsed = x.elapsed }

abbrev pub under≔ : ℕ → Target → Target
under≔ v x = record { receiver = x.receiver; state = x.state; tptt = x.tptt; retries = x.retries; stored = x.stored; under = v; since = x.since; elapsed = x.elapsed }

abbrev pub since≔ : ℕ → Target → Target
since≔ v x = record { receiver = x.receiver; state = x.state; tptt = x.tptt; retries = x.retries; stored = x.stored; under = x.under; since = v; elapsed = x.elapsed }

abbrev pub elapsed≔ : ℕ → Target → Target
elapsed≔ v x = record { receiver = x.receiver; state = x.state; tptt = x.tptt; retries = x.retries; stored = x.stored; under = x.under; since = x.since; elapsed = v }
