-- What the sending port has reported, with the number of frames handed out; a failure by its number.
use Rattle.std.specs.Prelude.{ℕ, Bool, true, false}

pub data Report : Type 0 where
  none : Report
  delivered : ℕ → Report
  failed : ℕ → ℕ → Report

abbrev pub failing : Report → Bool
failing none = false
failing (delivered n) = false
failing (failed f n) = true
