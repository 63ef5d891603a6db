-- What a run file's fates say of the rows: each is that of the next frame, with its fate, and its receiver column says whether the frame arrived.
use Rattle.std.specs.Prelude.{ℕ, ◌+◌, List, [], ◌∷◌, ◌≡◌}
use Rattle.ladder_text.specs.declared.types.Fate.{Fate}
use Rattle.ladder_text.specs.declared.types.Fate.TheVariants.{Ok, Noack, Bad, Nonak, Lost}
use Rattle.ladder_text.specs.declared.types.Receipt.{Receipt}
use Rattle.ladder_text.specs.declared.types.Receipt.TheVariants.{Nothing}
use Rattle.ladder_text.specs.declared.types.Row.{Row}
use Rattle.ladder_run.specs.Fates.{fate_of}

-- "`none` where nothing arrived": with `noack` the frame arrives, "ACK lost"; with `bad` and `nonak` it is "damaged"
abbrev pub Receives : Fate → Receipt → Type 0
Receives Ok x = x ≡ Nothing → ⊥
Receives Noack x = x ≡ Nothing → ⊥
Receives Bad x = x ≡ Nothing
Receives Nonak x = x ≡ Nothing
Receives Lost x = x ≡ Nothing

-- the row of frame n, counted from 0; "frame (from 1)"
pub record RowOf (fs : List ℕ) (n : ℕ) (r : Row) : Type 0 where
  pub frame : r.frame ≡ n + 1
  -- "the fate of the next frame .. past the list, `ok`"
  pub fate : r.fate ≡ fate_of fs n
  pub receives : Receives r.fate r.receipt

-- rows from frame n on
abbrev pub RowsFrom : List ℕ → ℕ → List Row → Type 0
RowsFrom fs n [] = Unit {0}
RowsFrom fs n (r ∷ rs) = RowOf fs n r × RowsFrom fs (n + 1) rs
