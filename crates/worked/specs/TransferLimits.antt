-- "Limits of a transfer": each limit just met and just broken; rung R3 has the byte count, specs/Further the start. Proved in proofs/TransferLimits.antt.
use Rattle.std.specs.Prelude.{ℕ, List, [], ◌∷◌, map, Bool, true, false, ◌≡◌}
use Rattle.transfer.specs.Limits.{limits_hold}
use Rattle.transfer.specs.declared.Transfer.{Transfer}

-- a write of a hundred bytes under SAS-1.1: data size, window, retry limit, burst size, own hashed address and the other's
abbrev pub of : ℕ → ℕ → ℕ → ℕ → ℕ → ℕ → Transfer
of size window limit burst here there =
    record { write = true; count = 100; size = size; window = window; limit = limit; burst = burst; local = here; remote = there; tag = 0x0012; sas2 = false; value = 0; irt = 0; start = 0 }

abbrev pub hold : List Transfer → List Bool
hold ts = map (λ t. limits_hold t) ts

pub record TransferLimits : Type 0 where
  -- "Data per frame a multiple of four, 4 to 1,024": 0, 4, 6, 8; 1,020, 1,024, 1,028
  pub small : hold (of 0 1 0 1 0 0 ∷ of 4 1 0 1 0 0 ∷ of 6 1 0 1 0 0 ∷ of 8 1 0 1 0 0 ∷ []) ≡ false ∷ true ∷ false ∷ true ∷ []
  pub large : hold (of 1_020 1 0 1 0 0 ∷ of 1_024 1 0 1 0 0 ∷ of 1_028 1 0 1 0 0 ∷ []) ≡ true ∷ true ∷ false ∷ []
  -- "Unanswered frames (the window) 1 to 64": 0, 1, 64, 65
  pub window : hold (of 4 0 0 1 0 0 ∷ of 4 1 0 1 0 0 ∷ of 4 64 0 1 0 0 ∷ of 4 65 0 1 0 0 ∷ []) ≡ false ∷ true ∷ true ∷ false ∷ []
  -- "Retry limit 0 to 15": 0, 15, 16
  pub limit : hold (of 4 1 0 1 0 0 ∷ of 4 1 15 1 0 0 ∷ of 4 1 16 1 0 0 ∷ []) ≡ true ∷ true ∷ false ∷ []
  -- "Write burst 1 to the byte count": 0, 1, 100, 101
  pub burst : hold (of 4 1 0 0 0 0 ∷ of 4 1 0 1 0 0 ∷ of 4 1 0 100 0 0 ∷ of 4 1 0 101 0 0 ∷ []) ≡ false ∷ true ∷ true ∷ false ∷ []
  -- "a hashed address passes 24 bits": FFFFFFh and 1000000h, either address
  pub own : hold (of 4 1 0 1 0xff_ffff 0 ∷ of 4 1 0 1 0x100_0000 0 ∷ []) ≡ true ∷ false ∷ []
  pub other : hold (of 4 1 0 1 0 0xff_ffff ∷ of 4 1 0 1 0 0x100_0000 ∷ []) ≡ true ∷ false ∷ []
