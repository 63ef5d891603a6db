-- The disposition of a DATA frame, as plain facts.
use Prim.Native.Nat.{ℕ, ◌+◌, ◌≤◌, ◌<◌}
use mathlib.Core.Bool.{Bool, true, false, not, ◌&&◌, ◌||◌}
use mathlib.Core.Logic.{◌⊎◌, inl, inr}
use mathlib.Core.Path.{◌≡◌, refl}
use native.Mathlib.Omega.{arith}
use lib.Dec.{leb, ltb, eqb}
use borrow.Author.Tests.{leb-true, leb-false, ltb-true, ltb-false, eqb-true, eqb-false}
use Rattle.status.specs.Pick.{pick}
use Rattle.status.specs.declared.words.Failure.TheVariants.{DataOffsetError, TooMuchData, IncorrectDataLength}
use Rattle.receiver_steps.specs.Record.{lent_of}
use Rattle.receiver_steps.specs.DataFrame.{misplaced as misplacedOf, out_of_step, disposition_of}
use Rattle.receiver_steps.specs.declared.types.Receiver.{Receiver}
use Rattle.receiver_steps.specs.declared.types.DataDisposition.TheVariants.{Discard, Skip, Store}
use Rattle.status.proofs.OpenedCall.{differ}
use Rattle.receiver_steps.proofs.Held.{lent}
use Rattle.std.specs.Prelude.{Ok, Err}
use Rattle.receiver_steps.specs.DataFrame.{Disposition}

-- number 20
pub data Misplaced (r : Receiver) (offset : ℕ) (cdp : Bool) : Type 0 where
  under : offset < r.base → Misplaced r offset cdp
  beyond : r.end ≤ offset → Misplaced r offset cdp
  unexpected : r.transfer.limit ≡ 0 → (offset ≡ r.expected → ⊥) → Misplaced r offset cdp
  ahead : 0 < r.transfer.limit → cdp ≡ true → r.filled < offset → Misplaced r offset cdp

-- number 20 does not apply in a burst that is not filled
pub record Placed (r : Receiver) (offset : ℕ) (cdp : Bool) : Type 0 where
  pub unfilled : r.filled ≡ r.end → ⊥
  pub low : r.base ≤ offset
  pub high : offset < r.end
  pub off : r.transfer.limit ≡ 0 → offset ≡ r.expected
  pub on : 0 < r.transfer.limit → cdp ≡ true → offset ≤ r.filled

-- none of 20, 21 and 22 in a burst that is not filled
pub record Inside (r : Receiver) (offset n : ℕ) : Type 0 where
  pub unfilled : r.filled ≡ r.end → ⊥
  pub low : r.base ≤ offset
  pub high : offset + n ≤ r.end
  pub some : 0 < n

-- discarded, and waiting starts or goes on
pub record OutOfStep (r : Receiver) (offset : ℕ) (cdp : Bool) : Type 0 where
  pub retries : 0 < r.transfer.limit
  pub plain : cdp ≡ false
  pub why : (r.waiting ≡ true) ⊎ (offset ≡ r.expected → ⊥)

-- stored: retries off, or by CDP, or as the expected frame
pub data InStep (r : Receiver) (offset : ℕ) (cdp : Bool) : Type 0 where
  off : r.transfer.limit ≡ 0 → offset ≡ r.expected → InStep r offset cdp
  pointed : 0 < r.transfer.limit → cdp ≡ true → offset ≤ r.filled → InStep r offset cdp
  next : 0 < r.transfer.limit → cdp ≡ false → r.waiting ≡ false → offset ≡ r.expected → InStep r offset cdp

pub data Judged (r : Receiver) (offset : ℕ) (cdp : Bool) (n : ℕ) : Disposition → Type 0 where
  full : r.filled ≡ r.end → Judged r offset cdp n (Ok Discard)
  misplaced : (r.filled ≡ r.end → ⊥) → Misplaced r offset cdp → Judged r offset cdp n (Err DataOffsetError)
  long : Placed r offset cdp → r.end < offset + n → Judged r offset cdp n (Err TooMuchData)
  empty : Placed r offset cdp → n ≡ 0 → Judged r offset cdp n (Err IncorrectDataLength)
  skipped : Inside r offset n → OutOfStep r offset cdp → Judged r offset cdp n (Ok Skip)
  stored : Inside r offset n → InStep r offset cdp → Judged r offset cdp n (Ok Store)

-- the two tests of the definition, by their answer
data Placing (r : Receiver) (offset : ℕ) (cdp : Bool) : Bool → Type 0 where
  wrong : Misplaced r offset cdp → Placing r offset cdp true
  right : Placed r offset cdp → Placing r offset cdp false

data Stepping (r : Receiver) (offset : ℕ) (cdp : Bool) : Bool → Type 0 where
  out : OutOfStep r offset cdp → Stepping r offset cdp true
  inside : InStep r offset cdp → Stepping r offset cdp false

module _ (r : Receiver) (offset : ℕ) (cdp : Bool) where
  placing : (r.filled ≡ r.end → ⊥) → Placing r offset cdp (misplacedOf r offset cdp)
  unfolding misplacedOf pick
  placing unfilled = go (ltb offset r.base) (leb r.end offset) (eqb r.transfer.limit 0) (eqb offset r.expected) cdp (ltb r.filled offset) refl refl refl refl refl refl
    where
      go : (a b l c d e : Bool) → ltb offset r.base ≡ a → leb r.end offset ≡ b → eqb r.transfer.limit 0 ≡ l → eqb offset r.expected ≡ c → cdp ≡ d → ltb r.filled offset ≡ e → Placing r offset cdp (a || b || pick l (not c) (d && e))
      go true b l c d e p q s t u v = wrong (under (ltb-true _ _ p))
      go false true l c d e p q s t u v = wrong (beyond (leb-true _ _ q))
      go false false true true d e p q s t u v = right (record { unfilled = unfilled; low = ltb-false _ _ p; high = leb-false _ _ q; off = λ _. eqb-true _ _ t; on = λ z. absurd (omega (arith, eqb-true)) })
      go false false true false d e p q s t u v = wrong (unexpected (eqb-true _ _ s) (eqb-false _ _ t))
      go false false false c true true p q s t u v = wrong (ahead (omega (arith, eqb-false r.transfer.limit 0 s)) u (ltb-true _ _ v))
      go false false false c true false p q s t u v = right (record { unfilled = unfilled; low = ltb-false _ _ p; high = leb-false _ _ q; off = λ z. absurd (eqb-false _ _ s z); on = λ _ _. ltb-false _ _ v })
      go false false false c false e p q s t u v = right (record { unfilled = unfilled; low = ltb-false _ _ p; high = leb-false _ _ q; off = λ z. absurd (eqb-false _ _ s z); on = λ _ z. differ (cc) })

  stepping : Placed r offset cdp → Stepping r offset cdp (out_of_step r offset cdp)
  unfolding out_of_step
  stepping f = go (ltb 0 r.transfer.limit) cdp r.waiting (eqb offset r.expected) refl refl refl refl
    where
      go : (a b c d : Bool) → ltb 0 r.transfer.limit ≡ a → cdp ≡ b → r.waiting ≡ c → eqb offset r.expected ≡ d → Stepping r offset cdp (a && not b && (c || not d))
      go false b c d p q s t = let z : r.transfer.limit ≡ 0 = omega (arith, ltb-false) in inside (off z (f.off z))
      go true true c d p q s t = inside (pointed (ltb-true _ _ p) q (f.on (ltb-true _ _ p) q))
      go true false true d p q s t = out (record { retries = ltb-true _ _ p; plain = q; why = inl s })
      go true false false false p q s t = out (record { retries = ltb-true _ _ p; plain = q; why = inr (eqb-false _ _ t) })
      go true false false true p q s t = inside (next (ltb-true _ _ p) q s (eqb-true _ _ t))

  pub judged : (n : ℕ) → Judged r offset cdp n (disposition_of r offset cdp n)
  unfolding disposition_of pick
  judged n = go (eqb r.filled r.end) refl
    where
      last : {t : Bool} → Inside r offset n → Stepping r offset cdp t → Judged r offset cdp n (pick t (Ok Skip) (Ok Store))
      last i (out s) = skipped i s
      last i (inside s) = stored i s

      behind : (b c : Bool) {d : Bool} → (r.filled ≡ r.end → ⊥) → Placing r offset cdp d → ltb r.end (offset + n) ≡ b → eqb n 0 ≡ c → Judged r offset cdp n (pick d (Err DataOffsetError) (pick b (Err TooMuchData) (pick c (Err IncorrectDataLength) (pick (out_of_step r offset cdp) (Ok Skip) (Ok Store)))))
      behind b c u (wrong m) q s = misplaced u m
      behind true c u (right w) q s = long w (ltb-true _ _ q)
      behind false true u (right w) q s = empty w (eqb-true _ _ s)
      behind false false u (right w) q s = last (record { unfilled = u; low = w.low; high = ltb-false _ _ q; some = omega (arith, eqb-false n 0 s) }) (stepping w)

      go : (a : Bool) → eqb r.filled r.end ≡ a → Judged r offset cdp n (pick a (Ok Discard) (pick (misplacedOf r offset cdp) (Err DataOffsetError) (pick (ltb r.end (offset + n)) (Err TooMuchData) (pick (eqb n 0) (Err IncorrectDataLength) (pick (out_of_step r offset cdp) (Ok Skip) (Ok Store))))))
      go true p = full (eqb-true _ _ p)
      go false p = behind (ltb r.end (offset + n)) (eqb n 0) (eqb-false _ _ p) (placing (eqb-false _ _ p)) refl refl

-- what is stored lies in the burst
pub within : (r : Receiver) (offset : ℕ) (cdp : Bool) (n : ℕ) → disposition_of r offset cdp n ≡ (Ok Store) → offset + n ≤ r.end
within r offset cdp n v = go (rw v at (judged r offset cdp n))
  where
    go : Judged r offset cdp n (Ok Store) → offset + n ≤ r.end
    go (stored i s) = i.high

-- and fits the data buffer
pub room : (r : Receiver) (offset : ℕ) (cdp : Bool) (n m : ℕ) → lent_of r m ≡ true → disposition_of r offset cdp n ≡ (Ok Store) → offset + n ≤ m
room r offset cdp n m e v = omega (arith, (lent r m e).reach, within r offset cdp n v)
