-- The set_up makes a well-formed record, and every event leaves a well-formed record well-formed: only a retry moves what is tested.
use Prim.Native.Nat.{ℕ, ◌≤◌}
use mathlib.Core.List.{List}
use mathlib.Core.Bool.{Bool, true, false}
use mathlib.Core.Path.{◌≡◌, refl}
use native.Mathlib.Omega.{arith}
use lib.Dec.{ltb}
use lib.ListN.{length}
use borrow.Author.Tests.{ltb-true}
use Rattle.frame.specs.Write.{hands}
use Rattle.status.specs.Pick.{pick}
use Rattle.status.specs.Entry.{entry_of}
use Rattle.status.specs.Answer.{Word, Said, Left, ◌saying◌}
use Rattle.status.proofs.Leaves.{picked, unless_gives}
use Rattle.transfer.specs.Limits.{limits_hold}
use Rattle.transfer.specs.declared.Transfer.{Transfer}
use Rattle.response.specs.Record.{most_of, tests, holds_of, start_of}
use Rattle.response.specs.Transmit.{lent_of, next_of}
use Rattle.response.specs.Confirmation.{failed_of, retried_of, retry_of, confirms_of, ack_of, nak_of, timeout_of, cut_of, loss_of}
use Rattle.response.specs.declared.types.Responder.{Responder}
use Rattle.response.proofs.Held.{held, holds_again}

pub starts_holds : (t : Transfer) (len : ℕ) → limits_hold t ≡ true → 24 ≤ len → len ≤ 1_024 → holds_of (start_of t len) ≡ true
starts_holds t len l p q = holds_again (start_of t len) l (omega arith)

abbrev Kept : Left Responder → Type 0
Kept z = holds_of z.left ≡ true

module _ (x : Responder) (h : holds_of x ≡ true) where
  retry_kept : (c : ℕ) → Kept (retry_of x c)
  unfolding retry_of holds_of tests pick
  retry_kept c = go (ltb x.retries (most_of x)) refl
    where
      go : (t : Bool) → ltb x.retries (most_of x) ≡ t → Kept (pick t (retried_of x saying Said.word Word.retry) (failed_of x c))
      go true e = let m = (held x h).marks in holds_again (retried_of x) (held x h).limits_held (omega (arith, ltb-true))
      go false e = h

  pub next_kept : (iu out : List ℕ) → Kept (next_of x iu out)
  unfolding next_of hands holds_of tests
  next_kept iu out = unless_gives Kept (entry_of (lent_of x (length iu)) x.ended) x _ (λ n. h) (picked Kept _ _ _ h (picked Kept _ _ _ h h))

  pub ack_kept : Kept (ack_of x)
  unfolding holds_of tests
  ack_kept = unless_gives Kept (confirms_of x) x _ (λ n. h) h

  pub nak_kept : Kept (nak_of x)
  nak_kept = unless_gives Kept (confirms_of x) x _ (λ n. h) (retry_kept 28)

  pub timeout_kept : Kept (timeout_of x)
  timeout_kept = unless_gives Kept (confirms_of x) x _ (λ n. h) (retry_kept 29)

  pub cut_kept : Kept (cut_of x)
  cut_kept = unless_gives Kept (entry_of (holds_of x) x.ended) x _ (λ n. h) (picked Kept _ _ _ (retry_kept 30) h)

  pub loss_kept : Kept (loss_of x)
  unfolding holds_of tests
  loss_kept = unless_gives Kept (entry_of (holds_of x) x.ended) x _ (λ n. h) h
