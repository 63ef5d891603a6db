-- The data buffer keeps its length.
use Prim.Native.Nat.{ℕ}
use mathlib.Core.Bool.{Bool}
use mathlib.Core.List.{List}
use mathlib.Core.Path.{◌≡◌, refl}
use lib.ListN.{length}
use Rattle.status.specs.Entry.{entry_of}
use Rattle.status.specs.Answer.{unless}
use Rattle.status.specs.Entry.{Entry}
use Rattle.status.proofs.OpenedCall.{opened}
use Rattle.receiver_steps.specs.Record.{lent_of}
use Rattle.receiver_steps.specs.DataFrame.{disposition_of, taken_of, storing}
use Rattle.receiver_steps.specs.declared.types.Receiver.{Receiver}
use Rattle.receiver_steps.specs.declared.types.DataDisposition.TheVariants.{Discard, Skip, Store}
use Rattle.receiver_steps.proofs.Judged.{room}
use Rattle.receiver_steps.proofs.Buffer.{put_down, placed_length}
use Rattle.receiver.specs.DataFrame.{arrival_of}
use Rattle.std.specs.Prelude.{Ok, Err}
use Rattle.receiver_steps.specs.DataFrame.{Disposition}

pub storing_length : (r : Receiver) (offset : ℕ) (cdp : Bool) (iu d : List ℕ) → length (storing (arrival_of r offset cdp (length iu) (length d)).says offset iu d) ≡ length d
unfolding arrival_of
storing_length r offset cdp iu d = go (entry_of (lent_of r (length d)) r.ended) (disposition_of r offset cdp (length iu)) refl refl
  where
    go : (e : Entry) (v : Disposition) → e ≡ entry_of (lent_of r (length d)) r.ended → disposition_of r offset cdp (length iu) ≡ v → length (storing (unless e r (taken_of v r offset (length iu))).says offset iu d) ≡ length d
    go (Err w) v p q = refl
    go (Ok tt) (Ok Discard) p q = refl
    go (Ok tt) (Ok Skip) p q = refl
    go (Ok tt) (Err w) p q = refl
    go (Ok tt) (Ok Store) p q = rw put_down (placed_length d offset iu (room r offset cdp (length iu) (length d) (opened _ _ p).0 q))
