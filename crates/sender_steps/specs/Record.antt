-- The sending port's record: the tests of number 1, and how a burst begins.
use Rattle.std.specs.Prelude.{ℕ, ◌^◌, List, [], ◌∷◌, Bool, false, leb, ltb, eqb}
use Rattle.status.specs.Pick.{all}
use Rattle.transfer.specs.Limits.{past, limits_hold}
use Rattle.transfer.specs.declared.Transfer.{Transfer}
use Rattle.sender_steps.specs.declared.types.Burst.{Burst}
use Rattle.sender_steps.specs.declared.types.Sender.{Sender}

-- 1: "a limit is broken, .. a record has marks outside base to end, balance point above next offset, .. a frame count of 2 to the power 60
-- or more, or another count past its limit". Request K5: a read's offsets "begin there", at the start, so its burst lies from start to start plus count;
-- in a write from 0 to the count
unfoldable pub tests : Sender → List Bool
tests s =
    limits_hold s.transfer ∷
    leb s.transfer.start s.burst.base ∷ leb s.burst.base s.balance ∷ leb s.balance s.next ∷ leb s.next s.burst.end ∷
    leb s.burst.end (past s.transfer) ∷
    leb s.unanswered s.transfer.window ∷
    leb s.burst.limit s.transfer.limit ∷ leb s.retries s.burst.limit ∷
    ltb s.frames (2 ^ 60) ∷ []

unfoldable pub holds_of : Sender → Bool
holds_of s = all (tests s)

-- 1 as in `holds_of`, and "the data buffer has another length" than the byte count: "the sender's buffer still holds the count alone" (request K5)
abbrev pub lent_tests : Sender → ℕ → List Bool
lent_tests s n = holds_of s ∷ eqb n s.transfer.count ∷ []

unfoldable pub lent_of : Sender → ℕ → Bool
lent_of s n = all (lent_tests s n)

-- a burst of which nothing is handed out yet
abbrev pub beginning : Transfer → Burst → Sender
beginning t b =
    record {
      transfer = t;
      burst = b;
      next = b.base;
      balance = b.base;
      unanswered = 0;
      nak = false;
      cdp = false;
      retries = 0;
      frames = 0;
      ended = false;
    }
