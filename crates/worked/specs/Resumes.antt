-- Where a retry resumes and when the retry count returns to zero: the same link events in a read and in a write burst part there. The law over all records is sender
-- specs/Retries `Retries`. Proved in proofs/Resumes.antt.
use Rattle.std.specs.Prelude.{List, [], ◌∷◌, ◌++◌, replicate}
use Rattle.link.specs.World.{World, Report, Event, ask, arrives, frame_lost, confirmed, timeout}
use Rattle.link.specs.Reading.{read_ports}
use Rattle.link.specs.Writing.{write_ports}
use Rattle.worked.specs.Setting.{ten, space}
use Rattle.worked.specs.Run.{Worked, burst}
use Rattle.worked.specs.Write.{second_start}
use Rattle.worked.specs.Silent.{twelve}
use Rattle.worked.specs.Both.{a_read, a_write, Events}

-- Twelve bytes, so three frames: at 0, at 4 and at 8. Retry limit 1; the window is 1 or 2.
unfoldable pub one_read : World read_ports
one_read = a_read 12 1 1 twelve

unfoldable pub one_write : World write_ports
one_write = a_write 12 1 1 twelve

unfoldable pub two_read : World read_ports
two_read = a_read 12 2 1 twelve

unfoldable pub two_write : World write_ports
two_write = a_write 12 2 1 twelve

-- ── the count ──
-- "A read counts retries from the last move of the balance point, a write from the start of the burst"
-- a frame is lost, a timeout; it is handed out again, stored, and its ACK comes: two times
abbrev pub twice : Events
twice P = ask space ∷ frame_lost ∷ timeout ∷ ask space ∷ arrives ∷ confirmed ∷ ask space ∷ frame_lost ∷ timeout ∷ ask space ∷ arrives ∷ confirmed ∷ []

-- and with the third frame
unfoldable pub every_frame_lost : Events
every_frame_lost P = twice P ++ (ask space ∷ frame_lost ∷ timeout ∷ ask space ∷ arrives ∷ confirmed ∷ [])

-- the read: each ACK moves the balance point, so each retry is the first. Delivered with 6 frames; 3 faults, more than the limit; 6 is at most 3 times 4
abbrev pub CountsAnew : Type 1
CountsAnew = Worked (burst 0 12 1) one_read (every_frame_lost read_ports) (Report.delivered 6) twelve 3 6 ((0, 0) ∷ (0, 1) ∷ (4, 0) ∷ (4, 1) ∷ (8, 0) ∷ (8, 1) ∷ [])

-- the write: the ACK of the frame at 0 leaves the count, so the second timeout is a retry beyond the limit. Failed with 29 and 3 frames; 2 faults; the rest finds an ended port
abbrev pub CountsOn : Type 1
CountsOn = Worked (burst 0 12 1) one_write (every_frame_lost write_ports) (Report.failed 29 3) (10 ∷ 11 ∷ 12 ∷ 13 ∷ replicate 8 0xff) 2 3 ((0, 0) ∷ (0, 1) ∷ (4, 0) ∷ [])

-- ── the place ──
-- "the next offset returns to the balance point (read) or base (write)"
unfoldable pub third_lost : Events
third_lost P =
    -- frames 1 and 2: at 0 and 4; both are stored, and both ACKs come: nothing is unanswered
    ask space ∷ ask space ∷ arrives ∷ arrives ∷ confirmed ∷ confirmed ∷
    -- fault 1: frame 3, at 8, is lost; a timeout, not early: the one retry
    ask space ∷ frame_lost ∷ timeout ∷
    -- frames are handed out, stored and acknowledged until no more is due
    ask space ∷ arrives ∷ confirmed ∷ ask space ∷ arrives ∷ confirmed ∷ ask space ∷ arrives ∷ confirmed ∷ []

-- the read resumes at 8, its balance point: delivered with 4 frames
abbrev pub AtTheThird : Type 1
AtTheThird = Worked (burst 0 12 1) two_read (third_lost read_ports) (Report.delivered 4) twelve 1 4 ((0, 0) ∷ (4, 0) ∷ (8, 0) ∷ (8, 1) ∷ [])

-- the write resumes at 0, its base; of the resent frames only the first has CDP one: delivered with 6 frames
abbrev pub AtTheBase : Type 1
AtTheBase = Worked (burst 0 12 1) two_write (third_lost write_ports) (Report.delivered 6) twelve 1 6 ((0, 0) ∷ (4, 0) ∷ (8, 0) ∷ (0, 1) ∷ (4, 0) ∷ (8, 0) ∷ [])

-- the second burst of specs/Write, from 5 to 10, window 2, retry limit 3
unfoldable pub last_lost : List (Event write_ports)
last_lost =
    -- frame 1, at 5, is stored, and its ACK comes; fault 1: frame 2, at 9, is lost; a timeout, not early: the first retry
    ask space ∷ arrives ∷ confirmed ∷ ask space ∷ frame_lost ∷ timeout ∷
    -- frames 3 and 4 are stored and acknowledged
    ask space ∷ ask space ∷ arrives ∷ arrives ∷ confirmed ∷ confirmed ∷ []

-- it resumes at 5, neither at 9 nor at 0: delivered with 4 frames
abbrev pub AtTheSecondBase : Type 1
AtTheSecondBase = Worked (burst 5 10 3) second_start last_lost (Report.delivered 4) ten 1 4 ((5, 0) ∷ (9, 0) ∷ (5, 1) ∷ (9, 0) ∷ [])
