-- Request K3, "a resent XFER_RDY stands for the one just before": what a target hands out again, and what an initiator that took the one before makes of it.
-- Proved in proofs/Resent.antt (the target) and proofs/TakenAgain.antt.
use Rattle.std.specs.Prelude.{ℕ, ◌-◌, List, [], ◌∷◌, ◌++◌, true, false, ◌⊎◌, ◌≡◌, length}
use Rattle.status.specs.Answer.{Taking, Said, ◌saying◌, unless}
use Rattle.status.specs.Entry.{entry_of}
use Rattle.status.specs.Result.{Result}
use Rattle.frame.specs.Read.{header_in, iu_of}
use Rattle.frame.specs.XferRdy.{xfer_rdy_of}
use Rattle.frame.specs.declared.types.Header.{Header}
use Rattle.initiator.specs.WriteRecord.{holds_of}
use Rattle.initiator.specs.WriteCount.{takes}
use Rattle.initiator.specs.WriteTake.{previous, write_arrival_of}
use Rattle.initiator.specs.declared.types.Writer.{Writer}
use Rattle.target.specs.declared.types.Target.{Target}
use Rattle.link.specs.Ports.{frame_in}
use Rattle.link.specs.Calls.{WriterCall, writer_call, TargetCall, target_call}

-- the header h "RETRANSMIT one, a new TPTT, the rest the same"
abbrev pub again : ℕ → Header → Header
again tptt h =
    record {
      frametype = h.frametype;
      dest = h.dest;
      source = h.source;
      flags = record { tlr = h.flags.tlr; retry = h.flags.retry; retransmit = true; cdp = h.flags.cdp };
      tag = h.tag;
      tptt = tptt;
      offset = h.offset;
    }

-- the bytes g are the frame f sent again, under any TPTT: the IU, so offset and length, is f's
pub record Again (f g : List ℕ) : Type 0 where
  pub header : header_in g ≡ again (header_in g).tptt (header_in f)
  pub iu : iu_of g ≡ iu_of f
  pub size : length g ≡ length f

-- ── the target ──
-- the XFER_RDYs that it hands out in a list of calls, each call with the buffer that it is lent
abbrev pub xfer_rdys_of : Target → List (TargetCall × List ℕ) → List (List ℕ)
xfer_rdys_of y [] = []
xfer_rdys_of y (c ∷ cs) = let x = target_call c.0 y c.1 in frame_in x.says x.lent ++ xfer_rdys_of x.left cs

-- each frame of gs with RETRANSMIT one is the one just before it sent again; f stands before gs
abbrev pub Repeats : List ℕ → List (List ℕ) → Type 0
Repeats f [] = Unit {0}
Repeats f (g ∷ gs) = ((header_in g).flags.retransmit ≡ true → Again f g) × Repeats g gs

abbrev pub InTurn : List (List ℕ) → Type 0
InTurn [] = Unit {0}
InTurn (f ∷ gs) = Repeats f gs

-- from any record, in any list of calls; of the first frame, which has none before it, nothing is said
abbrev pub HandedOutAgain : Type 0
HandedOutAgain = (y : Target) (cs : List (TargetCall × List ℕ)) → InTurn (xfer_rdys_of y cs)

-- ── the initiator ──
-- "its length must be that of the burst it repeats": of any bytes, at any record, a repeat that is taken asks for offset and length of the burst taken last,
-- which stays the previous one
abbrev pub RepeatsItsBurst : Type 0
RepeatsItsBurst =
    (w : Writer) (f : List ℕ) → let x = write_arrival_of w f in let p = previous w in x.says ≡ Said.xfer_rdy Taking.repeats →
    (xfer_rdy_of (iu_of f) ≡ Result.value (record { offset = p.base; len = p.end - p.base })) ×
    ((previous x.left).base ≡ p.base) × ((previous x.left).end ≡ p.end)

abbrev pub after : Writer → List WriterCall → Writer
after w [] = w
after w (c ∷ cs) = after (writer_call c w).left cs

abbrev pub Brings : List ℕ → WriterCall → Type 0
Brings f (WriterCall.bytes g) = Again f g
Brings f (WriterCall.asking d out) = ⊥
Brings f (WriterCall.signals g) = ⊥

-- any calls in which no XFER_RDY is taken but f sent again
abbrev pub TakesOnly : List ℕ → Writer → List WriterCall → Type 0
TakesOnly f w [] = Unit {0}
TakesOnly f w (c ∷ cs) = ((takes (writer_call c w).says ≡ false) ⊎ Brings f c) × TakesOnly f (writer_call c w).left cs

-- the answer to g: 1, 2, else it is taken as a repeat
abbrev pub TakenAsRepeat : Writer → List ℕ → Type 0
TakenAsRepeat w g = (write_arrival_of w g).says ≡ (unless (entry_of (holds_of w) w.sender.ended) w (w saying Said.xfer_rdy Taking.repeats)).says

-- an initiator that took f answers f sent again, at any time, by 1, 2, else as a repeat: never 25
abbrev pub TakenAgain : Type 0
TakenAgain =
    (w : Writer) (f : List ℕ) → takes (write_arrival_of w f).says ≡ true →
    (cs : List WriterCall) → TakesOnly f (write_arrival_of w f).left cs →
    (g : List ℕ) → Again f g → TakenAsRepeat (after (write_arrival_of w f).left cs) g

-- ── both ──
abbrev pub Each : (List ℕ → Type 0) → List (List ℕ) → Type 0
Each P [] = Unit {0}
Each P (g ∷ gs) = P g × Each P gs

-- a target hands out f, then the frames gs, all with RETRANSMIT one; an initiator that took f answers each of gs so, whichever of the others reached it
abbrev pub ResentTaken : Type 0
ResentTaken =
    (y : Target) (cs : List (TargetCall × List ℕ)) (f : List ℕ) (gs : List (List ℕ)) → xfer_rdys_of y cs ≡ f ∷ gs → Each (λ g. (header_in g).flags.retransmit ≡ true) gs →
    (w : Writer) → takes (write_arrival_of w f).says ≡ true →
    (ds : List WriterCall) → TakesOnly f (write_arrival_of w f).left ds → Each (TakenAsRepeat (after (write_arrival_of w f).left ds)) gs
