-- An arrival of any bytes in a write, as plain cases: later layers go by these and see no test any more.
use Prim.Native.Nat.{ℕ}
use mathlib.Core.Bool.{Bool, true, false}
use mathlib.Core.List.{List}
use mathlib.Core.Logic.{◌⊎◌, inl, inr}
use mathlib.Core.Path.{◌≡◌, refl}
use lib.ListN.{get_or}
use Rattle.status.specs.Pick.{pick}
use Rattle.status.specs.Entry.{entry_of}
use Rattle.status.specs.Answer.{Taking, Said, Left, ◌saying◌}
use Rattle.status.specs.Result.{Result}
use Rattle.status.proofs.Leaves.{unless_gives}
use Rattle.frame.specs.Format.{RESPONSE}
use Rattle.frame.specs.XferRdy.{xfer_rdy_of}
use Rattle.frame.specs.Response.{response_iu_of}
use Rattle.status.specs.declared.answer.Opened.{Opened}
use Rattle.frame.specs.Read.{header_in}
use Rattle.frame.specs.declared.types.Header.{Header}
use Rattle.frame.specs.declared.types.XferRdy.{XferRdy}
use Rattle.arrival.specs.Accept.{class_of, accept_of}
use Rattle.arrival.specs.declared.Role.TheVariants.{WriteInitiator}
use Rattle.arrival.specs.declared.Class.{Class}
use Rattle.arrival.specs.declared.Arrived.{Arrived}
use Rattle.arrival.proofs.Passed.{passed}
use Rattle.initiator.specs.WriteRecord.{holds_of}
use Rattle.initiator.specs.WriteTake.{ended_of, failed_of, asked_of, reported_of, next_taken, disposition_of, burst_taken, judged_by, sized_by, xfer_rdy_taken, opened_by, response_of, taken_of, arrived_by, write_arrival_of}
use Rattle.initiator.specs.declared.types.XferRdyDisposition.TheVariants.{Next, Repeat}
use Rattle.initiator.specs.declared.types.Writer.{Writer}
use Rattle.initiator.proofs.WriteFits.{Fits, taken_fits}
use Rattle.std.specs.Prelude.{Some, Ok, Err}
use Rattle.initiator.specs.WriteTake.{Disposition}

-- what a taken XFER_RDY says
pub data Takes (w : Writer) : Said → Type 0 where
  next : Takes w (Said.xfer_rdy Taking.next)
  delivers : Takes w (Said.xfer_rdy (Taking.delivers w.sender.frames))
  repeats : Takes w (Said.xfer_rdy Taking.repeats)

pub data Came (w : Writer) : Left Writer → Type 0 where
  refused : (n : ℕ) → Came w (w saying Said.refused n)
  failed : (n : ℕ) → Came w (failed_of w n)
  taken : (h : Header) (x : XferRdy) → Fits w x → {a : Said} → Takes w a → Came w (burst_taken w (asked_of w h x) a)
  answered : (start len : ℕ) (o : Opened) → Came w (ended_of w saying Said.response start len o w.sender.frames)

module _ (w : Writer) where
  next_takes : Takes w (next_taken w)
  unfolding next_taken pick
  next_takes = go (reported_of w)
    where
      go : (t : Bool) → Takes w (Said.xfer_rdy (pick t Taking.next (Taking.delivers w.sender.frames)))
      go true = next
      go false = delivers

  judged : (h : Header) (x : XferRdy) → Came w (judged_by (disposition_of w x h.flags.retransmit) w h x)
  judged h x = go (disposition_of w x h.flags.retransmit) refl
    where
      go : (v : Disposition) → disposition_of w x h.flags.retransmit ≡ v → Came w (judged_by v w h x)
      go (Ok Next) e = taken h x (taken_fits w x h.flags.retransmit (Next, e)) next_takes
      go (Ok Repeat) e = taken h x (taken_fits w x h.flags.retransmit (Repeat, e)) repeats
      go (Err why) e = failed _

  xfer_rdy_lem : (h : Header) (iu : List ℕ) → Came w (xfer_rdy_taken w h iu)
  unfolding xfer_rdy_taken
  xfer_rdy_lem h iu = go (xfer_rdy_of iu)
    where
      go : (y : Result XferRdy) → Came w (sized_by y w h)
      go (Result.number n) = failed n
      go (Result.value x) = judged h x

  response : (start len : ℕ) (iu : List ℕ) → Came w (response_of w start len iu)
  unfolding response_of
  response start len iu = go (response_iu_of iu)
    where
      go : (y : Result Opened) → Came w (opened_by y w start len)
      go (Result.number n) = failed n
      go (Result.value o) = answered start len o

  by_class : (k : Class) (a : Arrived) (f : List ℕ) → Came w (taken_of k w a f)
  by_class Class.XferRdy a f = xfer_rdy_lem a.header _
  by_class Class.Response a f = response a.start a.len _
  by_class Class.Data a f = refused 6

  pub came : (f : List ℕ) → Came w (write_arrival_of w f)
  unfolding write_arrival_of
  came f = unless_gives (Came w) (entry_of (holds_of w) w.sender.ended) w _ refused (go (accept_of WriteInitiator w.sender.transfer f))
    where
      go : (x : Result Arrived) → Came w (arrived_by x w f)
      go (Result.number n) = refused n
      go (Result.value a) = by_class a.class a f

  -- a RESPONSE, taken or not, leaves the record or ends it
  pub response_came : (f : List ℕ) → get_or f 0 0 ≡ RESPONSE → ((write_arrival_of w f).left ≡ w) ⊎ ((write_arrival_of w f).left ≡ ended_of w)
  unfolding write_arrival_of class_of header_in response_of pick
  response_came f e = unless_gives Ends (entry_of (holds_of w) w.sender.ended) w _ (λ n. inl refl) (go (accept_of WriteInitiator w.sender.transfer f) refl)
    where
      Ends : Left Writer → Type 0
      Ends x = (x.left ≡ w) ⊎ (x.left ≡ ended_of w)

      opened : (start len : ℕ) (y : Result Opened) → Ends (opened_by y w start len)
      opened start len (Result.number n) = inr refl
      opened start len (Result.value o) = inr refl

      go : (x : Result Arrived) → accept_of WriteInitiator w.sender.transfer f ≡ x → Ends (arrived_by x w f)
      go (Result.number n) q = inl refl
      go (Result.value a) q =
          let c = (passed w.sender.transfer WriteInitiator f a q).class in
          let s : class_of WriteInitiator (header_in f).frametype ≡ Some Class.Response = rw e in
          let k : a.class ≡ Class.Response = cc in
          rw k (opened a.start a.len (response_iu_of _))
