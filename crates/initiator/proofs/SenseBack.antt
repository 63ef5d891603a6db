-- The laws of specs/Sense.antt.
use Prim.Native.Nat.{ℕ, ◌+◌, max}
use mathlib.Core.Bool.{Bool}
use mathlib.Core.List.{List}
use mathlib.Core.Logic.{◌⊎◌, inl, inr}
use mathlib.Core.Path.{◌≡◌, refl, sym, ap, subst, ◌∙◌}
use native.Mathlib.Omega.{arith}
use lib.Dec.{eqb}
use lib.ListN.{length, take, drop, length-take, length-drop}
use Rattle.status.specs.Entry.{entry_of}
use Rattle.status.specs.Pick.{pick}
use Rattle.status.specs.Answer.{Said, Left}
use Rattle.status.specs.Result.{Result}
use Rattle.status.specs.declared.answer.Opened.{Opened}
use Rattle.status.proofs.OpenedCall.{open_entry}
use Rattle.status.proofs.Leaves.{picked, unless_gives}
use Rattle.frame.specs.Format.{RESPONSE, encode}
use Rattle.frame.specs.Read.{header_in, iu_length, iu_of}
use Rattle.frame.specs.Lent.{Lent, part_of}
use Rattle.frame.specs.XferRdy.{xfer_rdy_of}
use Rattle.frame.specs.declared.types.XferRdy.{XferRdy}
use Rattle.frame.specs.Response.{response_iu_of}
use Rattle.frame.specs.declared.types.Header.{Header}
use Rattle.frame.proofs.Writer.{encode_length}
use Rattle.frame.proofs.Parts.{whole_part}
use Rattle.frame.proofs.ResponseForms.{opens}
use Rattle.transfer.specs.declared.Transfer.{Transfer}
use Rattle.arrival.specs.Accept.{class_of, accept_of}
use Rattle.arrival.specs.declared.Role.{Role}
use Rattle.arrival.specs.declared.Role.TheVariants.{ReadInitiator, WriteInitiator}
use Rattle.arrival.specs.declared.Class.{Class}
use Rattle.arrival.specs.declared.Arrived.{Arrived}
use Rattle.arrival.proofs.Passed.{arrived_in, Passed, passed, written_passes, written_stands}
use Rattle.receiver_steps.specs.Record.{lent_of}
use Rattle.receiver.specs.DataFrame.{arrival_of}
use Rattle.receiver.proofs.Views as views
use Rattle.receiver_steps.specs.declared.types.Receiver.{Receiver}
use Rattle.initiator.specs.Read as read
use Rattle.initiator.specs.WriteTake as write
use Rattle.initiator.specs.WriteRecord.{holds_of}
use Rattle.initiator.specs.Sense.{Stands, ReadStands, WriteStands, Comes, ReadOpens, WriteOpens}
use Rattle.initiator.specs.declared.types.XferRdyDisposition.TheVariants.{Next, Repeat}
use Rattle.initiator.specs.declared.types.Writer.{Writer}
use Rattle.std.specs.Prelude.{Some, Ok, Err}
use Rattle.initiator.specs.WriteTake.{Disposition}

-- the IU of a frame that has passed 5 to 8 is as long as it says
whole : (role : Role) (f : List ℕ) (a : Arrived) → Passed role f a → iu_length f ≡ length (iu_of f)
whole role f a p = sym (rw (length-take, length-drop) (omega (arith, p.inside)))

stands_there : {role : Role} {a : Arrived} (f : List ℕ) → Passed role f a → (part_of f 24 (iu_length f)).bytes ≡ iu_of f
stands_there f p = ap (λ (x : Lent). x.bytes) (whole_part f 24 (iu_length f) p.inside)

-- (a), by what the frame is taken for; DATA and XFER_RDY tell of no RESPONSE
module _ (w : Writer) (f : List ℕ) where
  abbrev Finds : Left Writer → Type 0
  Finds x = Stands x.says f

  taken : (k : Class) (p : Passed WriteInitiator f (arrived_in k f)) → Finds (write.taken_of k w (arrived_in k f) f)
  unfolding write.xfer_rdy_taken write.burst_taken write.next_taken write.response_of
  taken Class.XferRdy p = sized (xfer_rdy_of (iu_of f))
    where
      judged : (x : XferRdy) (v : Disposition) → Finds (write.judged_by v w (header_in f) x)
      judged x (Ok Next) = tt
      judged x (Ok Repeat) = tt
      judged x (Err why) = tt

      sized : (y : Result XferRdy) → Finds (write.sized_by y w (header_in f))
      sized (Result.number n) = tt
      sized (Result.value x) = judged x (write.disposition_of w x (header_in f).flags.retransmit)
  taken Class.Response p = opened (response_iu_of (iu_of f)) refl
    where
      opened : (y : Result Opened) → response_iu_of (iu_of f) ≡ y → Finds (write.opened_by y w 24 (iu_length f))
      opened (Result.number n) e = tt
      opened (Result.value o) e = (refl, stands_there f p, whole WriteInitiator f _ p, e)
  taken Class.Data p = tt

pub write_stands : WriteStands
unfolding write.write_arrival_of
write_stands w f = unless_gives (Finds w f) (entry_of (holds_of w) w.sender.ended) w _ (λ n. tt) (go (accept_of WriteInitiator w.sender.transfer f) refl)
  where
    go : (x : Result Arrived) → accept_of WriteInitiator w.sender.transfer f ≡ x → Finds w f (write.arrived_by x w f)
    go (Result.number n) q = tt
    go (Result.value a) q =
        let p = passed w.sender.transfer WriteInitiator f a q in
        subst (λ (b : Arrived). Passed WriteInitiator f b → Finds w f (write.taken_of b.class w b f)) p.is (λ p. taken w f a.class p) p

module _ (r : Receiver) (f : List ℕ) (m : ℕ) where
  abbrev Found : Left Receiver → Type 0
  Found x = Stands x.says f

  data_found : (offset : ℕ) (cdp : Bool) (n : ℕ) → Found (arrival_of r offset cdp n m)
  unfolding arrival_of
  data_found offset cdp n = unless_gives Found (entry_of (lent_of r m) r.ended) r _ (λ n. tt) (go (views.judges r offset cdp n))
    where
      go : {x : Left Receiver} → views.Arrived r offset cdp n x → Found x
      go (views.Arrived.full p) = tt
      go (views.Arrived.misplaced o p) = tt
      go (views.Arrived.long o p) = tt
      go (views.Arrived.empty o p) = tt
      go (views.Arrived.skipped i s) = tt
      go (views.Arrived.stored i s) = picked (λ (a : Said). Stands a f) (eqb (max r.filled (offset + n)) r.end) Said.received Said.stored tt tt

  arrived : (k : Class) (p : Passed ReadInitiator f (arrived_in k f)) → Found (read.taken_of k r (arrived_in k f) f m)
  unfolding read.not_expected_of read.response_of
  arrived Class.Data p = data_found (header_in f).offset (header_in f).flags.cdp (iu_length f)
  arrived Class.XferRdy p = rejected (xfer_rdy_of (iu_of f))
    where
      rejected : (y : Result XferRdy) → Found (read.rejected_by y r)
      rejected (Result.number n) = tt
      rejected (Result.value x) = tt
  arrived Class.Response p = opened (response_iu_of (iu_of f)) refl
    where
      opened : (y : Result Opened) → response_iu_of (iu_of f) ≡ y → Found (read.opened_by y r 24 (iu_length f))
      opened (Result.number n) e = tt
      opened (Result.value o) e = (refl, stands_there f p, whole ReadInitiator f _ p, e)

pub read_stands : ReadStands
unfolding read.read_arrival_of
read_stands r f m = unless_gives (Found r f m) (entry_of (read.read_lent_of r m) r.ended) r _ (λ n. tt) (go (accept_of ReadInitiator r.transfer f) refl)
  where
    go : (x : Result Arrived) → accept_of ReadInitiator r.transfer f ≡ x → Found r f m (read.arrived_by x r f m)
    go (Result.number n) q = tt
    go (Result.value a) q =
        let p = passed r.transfer ReadInitiator f a q in
        subst (λ (b : Arrived). Passed ReadInitiator f b → Found r f m (read.taken_of b.class r b f m)) p.is (λ p. arrived r f m a.class p) p

-- (b)
response_class : (role : Role) (frametype : ℕ) → (role ≡ ReadInitiator) ⊎ (role ≡ WriteInitiator) → frametype ≡ RESPONSE → class_of role frametype ≡ Some Class.Response
unfolding class_of pick
response_class role frametype (inl e) k = rw (e, k)
response_class role frametype (inr e) k = rw (e, k)

-- the IU that was written stands in the frame
stands : (t : Transfer) (h : Header) (iu : List ℕ) → Comes t h (length iu) → (take (length iu) (drop 24 (encode h iu)) ≡ iu) × ((part_of (encode h iu) 24 (length iu)).bytes ≡ iu)
stands t h iu c =
    let b = written_stands h iu c.range c.written in
    let e : take (length iu) (drop 24 (encode h iu)) ≡ iu = ap (λ (l : ℕ). take l (drop 24 (encode h iu))) (sym b.1) ∙ b.2 in
    (e, ap (λ (x : Lent). x.bytes) (whole_part (encode h iu) 24 (length iu) (omega (arith, encode_length h iu))) ∙ e)

pub read_opens : ReadOpens
unfolding read.read_arrival_of read.response_of
read_opens r h iu m k s d e n c form =
    let i = stands r.transfer h iu c in
    let o = opens iu k s d form in
    (rw (open_entry _ _ e n, written_passes r.transfer ReadInitiator h iu Class.Response (response_class ReadInitiator h.frametype (inl refl) c.frametype) c.dest c.source c.tag c.range c.written, i.0, o.0), rw i.1 o.1)

pub write_opens : WriteOpens
unfolding write.write_arrival_of write.response_of
write_opens w h iu k s d e n c form =
    let i = stands w.sender.transfer h iu c in
    let o = opens iu k s d form in
    (rw (open_entry _ _ e n, written_passes w.sender.transfer WriteInitiator h iu Class.Response (response_class WriteInitiator h.frametype (inr refl) c.frametype) c.dest c.source c.tag c.range c.written, i.0, o.0), rw i.1 o.1)
