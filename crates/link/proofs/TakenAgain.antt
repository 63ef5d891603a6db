-- A repeat is for the burst taken last; an initiator that took an XFER_RDY takes it sent again, and so whatever a target hands out again: laws of specs/Resent.antt.
use Prim.Native.Nat.{ℕ, ◌+◌, ◌-◌, ◌%◌}
use mathlib.Core.List.{List, [], ◌∷◌}
use mathlib.Core.Bool.{Bool, true, false}
use mathlib.Core.Logic.{◌⊎◌, inl, inr}
use mathlib.Core.Path.{◌≡◌, refl, sym, ap, subst, ◌∙◌}
use native.Mathlib.Omega.{arith}
use lib.Dec.{leb, ltb, eqb}
use lib.ListN.{length, length-take, length-drop}
use borrow.Author.Tests.{ltb-false}
use Rattle.status.specs.Pick.{pick, all}
use Rattle.status.specs.Entry.{entry_of}
use Rattle.status.specs.Answer.{Left, unless}
use Rattle.status.specs.Result.{Result}
use Rattle.status.specs.Entry.{Entry}
use Rattle.std.specs.Prelude.{Ok, Err}
use Rattle.status.proofs.OpenedCall.{differ}
use Rattle.transfer.specs.declared.Transfer.{Transfer}
use Rattle.frame.specs.Read.{fill_count, header_in, well_formed, iu_length, iu_of}
use Rattle.frame.specs.XferRdy.{xfer_rdy_of}
use Rattle.frame.specs.declared.types.Header.{Header}
use Rattle.frame.specs.declared.types.XferRdy.{XferRdy}
use Rattle.arrival.specs.Accept.{class_of, accept_of}
use Rattle.arrival.specs.declared.Role.TheVariants.{WriteInitiator}
use Rattle.arrival.specs.declared.Class.{Class}
use Rattle.arrival.proofs.Passed.{arrived_in, same_passes}
use Rattle.sender_steps.specs.declared.types.Burst.{Burst}
use Rattle.initiator.specs.WriteRecord.{holds_of}
use Rattle.initiator.specs.WriteCount.{takes}
use Rattle.initiator.specs.WriteTake.{previous, burst_taken, write_arrival_of}
use Rattle.initiator.specs.declared.types.Writer.{Writer}
use Rattle.initiator.proofs.WriteRepeat.{Keeps, ack_keeps, nak_keeps, timeout_keeps, cut_keeps, loss_keeps, next_keeps, arrival_keeps, Took, took, repeat_taken}
use Rattle.link.specs.Ports.{Signal}
use Rattle.link.specs.Resent.{again, Again, Repeats, InTurn, after, Brings, TakesOnly, TakenAsRepeat, RepeatsItsBurst, TakenAgain, Each, ResentTaken}
use Rattle.link.specs.Calls.{WriterCall, writer_call}
use Rattle.link.proofs.Resent.{handed_out_again}

-- an XFER_RDY's IU that is read has 12 bytes
twelve : (iu : List ℕ) (x : XferRdy) → xfer_rdy_of iu ≡ Result.value x → length iu ≡ 12
unfolding xfer_rdy_of pick
twelve iu x e = go (ltb (length iu) 12) (ltb 12 (length iu)) _ refl refl e
  where
    go : (t u : Bool) (y : Result XferRdy) → ltb (length iu) 12 ≡ t → ltb 12 (length iu) ≡ u → pick t (Result.number 23) (pick u (Result.number 24) y) ≡ Result.value x → length iu ≡ 12
    go false false y p q e = omega (arith, ltb-false (length iu) 12 p, ltb-false 12 (length iu) q)
    go false true y p q e = differ (cc)
    go true u y p q e = differ (cc)

iu_size : (f : List ℕ) → length (iu_of f) ≡ iu_length f
iu_size f = rw (length-take, length-drop) (omega arith)

-- the record has the burst x as its previous one
record Stands (t : Transfer) (x : XferRdy) (v : Writer) : Type 0 where
  transfer : v.sender.transfer ≡ t
  base : (previous v).base ≡ x.offset
  end : (previous v).end ≡ x.offset + x.len

module _ (w : Writer) (f : List ℕ) (t : takes (write_arrival_of w f).says ≡ true) where
  first : Took w f (write_arrival_of w f)
  first = took w f t

  abbrev asked : XferRdy
  asked = first.asked

  abbrev Standing : Writer → Type 0
  Standing = Stands w.sender.transfer asked

  stands_first : Standing (write_arrival_of w f).left
  stands_first = record { transfer = first.transfer; base = ap (λ (b : Burst). b.base) first.burst; end = ap (λ (b : Burst). b.end) first.burst }

  -- f sent again
  module _ (g : List ℕ) (a : Again f g) where
    fill : fill_count g ≡ fill_count f
    fill =
        let n : iu_length g ≡ iu_length f = sym (iu_size g) ∙ ap length a.iu ∙ iu_size f in
        let m : iu_length f ≡ 12 = sym (iu_size f) ∙ twelve (iu_of f) asked first.reads in
        omega (arith, a.size)

    form : well_formed g ≡ well_formed f
    form i = all (leb 24 (a.size i) ∷ leb (a.size i) 1_048 ∷ eqb (a.size i % 4) 0 ∷ leb (fill i) (a.size i - 24) ∷ [])

    passes : accept_of WriteInitiator w.sender.transfer g ≡ Result.value (arrived_in Class.XferRdy g)
    passes =
        same_passes w.sender.transfer WriteInitiator f g _ form (ap (λ (h : Header). h.frametype) a.header) (ap (λ (h : Header). h.dest) a.header) (ap (λ (h : Header). h.source) a.header)
        (ap (λ (h : Header). h.tag) a.header) first.accepted

    reads : xfer_rdy_of (iu_of g) ≡ Result.value asked
    reads = ap xfer_rdy_of a.iu ∙ first.reads

    arrives : (v : Writer) → Standing v → TakenAsRepeat v g
    unfolding burst_taken
    arrives v s =
        let i = first.fits in
        let c = ap (λ (u : Transfer). u.count) s.transfer in
        ap (λ (z : Left Writer). z.says)
        (repeat_taken v asked s.base s.end i.some (omega (arith, c, i.most)) g (ap (λ (u : Transfer). accept_of WriteInitiator u g) s.transfer ∙ passes)
        (ap (λ (h : Header). h.flags.retransmit) a.header) reads)
        ∙ go (entry_of (holds_of v) v.sender.ended) v _ _ refl
      where
        go : (e : Entry) (v : Writer) (y z : Left Writer) → y.says ≡ z.says → (unless e v y).says ≡ (unless e v z).says
        go (Ok tt) v y z p = p
        go (Err why) v y z p = refl

  keep : {v u : Writer} → Keeps v u → Standing v → Standing u
  keep k s = record { transfer = k.transfer ∙ s.transfer; base = ap (λ (b : Burst). b.base) k.burst ∙ s.base; end = ap (λ (b : Burst). b.end) k.burst ∙ s.end }

  -- f sent again arrives, taken or not
  repeats : (v : Writer) (g : List ℕ) → Again f g → Standing v → Standing (write_arrival_of v g).left
  repeats v g a s = go (takes (write_arrival_of v g).says) refl
    where
      go : (b : Bool) → takes (write_arrival_of v g).says ≡ b → Standing (write_arrival_of v g).left
      go false e = keep (arrival_keeps v g e) s
      go true e =
          let k = took v g e in
          let r = sym k.reads ∙ reads g a in
          let q : k.asked ≡ asked = cc in
          record {
            transfer = k.transfer ∙ s.transfer;
            base = ap (λ (b : Burst). b.base) k.burst ∙ ap (λ (x : XferRdy). x.offset) q;
            end = ap (λ (b : Burst). b.end) k.burst ∙ ap (λ (x : XferRdy). x.offset + x.len) q;
          }

  call_keeps : (c : WriterCall) (v : Writer) → (takes (writer_call c v).says ≡ false) ⊎ Brings f c → Standing v → Standing (writer_call c v).left
  call_keeps (WriterCall.asking d out) v o = keep (next_keeps v d out)
  call_keeps (WriterCall.signals Signal.ack) v o = keep (ack_keeps v)
  call_keeps (WriterCall.signals Signal.nak) v o = keep (nak_keeps v)
  call_keeps (WriterCall.signals Signal.timeout) v o = keep (timeout_keeps v)
  call_keeps (WriterCall.signals Signal.cut) v o = keep (cut_keeps v)
  call_keeps (WriterCall.signals Signal.loss) v o = keep (loss_keeps v)
  call_keeps (WriterCall.bytes g) v (inl e) = keep (arrival_keeps v g e)
  call_keeps (WriterCall.bytes g) v (inr a) = repeats v g a

  stands : (v : Writer) (cs : List WriterCall) → TakesOnly f v cs → Standing v → Standing (after v cs)
  stands v [] o s = s
  stands v (c ∷ cs) o s = stands (writer_call c v).left cs o.1 (call_keeps c v o.0 s)

pub repeats_its_burst : RepeatsItsBurst
repeats_its_burst w f e =
    let k = took w f (ap takes e) in
    let r = k.repeat e in
    let l : k.asked.len ≡ (previous w).end - (previous w).base = omega (arith, r.base, r.end) in
    (k.reads ∙ λ i. Result.value (record { offset = r.base i; len = l i }), ap (λ (b : Burst). b.base) k.burst ∙ r.base, ap (λ (b : Burst). b.end) k.burst ∙ r.end)

pub taken_again : TakenAgain
taken_again w f t cs o g a = arrives w f t g a (after (write_arrival_of w f).left cs) (stands w f t (write_arrival_of w f).left cs o (stands_first w f t))

-- ── both ──
-- what is sent again twice is sent again
twice : {f e g : List ℕ} → Again f e → Again e g → Again f g
twice {f} {e} {g} a b = record { header = b.header ∙ ap (again (header_in g).tptt) a.header; iu = b.iu ∙ a.iu; size = b.size ∙ a.size }

-- e stands before gs, and what is e sent again is f sent again
chain : (f e : List ℕ) (gs : List (List ℕ)) → ((g : List ℕ) → Again e g → Again f g) → Repeats e gs → Each (λ g. (header_in g).flags.retransmit ≡ true) gs → Each (Again f) gs
chain f e [] k r a = tt
chain f e (g ∷ gs) k r a = let p = k g (r.0 a.0) in (p, chain f g gs (λ h q. twice p q) r.1 a.1)

each : (P Q : List ℕ → Type 0) → ((g : List ℕ) → P g → Q g) → (gs : List (List ℕ)) → Each P gs → Each Q gs
each P Q k [] a = tt
each P Q k (g ∷ gs) a = (k g a.0, each P Q k gs a.1)

pub resent_taken : ResentTaken
resent_taken y cs f gs e r w t ds o =
    each (Again f) (TakenAsRepeat (after (write_arrival_of w f).left ds)) (taken_again w f t ds o) gs
    (chain f f gs (λ g a. a) (subst InTurn e (handed_out_again y cs)) r)
