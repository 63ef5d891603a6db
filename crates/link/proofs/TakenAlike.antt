-- Frames that differ only in what a role ignores, TLR CONTROL or a TPTT without meaning there, are taken alike by it.
use Prim.Native.Nat.{ℕ, ◌+◌, ◌/◌, ◌%◌}
use mathlib.Core.List.{List}
use mathlib.Core.Bool.{not, ◌&&◌}
use mathlib.Core.Path.{◌≡◌, refl, sym, ap, ◌∙◌}
use native.Mathlib.Omega.{arith}
use lib.Dec.{eqb}
use lib.ListN.{length, get_or}
use Rattle.status.specs.Pick.{pick}
use Rattle.status.specs.Answer.{Word, Said, Left, ◌saying◌, unless}
use Rattle.status.specs.Entry.{entry_of}
use Rattle.status.proofs.OpenedCall.{differ}
use Rattle.frame.specs.Format.{RESPONSE, flags_of}
use Rattle.frame.specs.Read.{header_in, iu_of}
use Rattle.frame.proofs.Alike.{Alike, field_same, type_same, dest_same, source_same, tag_same, offset_same, length_same, iu_same, form_same}
use Rattle.std.specs.Prelude.{Some}
use Rattle.arrival.specs.Accept.{class_of}
use Rattle.arrival.specs.declared.Class.{Class}
use Rattle.arrival.specs.declared.Role.{Role}
use Rattle.arrival.specs.declared.Role.TheVariants.{ReadInitiator, WriteInitiator, WriteTarget, ReadTarget}
use Rattle.arrival.proofs.Passed.{arrived_in}
use Rattle.arrival.proofs.Screens.{Agree}
use Rattle.arrival.proofs.Alike.{alike}
use Rattle.sender_steps.specs.declared.types.Sender.{Sender}
use Rattle.receiver.specs.DataFrame.{arrival_of}
use Rattle.receiver_steps.specs.DataFrame.{storing}
use Rattle.receiver_steps.specs.declared.types.Receiver.{Receiver}
use Rattle.initiator.specs.Read as reading
use Rattle.initiator.specs.WriteRecord as recorded
use Rattle.initiator.specs.WriteTake as writing
use Rattle.initiator.specs.declared.types.Writer.{Writer}
use Rattle.initiator.proofs.Alike.{xfer_rdy_alike}
use Rattle.target.specs.Record.{NONE, READY}
use Rattle.target.specs.Arrival as filling
use Rattle.target.specs.Read as sending
use Rattle.target.specs.declared.types.Target.{Target}
use Rattle.link.specs.Ports.{Called, lending}
use Rattle.link.specs.Reading.{IsResponse}
use Rattle.link.specs.TakenAlike.{IgnoresTptt, SameTo, TakenAlike, TlrIgnored, TagIgnored}

-- what each role looks at is the same
module _ (role : Role) (f g : List ℕ) (s : SameTo role f g) where
  same : Alike f g
  same = record { size = s.size; others = λ i a b c. s.others i a (λ z. (b, c)) }

  agree : Agree f g
  unfolding header_in
  agree = record { form = form_same f g same; frametype = type_same f g same; dest = dest_same f g same; source = source_same f g same; tag = tag_same f g same }

  cdp_same : (header_in f).flags.cdp ≡ (header_in g).flags.cdp
  unfolding header_in flags_of
  cdp_same = let l = s.below in let e : get_or f 10 0 % 2 ≡ get_or g 10 0 % 2 = omega arith in λ i. eqb (e i) 1

  retry_same : (header_in f).flags.retry ≡ (header_in g).flags.retry
  unfolding header_in flags_of
  retry_same = let l = s.below in let e : get_or f 10 0 / 4 % 2 ≡ get_or g 10 0 / 4 % 2 = omega arith in λ i. eqb (e i) 1

  retransmit_same : (header_in f).flags.retransmit ≡ (header_in g).flags.retransmit
  unfolding header_in flags_of
  retransmit_same = let l = s.below in let e : get_or f 10 0 / 2 % 2 ≡ get_or g 10 0 / 2 % 2 = omega arith in λ i. eqb (e i) 1

  place_same : (header_in f).offset ≡ (header_in g).offset
  unfolding header_in
  place_same = offset_same f g same

  -- where the role does not ignore it
  tptt_same : (IgnoresTptt role f → ⊥) → (header_in f).tptt ≡ (header_in g).tptt
  unfolding header_in
  tptt_same sees = field_same f g 18 2 (λ k l. s.others (18 + k) (λ e. omega arith) (λ z. absurd (sees z)))

  lands : {X : Type 0} (b : List ℕ) (x y : Left X) → x ≡ y → ◌≡◌ {A = Called X} (lending x (storing x.says (header_in f).offset (iu_of f) b)) (lending y (storing y.says (header_in g).offset (iu_of g) b))
  lands b x y e i = lending (e i) (storing (e i).says (place_same i) (iu_same f g same i) b)

  reads : (r : Receiver) (m : ℕ) → reading.read_arrival_of r f m ≡ reading.read_arrival_of r g m
  unfolding reading.read_arrival_of
  reads r m =
      ap (unless (entry_of (reading.read_lent_of r m) r.ended) r)
      (alike f g agree ReadInitiator r.transfer (λ h o. reading.arrived_by o r h m) (λ n. refl)
      (λ k e. go k))
    where
      go : (k : Class) → reading.taken_of k r (arrived_in k f) f m ≡ reading.taken_of k r (arrived_in k g) g m
      go Class.Data = λ i. arrival_of r (place_same i) (cdp_same i) (length_same f g same i) m
      go Class.XferRdy = ap (reading.not_expected_of r) (iu_same f g same)
      go Class.Response = λ i. reading.response_of r 24 (length_same f g same i) (iu_same f g same i)

  sends : (x : Sender) → sending.read_arrival_of x f ≡ sending.read_arrival_of x g
  unfolding sending.read_arrival_of
  sends x = ap (unless (entry_of (sending.read_holds_of x) x.ended) x) (alike f g agree ReadTarget x.transfer (λ h o. sending.none_of o x) (λ n. refl) (λ k e. refl))

-- a RESPONSE is not taken for an XFER_RDY
not_both : (n : ℕ) → class_of WriteInitiator n ≡ Some Class.XferRdy → n ≡ RESPONSE → ⊥
unfolding class_of pick
not_both n e q = let p : class_of WriteInitiator RESPONSE ≡ Some Class.XferRdy = sym (ap (class_of WriteInitiator) q) ∙ e in differ (cc)

type_of : (f : List ℕ) → IsResponse f → (header_in f).frametype ≡ RESPONSE
unfolding header_in
type_of f q = q

module _ (f g : List ℕ) where
  takes : SameTo WriteInitiator f g → (w : Writer) → writing.write_arrival_of w f ≡ writing.write_arrival_of w g
  unfolding writing.write_arrival_of
  takes s w =
      ap (unless (entry_of (recorded.holds_of w) w.sender.ended) w)
      (alike f g (agree WriteInitiator f g s) WriteInitiator w.sender.transfer (λ h o. writing.arrived_by o w h) (λ n. refl)
      go)
    where
      a : Alike f g
      a = same WriteInitiator f g s

      go : (k : Class) → class_of WriteInitiator (header_in f).frametype ≡ Some k → writing.taken_of k w (arrived_in k f) f ≡ writing.taken_of k w (arrived_in k g) g
      go Class.Data e = refl
      go Class.XferRdy e =
          xfer_rdy_alike w (header_in f) (header_in g) (tptt_same WriteInitiator f g s (λ q. not_both (header_in f).frametype e (type_of f q))) (retry_same WriteInitiator f g s) (retransmit_same WriteInitiator f g s) (iu_of f)
          ∙ ap (writing.xfer_rdy_taken w (header_in g)) (iu_same f g a)
      go Class.Response e = λ i. writing.response_of w 24 (length_same f g a i) (iu_same f g a i)

  fills : SameTo WriteTarget f g → (x : Target) (m : ℕ) → filling.write_arrival_of x f m ≡ filling.write_arrival_of x g m
  unfolding filling.write_arrival_of filling.taken_of
  fills s x m =
      ap (unless (entry_of (filling.lent_of x m) x.receiver.ended) x)
      (alike f g (agree WriteTarget f g s) WriteTarget x.receiver.transfer (λ h o. filling.arrived_by o x m) (λ n. refl)
      (λ k e i. pick (not (eqb x.state NONE) && eqb (tptt_same WriteTarget f g s (λ z. z) i) x.tptt)
      (pick (eqb x.state READY) (filling.lifted_of x (arrival_of x.receiver (place_same WriteTarget f g s i) (cdp_same WriteTarget f g s i) (length_same f g (same WriteTarget f g s) i) m)) (x saying Said.word Word.discarded))
      (x saying Said.refused 8)))

pub taken_alike : TakenAlike
taken_alike ReadInitiator r f g b s = lands ReadInitiator f g s b _ _ (reads ReadInitiator f g s r (length b))
taken_alike WriteInitiator w f g b s = ap (λ (z : Left Writer). lending z b) (takes f g s w)
taken_alike WriteTarget y f g b s = lands WriteTarget f g s b _ _ (fills f g s y (length b))
taken_alike ReadTarget x f g b s = ap (λ (z : Left Sender). lending z b) (sends ReadTarget f g s x)

pub tlr_ignored : TlrIgnored
tlr_ignored role x f g b s = taken_alike role x f g b (record { size = s.size; others = λ i a z. s.others i a; above = s.above; below = s.below })

pub tag_ignored : TagIgnored
tag_ignored role x f g b h s =
    let ten = s.others 10 (λ e. omega arith) (λ e. omega arith) in
    taken_alike role x f g b (record { size = s.size; others = λ i a z. s.others i (z h).0 (z h).1; above = ap (λ (n : ℕ). n / 32) ten; below = ap (λ (n : ℕ). n % 8) ten })
