-- A port that says "wait" is left as it was: a frame asked for once more changes nothing on the link.
use Prim.Native.Nat.{ℕ, max, ◌≤◌}
use mathlib.Core.List.{List}
use mathlib.Core.Bool.{Bool, true, false}
use mathlib.Core.Path.{◌≡◌, refl, sym, ap, subst, ◌∙◌}
use native.Mathlib.Omega.{arith}
use lib.Dec.{eqb}
use lib.ListN.{length}
use borrow.Author.Tests.{ne_eqb}
use Rattle.status.specs.Entry.{entry_of}
use Rattle.status.specs.Pick.{pick, ◌with◌}
use Rattle.status.specs.Answer.{Word, Said, Left, ◌saying◌}
use Rattle.status.proofs.OpenedCall.{open_entry}
use Rattle.sender_steps.specs.Record.{lent_of}
use Rattle.sender_steps.specs.Transmit.{waits_of}
use Rattle.sender.specs.Transmit.{next_of}
use Rattle.sender_steps.specs.declared.types.Sender.{Sender}
use Rattle.sender.proofs.Next.{next_waits}
use Rattle.initiator.specs.Fields.{reached≔}
use Rattle.initiator.specs.WriteSend.{kept_of, reached_of}
use Rattle.initiator.specs.WriteSend as write
use Rattle.initiator.specs.declared.types.Writer.{Writer}
use Rattle.initiator.proofs.WriteHeld.{held, lent}
use Rattle.initiator.proofs.WriteSame.{next_is}
use Rattle.link.specs.Ports.{Called, Ports}
use Rattle.link.specs.Tally.{Confirmation, Tally}
use Rattle.link.specs.World.{World, asks}
use Rattle.link.specs.World as link
use Rattle.link.proofs.ReadSimulates.{read_is}
use Rattle.link.proofs.WriteSimulates.{write_is}
use Rattle.ladder_run.specs.Ends.{ask_of}
use Rattle.ladder_run.specs.declared.types.Sending.{Sending}
use Rattle.ladder_run.specs.declared.types.Sending.TheVariants as sending
use Rattle.ladder_claim.proofs.SendingCore.{SendsAs, asks_as}
use Rattle.ladder_claim.proofs.Embeds.{Embeds}
use Rattle.ladder_claim.proofs.Stands.{at}

module _ (s : Sender) (d out : List ℕ) (l : lent_of s (length d) ≡ true) (live : s.ended ≡ false) (full : waits_of s ≡ true) (some : 1 ≤ s.unanswered) where
  core : next_of s d out ≡ (s saying Said.word Word.wait)
  core = next_waits s d out (open_entry _ _ l live) full

  -- a write's record: refused, or a burst that waits to start, or the sending port's answer; the furthest offset handed out is not below the next
  write_left : (w : Writer) → w.sender ≡ s → (write.next_of w d out).left ≡ w
  unfolding write.next_of entry_of pick
  write_left w e = go (write.lent_of w (length d)) w.pending refl refl
    where
      own : next_of w.sender d out ≡ (w.sender saying Said.word Word.wait)
      own = subst (λ (v : Sender). next_of v d out ≡ (v saying Said.word Word.wait)) (sym e) core

      on : w.sender.ended ≡ false
      on = ap (λ (v : Sender). v.ended) e ∙ live

      owed : eqb w.sender.unanswered 0 ≡ false
      owed = let u = ap (λ (v : Sender). v.unanswered) e in ne_eqb w.sender.unanswered 0 (λ z. omega arith)

      go : (t p : Bool) → write.lent_of w (length d) ≡ t → w.pending ≡ p → (write.next_of w d out).left ≡ w
      go false p f g = rw f refl
      go true true f g = rw (f, on, g, owed) refl
      go true false f g =
          let m = (held w (lent w (length d) f).0).marks in
          let same : max w.reached w.sender.next ≡ w.reached = omega (arith, m.reached_least) in
          ap (λ (v : Left Writer). v.left) (next_is w d out f g ∙ ap (λ (v : Left Sender). kept_of w (reached_of w v)) own) ∙ ap (λ (v : ℕ). w with reached≔ v) same

  same_left : (x : Sending) → SendsAs x s → (ask_of x d out).left ≡ x
  same_left (sending.Read x) a =
      ap sending.Read (read_is 0 _ _ (asks_as (sending.Read x) s d out a l).0 ∙ ap (λ (v : Left Sender). v.left) core ∙ sym (read_is 0 x s a))
  same_left (sending.Write w) a = ap sending.Write (write_left w (write_is 0 w s a))

  -- on the link, with no frame on the way
  module _ {P : Ports} (E : Embeds P) (y : P.Sending) (a : SendsAs (E.sender y) s) (r : P.Receiving) (b : List ℕ) (answers : List Confirmation) (t : Tally) (h : List (List ℕ)) (q : link.Report) where
    abbrev here : World P
    here = at y r d b answers t h q

    pub wait_idle : asks here (P.ask y d out) ≡ here
    wait_idle =
        let e = E.asks y d out in
        let left : (P.ask y d out).left ≡ y = E.same _ y (ap (λ (v : Called Sending). v.left) (sym e) ∙ same_left (E.sender y) a) in
        let says : (P.ask y d out).says ≡ Said.word Word.wait = ap (λ (v : Called Sending). v.says) (sym e) ∙ (asks_as (E.sender y) s d out a l).1 ∙ ap (λ (v : Left Sender). v.says) core in
        λ i. asks here (record { left = left i; says = says i; lent = (P.ask y d out).lent })
