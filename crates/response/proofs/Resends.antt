-- The RESPONSE's rules hold (`resends`).
use Prim.Native.Nat.{ℕ, ◌<◌}
use mathlib.Core.List.{List}
use mathlib.Core.Bool.{Bool, true, false}
use mathlib.Core.Logic.{inl, inr}
use mathlib.Core.Path.{◌≡◌, refl, sym, ap, subst, ◌∙◌}
use native.Mathlib.Omega.{arith}
use lib.Dec.{leb, ltb}
use lib.ListN.{length}
use borrow.Author.Tests.{ltb-true, ltb-false, lt-ltb, le-ltb, eq-eqb}
use Rattle.status.specs.Pick.{pick, ◌with◌}
use Rattle.status.specs.Entry.{confirmable_of}
use Rattle.status.specs.Answer.{Word, Said, ◌saying◌, unless}
use Rattle.status.specs.Entry.{Entry}
use Rattle.std.specs.Prelude.{Ok, Err}
use Rattle.status.specs.declared.words.Refusal.TheVariants.{AnswerWithoutFrame}
use Rattle.status.proofs.OpenedCall.{open_entry, open_confirmable}
use Rattle.frame.specs.Format.{encode}
use Rattle.frame.specs.Write.{hands}
use Rattle.response.specs.Fields.{unanswered≔}
use Rattle.response.specs.Record.{most_of}
use Rattle.response.specs.Transmit.{lent_of, response_header, frame_of, next_of}
use Rattle.response.specs.Confirmation.{failed_of, retried_of, retry_of, confirms_of, cut_of}
use Rattle.response.specs.Resends.{Open, Within, Retry, header, Resends}
use Rattle.response.specs.declared.types.Responder.{Responder}

resent : (x : Responder) (iu : List ℕ) (b : Bool) → ltb 0 x.retries ≡ b → frame_of x iu ≡ encode (header x b) iu
unfolding frame_of response_header
resent x iu b e = ap (λ (t : Bool). encode (header x t) iu) e

within_most : (x : Responder) → Within x → x.retries < most_of x
within_most x (inl l) = omega (arith, l)
within_most x (inr z) = omega (arith, z)

most_within : (x : Responder) → x.retries < most_of x → Within x
most_within x l = go (ltb x.retries x.transfer.limit) refl
  where
    go : (b : Bool) → ltb x.retries x.transfer.limit ≡ b → Within x
    go true e = inl (ltb-true _ _ e)
    go false e = inr (omega (arith, l, ltb-false x.retries x.transfer.limit e))

module _ (x : Responder) (o : Open x) where
  module _ (u : x.unanswered ≡ true) where
    confirms : confirms_of x ≡ (Ok tt)
    unfolding confirms_of
    confirms = open_confirmable _ _ _ o.holds o.live u

    retry : (n : ℕ) → Retry x n (retry_of x n)
    unfolding retry_of pick
    retry n = go (ltb x.retries (most_of x)) refl
      where
        go : (b : Bool) → ltb x.retries (most_of x) ≡ b → Retry x n (pick b (retried_of x saying Said.word Word.retry) (failed_of x n))
        go true e = record { within = λ q. refl; beyond = λ q. absurd (q (most_within x (ltb-true x.retries (most_of x) e))) }
        go false e = record { within = λ q. absurd (omega (arith, within_most x q, ltb-false x.retries (most_of x) e)); beyond = λ q. refl }

    cut_is : cut_of x ≡ retry_of x 30
    unfolding pick
    cut_is = ap (λ (e : Entry). unless e x (pick x.unanswered (retry_of x 30) (x saying Said.word Word.unchanged))) (open_entry _ _ o.holds o.live) ∙ ap (λ (b : Bool). pick b (retry_of x 30) (x saying Said.word Word.unchanged)) u

    cuts : Retry x 30 (cut_of x)
    cuts = subst (Retry x 30) (sym cut_is) (retry 30)

  module _ (r : x.unanswered ≡ false) where
    four : confirms_of x ≡ Err AnswerWithoutFrame
    unfolding confirms_of confirmable_of pick
    four = rw (open_entry _ _ o.holds o.live, r) refl

    rests : cut_of x ≡ (x saying Said.word Word.unchanged)
    unfolding pick
    rests = rw (open_entry _ _ o.holds o.live, r) refl

  module _ (iu out : List ℕ) (e : length iu ≡ x.len) where
    lent : lent_of x (length iu) ≡ true
    unfolding lent_of
    lent = simp (o.holds, eq-eqb _ _ e)

    hands_out : x.unanswered ≡ false → next_of x iu out ≡ pick (leb (length (frame_of x iu)) (length out)) ((x with unanswered≔ true) saying Said.frame (length (frame_of x iu))) (x saying Said.refused 3)
    unfolding next_of hands pick
    hands_out u = rw (open_entry _ _ lent o.live, u) refl

    waits : x.unanswered ≡ true → next_of x iu out ≡ (x saying Said.word Word.wait)
    unfolding next_of pick
    waits u = rw (open_entry _ _ lent o.live, u) refl

pub resends : Resends
resends =
    record {
      first = λ x iu e. resent x iu false (le-ltb 0 x.retries (omega (arith, e)));
      again = λ x iu l. resent x iu true (lt-ltb 0 x.retries l);
      hands_out = λ x iu out o e u. hands_out x o iu out e u;
      waits = λ x iu out o e u. waits x o iu out e u;
      ack = λ x o u. rw (confirms x o u) refl;
      nak = λ x o u. rw (confirms x o u) (retry x o u 28);
      timeout = λ x o u. rw (confirms x o u) (retry x o u 29);
      cut = λ x o u. cuts x o u;
      ack_at_rest = λ x o r. rw (four x o r) refl;
      nak_at_rest = λ x o r. rw (four x o r) refl;
      timeout_at_rest = λ x o r. rw (four x o r) refl;
      cut_at_rest = λ x o r. rests x o r;
    }
