-- A failure's number is that of the first bad event of the attempt (`first_bad_event`).
use Prim.Native.Nat.{ℕ}
use mathlib.Core.List.{List, [], ◌∷◌}
use mathlib.Core.Bool.{Bool, true}
use mathlib.Core.Path.{◌≡◌, refl, sym, ap, ap₂, ◌∙◌}
use Rattle.status.specs.Pick.{pick}
use Rattle.status.specs.Answer.{Word, Said, Left, ◌saying◌, fails}
use Rattle.status.proofs.OpenedCall.{differ}
use Rattle.sender_steps.specs.Confirmation.{lowered_of, cause_of}
use Rattle.sender_steps.specs.declared.types.Sender.{Sender}
use Rattle.sender.specs.FirstBadEvent.{Call, asked, ack, nak, timeout, cut, told, number, after, OneAttempt, first_bad, FirstBadEvent}
use Rattle.sender.proofs.Views.{retried, settled}
use Rattle.sender.proofs.Ended.{next_ended, ack_ended, nak_ended, timeout_ended, cut_ended}
use Rattle.sender.proofs.BadEvents.{bad, calm_no, Goes, calm, naks, retries, spent, same_28, no_bad, is_bad_lem, asks, begins, acks, naked, by_entry, cuts}

goes : (s : Sender) (c : Call) → Goes (number c) s (told c s)
goes s (asked d out) = asks s d out
goes s ack = by_entry s 0 _ (λ l. acks s (settled (lowered_of s s.nak)))
goes s nak = by_entry s 28 _ (λ l. naked s l (settled (lowered_of s true)))
goes s timeout = by_entry s 29 _ (λ l. begins s 29 (cause_of s 29) s refl (retried s (cause_of s 29)))
goes s cut = cuts s

-- an ended port fails no more
refuses_all : (c : Call) (s : Sender) → s.ended ≡ true → (n : ℕ) × (told c s ≡ (s saying Said.refused n))
refuses_all (asked d out) s e = next_ended s e d out
refuses_all ack s e = ack_ended s e
refuses_all nak s e = nak_ended s e
refuses_all timeout s e = timeout_ended s e
refuses_all cut s e = cut_ended s e

over : (s : Sender) → s.ended ≡ true → (cs : List Call) (c : Call) (n f : ℕ) → (told c (after s cs)).says ≡ Said.failed n f → ⊥
over s e [] c n f q = let r = refuses_all c s e in calm_no (told c s).says n f (ap (λ (x : Left Sender). fails x.says) r.1) q
over s e (b ∷ cs) c n f q = over (told b s).left (ap (λ (x : Left Sender). x.left.ended) (refuses_all b s e).1 ∙ e) cs c n f q

-- the last call
last : (k : ℕ) (s : Sender) {x : Left Sender} → Goes k s x → (n f : ℕ) → x.says ≡ Said.failed n f → n ≡ pick s.nak 28 k
last k s (calm y a e b o) n f q = absurd (calm_no _ n f o q)
last k s (naks y a e b h o) n f q = absurd (calm_no _ n f o q)
last k s (retries y) n f q = differ (cc)
last k s (spent y m g e h) n f q = cc

first : (s : Sender) (cs : List Call) → OneAttempt s cs → (c : Call) (n f : ℕ) → (told c (after s cs)).says ≡ Said.failed n f → n ≡ pick s.nak 28 (first_bad s cs (number c))
first s [] a c n f q = last (number c) s (goes s c) n f q
first s (b ∷ cs) a c n f q = go (goes s b) a.0 (first (told b s).left cs a.1 c n f q) (λ e. over (told b s).left e cs c n f q)
  where
    go : {x : Left Sender} → Goes (number b) s x → (x.says ≡ Said.word Word.retry → ⊥) → n ≡ pick x.left.nak 28 (first_bad x.left cs (number c)) → (x.left.ended ≡ true → ⊥) →
        n ≡ pick s.nak 28 (pick (bad (number b) s x.says) (number b) (first_bad x.left cs (number c)))
    go (calm y z e h o) r i v = i ∙ ap₂ (λ (t : Bool) (m : ℕ). pick t 28 m) e (sym (no_bad (number b) (first_bad y cs (number c)) (bad (number b) s z) h))
    go (naks y z e h k o) r i v = i ∙ is_bad_lem 28 _ y.nak e ∙ sym (same_28 s.nak) ∙ ap (λ (t : ℕ). pick s.nak 28 t) (sym k ∙ sym (is_bad_lem (number b) (first_bad y cs (number c)) (bad (number b) s z) h))
    go (retries y) r i v = absurd (r refl)
    go (spent y m g e h) r i v = absurd (v e)

pub first_bad_event : FirstBadEvent
unfolding pick
first_bad_event s e cs a c n f q = first s cs a c n f q ∙ ap (λ (t : Bool). pick t 28 (first_bad s cs (number c))) e
