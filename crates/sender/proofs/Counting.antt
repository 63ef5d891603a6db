-- The count in an answer is the length of the history of frames: each definition of an event keeps it so.
use Prim.Native.Nat.{ℕ, ◌+◌}
use mathlib.Core.List.{List, [], ◌∷◌}
use mathlib.Core.Bool.{true}
use mathlib.Core.Path.{◌≡◌, refl, sym, ap, subst, ◌∙◌}
use lib.ListN.{length, length-append}
use Rattle.frame.specs.Write.{hands}
use Rattle.status.specs.Entry.{entry_of}
use Rattle.status.specs.Answer.{Left, unless}
use Rattle.status.specs.Entry.{Entry}
use Rattle.status.proofs.Leaves.{unless_gives}
use Rattle.sender_steps.specs.Record.{holds_of, lent_of}
use Rattle.sender_steps.specs.Transmit.{frame_of, sent_of}
use Rattle.sender.specs.Transmit.{next_of}
use Rattle.sender_steps.specs.Count.{Counts}
use Rattle.sender_steps.specs.Confirmation.{lowered_of, cause_of}
use Rattle.sender_steps.proofs.Counting.{counts_pick, counts_failed, counts_retry, counts_settle}
use Rattle.sender.specs.Confirmation.{confirms_of, ack_of, nak_of, timeout_of, cut_of, loss_of}
use Rattle.sender_steps.specs.declared.types.Sender.{Sender}

-- a result that equals its definition counts as the definition does
pub both : (s : Sender) (f : List ℕ) {r d : Left Sender} → r ≡ d → Counts s f d → (r ≡ d) × Counts s f r
both s f e k = (e, subst (Counts s f) (sym e) k)

counts_unless : (s : Sender) (f : List ℕ) (e : Entry) (x : Left Sender) → Counts s f x → Counts s f (unless e s x)
counts_unless s f e x = unless_gives (Counts s f) e s x (λ n h e. (e, tt))

pub ack_counts : (s : Sender) → Counts s [] (ack_of s)
ack_counts s = counts_unless s [] (confirms_of s) _ (counts_settle s [] (lowered_of s s.nak) refl)

pub nak_counts : (s : Sender) → Counts s [] (nak_of s)
nak_counts s = counts_unless s [] (confirms_of s) _ (counts_settle s [] (lowered_of s true) refl)

pub timeout_counts : (s : Sender) → Counts s [] (timeout_of s)
timeout_counts s = counts_unless s [] (confirms_of s) _ (counts_retry s [] s refl (cause_of s 29))

pub cut_counts : (s : Sender) → Counts s [] (cut_of s)
cut_counts s = counts_unless s [] (entry_of (holds_of s) s.ended) _ (counts_pick s [] _ _ _ (λ h e. (e, tt)) (counts_retry s [] s refl (cause_of s 30)))

pub loss_counts : (s : Sender) → Counts s [] (loss_of s)
loss_counts s = counts_unless s [] (entry_of (holds_of s) s.ended) _ (counts_failed s [] s refl 31)

pub next_counts : (s : Sender) (d out : List ℕ) → Counts s (frame_of s d) (next_of s d out)
unfolding next_of hands sent_of
next_counts s d out =
    let f = frame_of s d in
    counts_unless s f (entry_of (lent_of s (length d)) s.ended) _
    (counts_pick s f _ _ _ (λ h e. (e, tt))
    (counts_pick s f _ _ _ (λ h e. (length-append h (f ∷ []) ∙ ap (λ (n : ℕ). n + 1) e, tt)) (λ h e. (e, tt))))
