-- The sending core's record on its way through a ladder: where its next frame and its restart point are, by frame number, and what each step leaves of that.
use Prim.Native.Nat.{ℕ, zero, suc, ◌+◌, ◌-◌, ◌^◌, min, ◌≤◌, ◌<◌}
use mathlib.Core.Bool.{Bool, true, false}
use mathlib.Core.Path.{◌≡◌, refl, sym, ap, ◌∙◌}
use native.Mathlib.Omega.{arith}
use Rattle.status.specs.Pick.{pick}
use Rattle.transfer.specs.Limits.{past, limits_hold}
use Rattle.transfer.specs.declared.Transfer.{Transfer}
use Rattle.transfer.proofs.Bounds.{Bounds, bounds}
use Rattle.sender_steps.specs.Record.{holds_of}
use Rattle.sender_steps.specs.Transmit.{lesser, sent_of}
use Rattle.sender_steps.specs.Confirmation.{lowered_of, restart_of, retried_of, moved_of}
use Rattle.sender_steps.specs.declared.types.Burst.{Burst}
use Rattle.sender_steps.specs.declared.types.Sender.{Sender}
use Rattle.sender_steps.proofs.Held.{held}
use Rattle.sender_steps.proofs.Due.{Due}
use Rattle.sender.proofs.Kept.{sent_holds, lowered_holds, retried_holds, moved_holds}
use Rattle.link.proofs.Grid.{Inside, at, needed, at_next, at_below, inside_at, inside_mono, inside_needed}
use Rattle.ladder_run.specs.Row.{ROWS-MOST, COUNT-MOST}

-- the transfer and its one burst; the number of fates listed
pub record Course : Type 0 where
  pub t : Transfer
  pub b : Burst
  pub listed : ℕ
  pub limits_held : limits_hold t ≡ true
  pub some : b.base < b.end
  pub small : past t ≤ COUNT-MOST
  pub few : listed + (t.window - 1) + needed b.base b.end t.size ≤ ROWS-MOST

module _ (C : Course) where
  -- where frame i begins, and whether it does inside the burst
  abbrev pub place : ℕ → ℕ
  place = at C.b.base C.b.end C.t.size

  abbrev pub within : ℕ → Type 0
  within = Inside C.b.base C.b.end C.t.size

  -- the frames of a faultless transfer
  abbrev pub enough : ℕ
  enough = needed C.b.base C.b.end C.t.size

  -- fates listed, the rest of one window, a faultless transfer
  abbrev pub most : ℕ
  most = C.listed + (C.t.window - 1) + enough

  pub limits : Bounds C.t
  limits = bounds C.t C.limits_held

  pub sized : 1 ≤ C.t.size
  sized = let l = limits.size_least in omega arith

  -- the record s has handed out n frames, its next one is frame j, and a retry would go on at frame m
  pub record On (s : Sender) (n j m : ℕ) : Type 0 where
    pub transfer : s.transfer ≡ C.t
    pub burst : s.burst ≡ C.b
    pub holds : holds_of s ≡ true
    pub live : s.ended ≡ false
    pub next_at : s.next ≡ place j
    pub all_in : (i : ℕ) → i < j → within i
    pub restart : restart_of s ≡ place m
    pub restart_in : within m
    pub frames : s.frames ≡ n

  module _ (s : Sender) (n j m : ℕ) (o : On s n j m) where
    pub j_most : j ≤ enough
    j_most = go j o.all_in
      where
        go : (x : ℕ) → ((i : ℕ) → i < x → within i) → x ≤ enough
        go zero f = omega arith
        go (suc i) f = inside_needed C.b.base C.b.end C.t.size sized i (f i (omega arith))

    end_is : s.burst.end ≡ C.b.end
    end_is = ap (λ (x : Burst). x.end) o.burst

    -- frame j begins inside the burst unless the next offset is the end
    pub next_in : (s.next ≡ s.burst.end → ⊥) → within j
    next_in u = inside_at C.b.base C.b.end C.t.size sized j (λ q. u (o.next_at ∙ q ∙ sym end_is))

    pub next_under : within j → s.next ≡ s.burst.end → ⊥
    next_under w e = omega (arith, end_is, o.next_at, at_below C.b.base C.b.end C.t.size sized j w)

    pub next_needed : (s.next ≡ s.burst.end → ⊥) → j < enough
    next_needed u = inside_needed C.b.base C.b.end C.t.size sized j (next_in u)

    -- the next frame was handed out
    pub sent_on : Due s → n + 1 < 2 ^ 60 → On (sent_of s) (n + 1) (suc j) m
    unfolding sent_of
    sent_on d few =
        record {
          transfer = o.transfer;
          burst = o.burst;
          holds = sent_holds s (held s o.holds) d (omega (arith, o.frames));
          live = o.live;
          next_at =
              ap (λ (x : ℕ). x + lesser s) o.next_at
              ∙ (λ i. place j + min (o.transfer i).size ((o.burst i).end - o.next_at i))
              ∙ sym (at_next C.b.base C.b.end C.t.size sized j (next_in d.next));
          all_in = λ i q. inside_mono C.b.base C.b.end C.t.size sized i j (omega arith) (next_in d.next);
          restart = o.restart;
          restart_in = o.restart_in;
          frames = ap (λ (x : ℕ). x + 1) o.frames;
        }

    -- an answer lowered the count
    pub lowered_on : (nak : Bool) → On (lowered_of s nak) n j m
    lowered_on nak =
        record {
          transfer = o.transfer;
          burst = o.burst;
          holds = lowered_holds s (held s o.holds) nak;
          live = o.live;
          next_at = o.next_at;
          all_in = o.all_in;
          restart = o.restart;
          restart_in = o.restart_in;
          frames = o.frames;
        }

    -- a retry begins
    pub retried_on : s.retries < s.burst.limit → On (retried_of s) n m m
    unfolding pick
    retried_on less =
        record {
          transfer = o.transfer;
          burst = o.burst;
          holds = retried_holds s (held s o.holds) less;
          live = o.live;
          next_at = o.restart;
          all_in = λ i q. inside_mono C.b.base C.b.end C.t.size sized i m (omega arith) o.restart_in;
          restart = same s.transfer.write refl ∙ o.restart;
          restart_in = o.restart_in;
          frames = o.frames;
        }
      where
        same : (w : Bool) → s.transfer.write ≡ w → pick w s.burst.base (restart_of s) ≡ pick w s.burst.base s.balance
        same true e = refl
        same false e = ap (λ (v : Bool). pick v s.burst.base s.balance) e

    -- a read's balance point moves to the next offset, a write's restart point stays
    pub moved_on : (s.next ≡ s.burst.end → ⊥) → (x : ℕ) × On (moved_of s) n j x
    unfolding pick
    moved_on u = go s.transfer.write refl
      where
        with : (x : ℕ) → restart_of (moved_of s) ≡ place x → within x → (x : ℕ) × On (moved_of s) n j x
        with x e w = (
          x,
          record {
            transfer = o.transfer;
            burst = o.burst;
            holds = moved_holds s (held s o.holds);
            live = o.live;
            next_at = o.next_at;
            all_in = o.all_in;
            restart = e;
            restart_in = w;
            frames = o.frames;
          },
        )

        go : (w : Bool) → s.transfer.write ≡ w → (x : ℕ) × On (moved_of s) n j x
        go true e = with m ((λ i. pick (e i) s.burst.base (pick (e i) s.balance s.next)) ∙ (λ i. pick (sym e i) s.burst.base s.balance) ∙ o.restart) o.restart_in
        go false e = with j ((λ i. pick (e i) s.burst.base (pick (e i) s.balance s.next)) ∙ o.next_at) (next_in u)
