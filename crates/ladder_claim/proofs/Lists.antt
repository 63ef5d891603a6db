-- "a ladder is one of its lists": from a start of the delivery claim, the events of its rounds lead to the ladder's end.
use Prim.Native.Nat.{ℕ, ◌+◌, ◌≤◌, ◌<◌}
use mathlib.Core.List.{List, [], ◌++◌, append-nil}
use mathlib.Core.Bool.{true, false}
use mathlib.Core.Path.{◌≡◌, refl, sym, ap, subst, ◌∙◌}
use native.Mathlib.Omega.{arith}
use lib.ListN.{length}
use Rattle.status.proofs.OpenedCall.{differ}
use Rattle.link.specs.Ports.{Ports}
use Rattle.link.specs.Tally.{nothing}
use Rattle.link.specs.World.{World, Event}
use Rattle.link.specs.Delivers as delivers
use Rattle.link.specs.Claim.{sas11, Starts}
use Rattle.ladder_text.specs.declared.types.Fate.{Fate}
use Rattle.ladder_text.specs.declared.types.Run.{Run}
use Rattle.ladder_run.specs.Fates.{faults_of}
use Rattle.ladder_run.specs.Row.{ROWS-MOST}
use Rattle.ladder_run.specs.Setup.{INITIATOR, TARGET, fresh}
use Rattle.ladder_run.specs.Whole.{Whole, climb}
use Rattle.ladder_run.specs.declared.types.Ladder.{Ladder}
use Rattle.ladder_claim.specs.Rounds.{each, round_of}
use Rattle.ladder_claim.specs.Claim.{burst_of, on_link, Started, Matches, Listed, Lists}
use Rattle.ladder_claim.proofs.Reaches.{Reaches, nothing_yet, reaches_as}
use Rattle.ladder_claim.proofs.Rounds.{so_far}
use Rattle.ladder_claim.proofs.Embeds.{Embeds, read_embeds, write_embeds}
use Rattle.ladder_claim.proofs.Course.{Course}
use Rattle.ladder_claim.proofs.Going.{Live}
use Rattle.ladder_claim.proofs.Owed.{level_first, level_over}
use Rattle.ladder_claim.proofs.Stands.{at, Fills, Stands}
use Rattle.ladder_claim.proofs.Climbed.{Over, climb_stands}
use Rattle.ladder_claim.proofs.Begun.{Begun, begun, within, target_limits, initiator_limits, read_sender, read_receiver, write_sender, write_target, read_starts, write_starts}
use Rattle.ladder_claim.proofs.Filling.{read_filling, write_filling}
use Rattle.ladder_claim.proofs.Ends.{course, begins, read_as, write_as}

-- two ports at a ladder's start
pub record Opens {P : Ports} (E : Embeds P) (r : Run) (s : P.Sending) (y : P.Receiving) (fs d b : List ℕ) : Type 1 where
  pub fills : Fills E (delivers.fresh P s y d b) r.count
  pub starts : Starts P sas11 (burst_of r) (delivers.fresh P s y d b)
  pub course : Course
  pub lists : length fs ≡ course.listed
  pub sent : length d ≡ course.t.count
  pub live : Live course (fresh (E.sender s) (E.receiver y))

module _ {P : Ports} (E : Embeds P) (r : Run) (s : P.Sending) (y : P.Receiving) (fs d b : List ℕ) (o : Opens E r s y fs d b) where
  -- the ladder of these two ports, after at most k lines
  abbrev pub climbed : ℕ → Whole
  climbed k = climb k fs d (fresh (E.sender s) (E.receiver y)) b

  first_stands : Stands E (delivers.fresh P s y d b) r.count fs d (fresh (E.sender s) (E.receiver y)) b [] []
  first_stands =
      record {
        s = s;
        r = y;
        confirmations = [];
        tally = nothing;
        handed = [];
        rounds = [];
        current = [];
        sending = refl;
        receiving = refl;
        level = level_first fs 0 nothing (omega arith);
        reached = nothing_yet _;
        filled = λ n e. differ (cc);
        shown = refl;
        fates = refl;
        waits = tt;
      }

  module _ (k : ℕ) (enough : ROWS-MOST < k) where
    at_last : Over E (delivers.fresh P s y d b) r.count o.fills o.course fs d o.lists o.sent [] (climbed k)
    at_last = climb_stands E _ r.count o.fills o.course fs d o.lists o.sent k _ b [] o.live (omega arith) first_stands

    pub stands : Stands E (delivers.fresh P s y d b) r.count fs d (climbed k).last (climbed k).received (climbed k).rows []
    stands = at_last.1

    none_left : stands.current ≡ []
    none_left = (level_over fs stands.level at_last.0).0

    pub all_faults : stands.tally.faults ≡ faults_of fs (climbed k).last.frames
    all_faults = (level_over fs stands.level at_last.0).1

    -- the last round is over
    abbrev pub events : List (Event P)
    events = each round_of stands.rounds

    pub reached : Reaches (delivers.fresh P s y d b) events (at stands.s stands.r d (climbed k).received stands.confirmations stands.tally stands.handed (on_link (climbed k).last.report))
    reached = reaches_as (ap (λ (xs : List Fate). so_far stands.rounds xs []) none_left ∙ append-nil _ ∙ append-nil _) stands.reached

    pub listed : Listed r fs d b (climbed k)
    listed =
        record {
          P = P;
          editions = sas11;
          start = delivers.fresh P s y d b;
          starts = o.starts;
          sent = refl;
          room = refl;
          rounds = stands.rounds;
          fates = sym (append-nil _) ∙ ap (λ (xs : List Fate). each (λ v. v) stands.rounds ++ xs) (sym none_left) ∙ stands.fates;
          events = events;
          in_order = refl;
          waits = stands.waits;
          allowed = reached.allowed;
          matches = subst (λ (w : World P). Matches fs w (climbed k)) (sym reached.ends) (record { report = refl; received = refl; rows = stands.shown; faults = all_faults });
        }

module _ (r : Run) (l : Ladder) (fs d b : List ℕ) (st : Started r l fs d b) (on : 1 ≤ r.limit) where
  pub read_opens : Opens read_embeds r (read_sender r) (read_receiver r) fs d b
  read_opens =
      let w = within r st.within in
      record {
        fills = read_filling r w d b on st.sent st.room;
        starts = read_starts r w d b on st.sent st.room;
        course = course r w (length fs) st.few false TARGET INITIATOR (target_limits r false w);
        lists = refl;
        sent = st.sent;
        live = begins r w (length fs) st.few false TARGET INITIATOR (target_limits r false w) _ _ (read_as r);
      }

  pub write_opens : Opens write_embeds r (write_sender r) (write_target r) fs d b
  write_opens =
      let w = within r st.within in
      record {
        fills = write_filling r w d b on st.sent st.room;
        starts = write_starts r w d b on st.sent st.room;
        course = course r w (length fs) st.few true INITIATOR TARGET (initiator_limits r true w);
        lists = refl;
        sent = st.sent;
        live = begins r w (length fs) st.few true INITIATOR TARGET (initiator_limits r true w) _ _ (write_as r w);
      }

-- in either direction
listed_from : (k : ℕ) → ROWS-MOST < k → (r : Run) (l : Ladder) (fs d b : List ℕ) → Started r l fs d b → 1 ≤ r.limit → Begun r l → Listed r fs d b (climb k fs d l b)
listed_from k n r l fs d b st on (Begun.read e) = listed read_embeds r _ _ fs d b (read_opens r l fs d b st on) k n
listed_from k n r l fs d b st on (Begun.write e) = listed write_embeds r _ _ fs d b (write_opens r l fs d b st on) k n

pub lists : Lists
lists r l fs d b st on = listed_from (ROWS-MOST + 1) (omega arith) r l fs d b st on (begun r l st.within st.ready)
