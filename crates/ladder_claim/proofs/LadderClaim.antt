-- What the delivery claim says of every list, it says of every ladder with retries on.
use Prim.Native.Nat.{ℕ, ◌+◌, ◌≤◌, ◌<◌}
use mathlib.Core.List.{List}
use mathlib.Core.Bool.{false, false≢true}
use mathlib.Core.Logic.{inl}
use mathlib.Core.Path.{◌≡◌, sym, ap, subst, ◌∙◌}
use native.Mathlib.Nat.{mul-le-mul_left}
use native.Mathlib.Omega.{arith}
use lib.Seq.{ext_get_or}
use lib.ListN.{length, get_or, length-map}
use Rattle.std.specs.Prelude.{Option, Some, None}
use Rattle.status.proofs.OpenedCall.{differ}
use Rattle.frame.specs.Read.{decode}
use Rattle.link.specs.Ports.{Ports}
use Rattle.link.specs.World.{World}
use Rattle.link.specs.World as link
use Rattle.link.specs.Delivers.{Delivers, faultless}
use Rattle.link.specs.Delivers as delivers
use Rattle.link.specs.Claim.{sas11}
use Rattle.link.proofs.Theorem.{delivery}
use Rattle.ladder_text.specs.declared.types.Run.{Run}
use Rattle.ladder_run.specs.Fates.{faults_of}
use Rattle.ladder_run.specs.Row.{ROWS-MOST, shown_of, silent}
use Rattle.ladder_run.specs.Whole.{Whole, climb}
use Rattle.ladder_run.specs.declared.types.Report.{Report}
use Rattle.ladder_run.specs.declared.types.Report.TheVariants.{Delivered, Failed}
use Rattle.ladder_run.specs.declared.types.Ladder.{Ladder}
use Rattle.ladder_claim.specs.Claim.{burst_of, shown_in, on_link, Started, IsDelivered, Claimed, LadderClaim}
use Rattle.ladder_claim.proofs.Embeds.{Embeds, read_embeds, write_embeds}
use Rattle.ladder_claim.proofs.Stands.{at}
use Rattle.ladder_claim.proofs.Lists.{Opens, climbed, stands, all_faults, events, reached, read_opens, write_opens}
use Rattle.ladder_claim.proofs.Ends.{ends}
use Rattle.ladder_claim.proofs.Begun.{Begun, begun}

-- a report on the link is the ladder's
delivered_as : (q : Option Report) (n : ℕ) → on_link q ≡ link.Report.delivered n → q ≡ Some (Delivered n)
delivered_as None n e = differ (cc)
delivered_as (Some (Delivered m)) n e = cc
delivered_as (Some (Failed f m)) n e = differ (cc)

reported : (q : Option Report) → silent q ≡ false → on_link q ≡ link.Report.none → ⊥
reported None e f = false≢true (sym e)
reported (Some (Delivered n)) e f = differ (cc)
reported (Some (Failed g n)) e f = differ (cc)

module _ {P : Ports} (E : Embeds P) (r : Run) (s : P.Sending) (y : P.Receiving) (fs d b : List ℕ) (o : Opens E r s y fs d b) (dl : length d ≡ r.count) (bl : length b ≡ r.count) (k : ℕ) (enough : ROWS-MOST < k) where
  abbrev whole : Whole
  whole = climbed E r s y fs d b o k

  open stands E r s y fs d b o k enough use {s as last-s, r as last-r, confirmations, tally, handed, filled, shown}

  abbrev last : World P
  last = at last-s last-r d whole.received confirmations tally handed (on_link whole.last.report)

  claim : Delivers (burst_of r) (delivers.fresh P s y d b) last
  claim =
      let g = reached E r s y fs d b o k enough in
      subst (Delivers (burst_of r) (delivers.fresh P s y d b)) g.ends (delivery P sas11 (burst_of r) _ o.starts (events E r s y fs d b o k enough) g.allowed)

  few : tally.faults ≤ faults_of fs whole.last.frames
  few = omega (arith, all_faults E r s y fs d b o k enough)

  -- start plus i
  from_0 : (i : ℕ) → i ≡ 0 + i
  from_0 i = omega arith

  same_data : IsDelivered whole → whole.received ≡ d
  same_data q =
      let n : length whole.received ≡ length b = claim.untouched.1 in
      ext_get_or 0 whole.received d (n ∙ bl ∙ sym dl) (λ i h. ap (λ (k : ℕ). get_or whole.received k 0) (from_0 i) ∙ claim.stored (q.0, ap on_link q.1) i (omega arith) (omega arith))

  row_count : length whole.rows ≡ length handed
  row_count = sym (length-map whole.rows shown_in) ∙ ap length (sym shown) ∙ length-map handed (λ f. shown_of (decode f))

  pub claimed : silent whole.last.report ≡ false → Claimed r fs d whole
  claimed told =
      record {
        filled = λ q. filled q.0 q.1;
        stored = same_data;
        bounded =
            let f = few in
            omega (arith, claim.bounded, row_count, mul-le-mul_left {m = 1 + tally.faults} {n = 1 + faults_of fs whole.last.frames} (faultless (burst_of r)) (omega arith));
        succeeds = λ h.
            let q = claim.succeeds (inl (reported whole.last.report told)) (omega (arith, few)) in
            (q.0, delivered_as whole.last.report q.0 q.1);
      }

-- in either direction
claimed_from : (k : ℕ) → ROWS-MOST < k → (r : Run) (l : Ladder) (fs d b : List ℕ) → Started r l fs d b → 1 ≤ r.limit → silent (climb k fs d l b).last.report ≡ false → Begun r l → Claimed r fs d (climb k fs d l b)
claimed_from k n r l fs d b st on told (Begun.read e) = claimed read_embeds r _ _ fs d b (read_opens r l fs d b st on) st.sent st.room k n told
claimed_from k n r l fs d b st on told (Begun.write e) = claimed write_embeds r _ _ fs d b (write_opens r l fs d b st on) st.sent st.room k n told

-- every ladder ends with a report, so the claim speaks of each
pub ladder_claim : LadderClaim
ladder_claim r l fs d b st on = claimed_from (ROWS-MOST + 1) (omega arith) r l fs d b st on (ends r l fs d b st).reported (begun r l st.within st.ready)
