-- What both ports of a read are set up with, as the invariant has it.
use Prim.Native.Nat.{ℕ, ◌≤◌}
use mathlib.Core.List.{List}
use mathlib.Core.Bool.{true, false}
use mathlib.Core.Path.{◌≡◌, refl}
use native.Mathlib.Omega.{arith}
use lib.ListN.{length}
use Rattle.transfer.specs.Limits.{past, limits_hold}
use Rattle.transfer.specs.declared.Transfer.{Transfer}
use Rattle.transfer.proofs.Bounds.{bounds}
use Rattle.receiver_steps.proofs.Held.{read_long}
use Rattle.link.specs.Claim.{Alike}
use Rattle.link.proofs.Setting.{Setting}

module _ (t u : Transfer) (d b : List ℕ) (tl : limits_hold t ≡ true) (tr : t.write ≡ false) (ul : limits_hold u ≡ true) (ur : u.write ≡ false) (a : Alike t u) (on : 1 ≤ t.limit) (dl : length d ≡ t.count) (bl : past t ≤ length b) where
  abbrev pub setting : Setting
  setting =
      record {
        t = t;
        u = u;
        start = t.start;
        base = t.start;
        end = past t;
        tptt = t.value;
        limit = t.limit;
        source = d;
        before = b;
        t_limits = tl;
        u_limits = ul;
        starts = refl;
        there = a.there;
        back = a.back;
        tag = a.tag;
        tag_bits = a.tag_bits;
        tptt_bits = a.value_bits;
        some = omega (arith, (bounds t tl).count_least);
        base_least = omega arith;
        end_most = omega arith;
        on = on;
        limit_most = omega arith;
        u_on = omega (arith, a.limit);
        source_length = dl;
        long = read_long u (length b) ur (omega (arith, a.start, a.count));
        reach = bl;
      }
