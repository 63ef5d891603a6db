-- One burst between two ports that are set up alike: what stays through a run, and its frames by number.
use Prim.Native.Nat.{ℕ, ◌+◌, ◌-◌, ◌^◌, min, ◌≤◌, ◌<◌}
use mathlib.Core.List.{List}
use mathlib.Core.Bool.{Bool, true, false}
use mathlib.Core.Path.{◌≡◌, ap, ◌∙◌}
use native.Mathlib.Omega.{arith}
use lib.ListN.{length, take, drop, length-take, length-drop}
use borrow.Author.Tests.{le-leb, lt-ltb}
use Rattle.transfer.specs.Limits.{limits_hold}
use Rattle.transfer.specs.declared.Transfer.{Transfer}
use Rattle.transfer.proofs.Bounds.{Bounds, bounds}
use Rattle.frame.specs.Format.{DATA, encode}
use Rattle.frame.specs.Write.{writable}
use Rattle.frame.specs.RoundTrip.{InRange}
use Rattle.frame.specs.declared.types.Header.{Header}
use Rattle.status.specs.Pick.{pick}
use Rattle.sender_steps.specs.Transmit.{frame_of, data_header}
use Rattle.sender_steps.specs.declared.types.Burst.{Burst}
use Rattle.sender_steps.specs.declared.types.Sender.{Sender}
use Rattle.receiver_steps.specs.Record.{right_length}
use Rattle.receiver_steps.specs.declared.types.Receiver.{Receiver}
use Rattle.link.proofs.Grid.{Inside, at, room, at_least, at_most, room_fits, needed}

pub record Setting : Type 0 where
  -- the sending port's transfer and the receiving port's
  pub t : Transfer
  pub u : Transfer
  -- where the sending buffer begins in the receiving one
  pub start : ℕ
  pub base : ℕ
  pub end : ℕ
  pub tptt : ℕ
  -- the retry limit in force
  pub limit : ℕ
  -- the sending buffer, and the receiving one at the start
  pub source : List ℕ
  pub before : List ℕ
  pub t_limits : limits_hold t ≡ true
  pub u_limits : limits_hold u ≡ true
  pub starts : t.start ≡ start
  pub there : t.remote ≡ u.local
  pub back : t.local ≡ u.remote
  pub tag : t.tag ≡ u.tag
  pub tag_bits : t.tag < 2 ^ 16
  pub tptt_bits : tptt < 2 ^ 16
  pub some : base < end
  pub base_least : start ≤ base
  pub end_most : end ≤ start + t.count
  pub on : 1 ≤ limit
  pub limit_most : limit ≤ t.limit
  pub u_on : 0 < u.limit
  pub source_length : length source ≡ t.count
  pub long : right_length u (length before) ≡ true
  pub reach : end ≤ length before

-- the record's constants are the setting's
pub record SendsFor (S : Setting) (t' : Transfer) (b : Burst) : Type 0 where
  pub transfer : t' ≡ S.t
  pub limit : b.limit ≡ S.limit
  pub tptt : pick t'.write b.tptt t'.value ≡ S.tptt
  pub base : b.base ≡ S.base
  pub end : b.end ≡ S.end

abbrev pub Sends : Setting → Sender → Type 0
Sends S s = SendsFor S s.transfer s.burst

pub record TakesFor (S : Setting) (u' : Transfer) (b e : ℕ) : Type 0 where
  pub transfer : u' ≡ S.u
  pub base : b ≡ S.base
  pub end : e ≡ S.end

abbrev pub Takes : Setting → Receiver → Type 0
Takes S r = TakesFor S r.transfer r.base r.end

module _ (S : Setting) where
  abbrev pub place : ℕ → ℕ
  place = at S.base S.end S.t.size

  abbrev pub within : ℕ → Type 0
  within = Inside S.base S.end S.t.size

  abbrev pub space : ℕ → ℕ
  space = room S.base S.end S.t.size

  abbrev pub enough : ℕ
  enough = needed S.base S.end S.t.size

  pub limits : Bounds S.t
  limits = bounds S.t S.t_limits

  pub sized : 1 ≤ S.t.size
  sized = let l = limits.size_least in omega arith

  -- frame i, with CDP one or zero
  abbrev pub header : Bool → ℕ → Header
  header c i =
      record {
        frametype = DATA;
        dest = S.t.remote;
        source = S.t.local;
        flags = record { tlr = 0; retry = false; retransmit = false; cdp = c };
        tag = S.t.tag;
        tptt = S.tptt;
        offset = place i;
      }

  abbrev pub data_of : ℕ → List ℕ
  data_of i = take (space i) (drop (place i - S.start) S.source)

  unfoldable pub piece : Bool → ℕ → List ℕ
  piece c i = encode (header c i) (data_of i)

  -- every frame begins in the burst
  pub low : (i : ℕ) → S.base ≤ place i
  low i = at_least S.base S.end S.t.size sized i (omega (arith, S.some))

  pub begin_least : (i : ℕ) → S.start ≤ place i
  begin_least i = omega (arith, S.base_least, low i)

  pub data_length : (i : ℕ) → within i → length (data_of i) ≡ space i
  data_length i h = rw (length-take, length-drop, S.source_length) (omega (arith, S.end_most, begin_least i, room_fits S.base S.end S.t.size sized i h))

  pub in_range : (c : Bool) (i : ℕ) → InRange (header c i)
  in_range c i = record { tag = S.tag_bits; tptt = S.tptt_bits; offset = omega (arith, S.end_most, S.starts, limits.past_most, at_most S.base S.end S.t.size sized i) }

  pub can_write : (c : Bool) (i : ℕ) → within i → writable (header c i) (length (data_of i)) ≡ true
  can_write c i h =
      let n : length (data_of i) ≤ 1_024 = omega (arith, data_length i h, limits.size_most) in
      simp (lt-ltb _ _ limits.remote, lt-ltb _ _ limits.local, le-leb _ _ n)

  -- the frame that the sending port hands out is the one of its next offset's number
  pub frame_is : (s : Sender) (j : ℕ) → Sends S s → s.next ≡ place j → frame_of s S.source ≡ piece s.cdp j
  unfolding frame_of data_header piece
  frame_is s j c e i =
      let o = ap (λ (v : Transfer). v.start) c.transfer ∙ S.starts in
      encode
      (record {
        frametype = DATA;
        dest = (c.transfer i).remote;
        source = (c.transfer i).local;
        flags = record { tlr = 0; retry = false; retransmit = false; cdp = s.cdp };
        tag = (c.transfer i).tag;
        tptt = c.tptt i;
        offset = e i;
      })
      (take (min (c.transfer i).size (c.end i - e i)) (drop (e i - o i) S.source))
