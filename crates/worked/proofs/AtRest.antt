-- The table of ports at rest, by computation.
use mathlib.Core.Bool.{true, false}
use mathlib.Core.Path.{refl}
use Rattle.link.specs.Reading.{read_ports}
use Rattle.link.specs.Writing.{write_ports}
use Rattle.worked.specs.AtRest.{reads, writes, Rests, Failed, AtRest}
use Rattle.worked.proofs.WriteComputes.{computed_write}

read_rests : Rests read_ports (reads 0 0 false 0 0) (reads 4 4 false 0 1) (reads 0 0 true 1 1)
unfolding computed_write
read_rests =
    record {
      acknowledged = refl;
      timed_out = refl;
      at_first = record { cuts = refl; four = refl };
      at_second = record { cuts = refl; four = refl };
      at_retry = record { cuts = refl; four = refl };
      carries_first = refl;
      carries_second = refl;
      carries_retry = refl;
      counts = refl;
    }

read_fails : Failed read_ports (reads 0 0 true 1 1)
unfolding computed_write
read_fails = record { by_nak = refl; by_timeout = refl; by_cut = refl; by_both = refl }

write_rests : Rests write_ports (writes 0 0 false 0 0) (writes 4 4 false 0 1) (writes 0 4 true 1 1)
unfolding computed_write
write_rests =
    record {
      acknowledged = refl;
      timed_out = refl;
      at_first = record { cuts = refl; four = refl };
      at_second = record { cuts = refl; four = refl };
      at_retry = record { cuts = refl; four = refl };
      carries_first = refl;
      carries_second = refl;
      carries_retry = refl;
      counts = refl;
    }

write_fails : Failed write_ports (writes 0 4 true 1 1)
unfolding computed_write
write_fails = record { by_nak = refl; by_timeout = refl; by_cut = refl; by_both = refl }

pub at_rest : AtRest
unfolding computed_write
at_rest =
    record {
      read_begins = refl;
      write_begins = refl;
      read = read_rests;
      write = write_rests;
      read_failed = read_fails;
      write_failed = write_fails;
      read_delivered = refl;
      write_ends_nothing = refl;
      write_delivered = record { cuts = refl; four = refl };
      write_waits = refl;
      read_off = refl;
      write_off = refl;
    }
