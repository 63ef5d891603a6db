-- The table of the RESPONSE's record, by computation.
use mathlib.Core.Path.{refl}
use Rattle.response.specs.Record.{tests, holds_of}
use Rattle.response.specs.Transmit.{lent_of, response_header, frame_of, next_of}
use Rattle.response.specs.Confirmation.{retry_of, confirms_of}
use Rattle.worked.specs.ResponseRecord.{SetUp, Frames, Limit, Ends}
use Rattle.worked.proofs.ReadComputes.{computed}

pub set_up : SetUp
unfolding computed tests holds_of lent_of response_header frame_of next_of retry_of confirms_of
set_up =
    record {
      bytes_23 = refl;
      bytes_24 = refl;
      bytes_1024 = refl;
      bytes_1025 = refl;
    }

pub frames : Frames
unfolding computed tests holds_of lent_of response_header frame_of next_of retry_of confirms_of
frames =
    record {
      resent = refl;
      after_a_cut = refl;
      value = refl;
      beyond = refl;
      three = refl;
      waits = refl;
    }

pub limit : Limit
unfolding computed tests holds_of lent_of response_header frame_of next_of retry_of confirms_of
limit =
    record {
      zero_nak = refl;
      zero_timeout = refl;
      zero_cut = refl;
      zero_frames = refl;
      one_nak = refl;
      one_timeout = refl;
      one_cut = refl;
      two_nak = refl;
      two_timeout = refl;
      two_cut = refl;
    }

pub ends : Ends
unfolding computed tests holds_of lent_of response_header frame_of next_of retry_of confirms_of
ends =
    record {
      acknowledged = refl;
      resent = refl;
      leaves = refl;
      first = record { cuts = refl; four = refl };
      to_be_resent = record { cuts = refl; four = refl };
      begins = refl;
      heard_nak = refl;
      counts = refl;
      loses = refl;
      loses_unanswered = refl;
      loses_to_be_resent = refl;
    }
