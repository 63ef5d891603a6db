-- The definitions that a write computes with, under one name.
use Rattle.frame.specs.XferRdy.{xfer_rdy_bytes}
use Rattle.frame.specs.XferRdy as frame
use Rattle.initiator.specs.WriteRecord as initiator
use Rattle.initiator.specs.WriteSend.{lent_of, begun_of, next_of, counted_of, confirmed_of}
use Rattle.initiator.specs.WriteTake.{fits_of, repeat_of, disposition_of, next_taken, burst_taken, xfer_rdy_taken, response_of, write_arrival_of}
use Rattle.target.specs.Tag.{member, search, lowest, used}
use Rattle.target.specs.Record as target
use Rattle.target.specs.Transmit.{due_of, burst_of, issued_of, xfer_rdy_header, xfer_rdy_iu, frame_of}
use Rattle.target.specs.Transmit as issue
use Rattle.target.specs.Confirmation.{retry_of, confirms_of}
use Rattle.target.specs.Arrival.{taken_of}
use Rattle.target.specs.Arrival as taking
use Rattle.target.specs.Time as time
use Rattle.worked.proofs.ReadComputes.{computed}

unfoldable pub computed_write : Unit {0}
unfolding computed frame.xfer_rdy_of xfer_rdy_bytes initiator.tests initiator.holds_of lent_of begun_of next_of counted_of confirmed_of fits_of repeat_of disposition_of next_taken burst_taken xfer_rdy_taken response_of write_arrival_of member search lowest used target.tests target.holds_of due_of burst_of issued_of xfer_rdy_header xfer_rdy_iu frame_of issue.next_of retry_of confirms_of taken_of taking.lent_of taking.write_arrival_of time.runs_of time.elapsed_of time.time_of
computed_write = tt
