-- The definitions that a read computes with, under one name.
use Rattle.status.specs.Pick.{pick}
use Rattle.status.specs.Entry.{entry_of, confirmable_of}
use Rattle.status.specs.Result.{granted}
use Rattle.transfer.specs.Limits.{limits, limits_hold}
use Rattle.frame.specs.Format.{flag_byte, flags_of, header_bytes, data_bytes, encode}
use Rattle.frame.specs.Write.{over, placed, hands}
use Rattle.frame.specs.Read.{header_in, decode}
use Rattle.frame.specs.Response.{response_fits, sense_fits, by_kind, response_iu_of}
use Rattle.arrival.specs.Accept.{class_of, screen_of, accept_of}
use Rattle.sender_steps.specs.Record.{tests, holds_of, lent_of}
use Rattle.sender_steps.specs.Transmit.{waits_of, data_header, frame_of, sent_of}
use Rattle.sender.specs.Transmit.{next_of}
use Rattle.sender_steps.specs.Confirmation.{retry_of, advance_of, settle_of}
use Rattle.sender.specs.Confirmation.{confirms_of}
use Rattle.receiver_steps.specs.Record as receiver
use Rattle.receiver_steps.specs.DataFrame.{misplaced, out_of_step, disposition_of}
use Rattle.receiver.specs.DataFrame.{arrival_of}
use Rattle.initiator.specs.Read.{read_holds_of, read_lent_of, not_expected_of, response_of, read_arrival_of}
use Rattle.target.specs.Read as target-read
use Rattle.link.specs.Tally.{cut_fault, timeout_fault}

unfoldable pub computed : Unit {0}
unfolding pick entry_of confirmable_of granted limits limits_hold flag_byte flags_of header_bytes data_bytes encode over placed header_in decode class_of screen_of accept_of tests holds_of lent_of waits_of data_header frame_of sent_of hands next_of retry_of advance_of settle_of confirms_of receiver.tests receiver.holds_of receiver.right_length receiver.lent_of misplaced out_of_step disposition_of arrival_of read_holds_of read_lent_of not_expected_of response_fits sense_fits by_kind response_iu_of response_of read_arrival_of target-read.read_holds_of target-read.read_arrival_of cut_fault timeout_fault
computed = tt
