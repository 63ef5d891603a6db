-- "then answers come in order, then a timeout if any is missing".
use Rattle.std.specs.Prelude.{ℕ, zero, suc, ◌+◌, ◌-◌, List, true, false, Option, Some, None}
use Rattle.status.specs.Pick.{pick}
use Rattle.status.specs.Report as status
use Rattle.status.specs.Answer.{Said, view, Left}
use Rattle.link.specs.Ports.{Signal}
use Rattle.ladder_text.specs.declared.types.Fate.{Fate}
use Rattle.ladder_text.specs.declared.types.Fate.TheVariants.{Ok, Noack, Bad, Nonak, Lost}
use Rattle.ladder_run.specs.Ends.{signalled_of}
use Rattle.ladder_run.specs.Fates.{fate_of}
use Rattle.ladder_run.specs.declared.types.Sending.{Sending}
use Rattle.ladder_run.specs.declared.types.Report.{Report}
use Rattle.ladder_run.specs.declared.types.Report.TheVariants.{Delivered, Failed}
use Rattle.ladder_run.specs.declared.types.Ladder.{Ladder}
use Rattle.ladder_run.specs.declared.types.Confirming.{Confirming}

-- what the sending port reports, if anything: its number, and the frames that it handed out
abbrev pub reported : status.Report → Option Report
reported status.Report.none = None
reported (status.Report.delivered n) = Some (Delivered n)
reported (status.Report.failed f n) = Some (Failed f n)

abbrev pub report_of : Said → Option Report
report_of a = reported (view a).report

-- the first report stays
abbrev pub first_of : Option Report → Option Report → Option Report
first_of None q = q
first_of (Some r) q = Some r

-- the sending port was told something
abbrev pub noted_of : Confirming → Left Sending → Confirming
noted_of x y = record { sending = y.left; report = first_of x.report (report_of y.says); missing = x.missing }

abbrev pub misses_of : Confirming → Confirming
misses_of x = record { sending = x.sending; report = x.report; missing = true }

-- the confirmation of a frame of that fate: "`noack` (ACK lost), `bad` (damaged, NAK arrives), `nonak` (damaged, NAK lost), `lost`"
abbrev pub confirmed_by : Fate → Confirming → Confirming
confirmed_by Ok x = noted_of x (signalled_of Signal.ack x.sending)
confirmed_by Bad x = noted_of x (signalled_of Signal.nak x.sending)
confirmed_by Noack x = misses_of x
confirmed_by Nonak x = misses_of x
confirmed_by Lost x = misses_of x

-- the confirmations of k frames from frame n on, in order
abbrev pub confirmations_of : List ℕ → ℕ → ℕ → Confirming → Confirming
confirmations_of fs zero n x = x
confirmations_of fs (suc k) n x = confirmations_of fs k (n + 1) (confirmed_by (fate_of fs n) x)

abbrev pub timed_out : Confirming → Confirming
timed_out x = pick x.missing (noted_of x (signalled_of Signal.timeout x.sending)) x

-- at first none is missing
abbrev pub opened_of : Ladder → Confirming
opened_of l = record { sending = l.sending; report = l.report; missing = false }

abbrev pub round_of : List ℕ → Ladder → Confirming
round_of fs l = timed_out (confirmations_of fs (l.frames - l.before) l.before (opened_of l))

-- the round is over, and the next one begins
unfoldable pub closed_of : List ℕ → Ladder → Ladder
closed_of fs l =
    let x = round_of fs l in
    record { sending = x.sending; receiving = l.receiving; frames = l.frames; before = l.frames; report = x.report }
