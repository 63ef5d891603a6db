use Rattle.std.proofs.Common.{arith}
use Rattle.ladder_text.proofs.Lengths.{within_room}
use Rattle.ladder_print.specs.Text.{misfit_text}
use Rattle.ladder_print.proofs.Tried.{tries_line}
use Rattle.ladder_print.proofs.text.refuse.Goals as goal

pub returns : goal.returns
returns c = tries_line (misfit_text c.args.m) c.args.out.now (within_room.refused c.args.m.line (omega arith)) c.put_ended.ensures
