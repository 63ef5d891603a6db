use Rattle.ladder_print.specs.Text.{text_of}
use Rattle.ladder_print.proofs.Tried.{no_room}
use Rattle.ladder_print.proofs.text.print_ladder.Goals as goal

pub returns-then-out-lt-TEXT_MOST : goal.returns-then-out-lt-TEXT_MOST
returns-then-out-lt-TEXT_MOST c = no_room (text_of c.args.input.now) c.args.out.now c.if-out-lt-TEXT_MOST.true
