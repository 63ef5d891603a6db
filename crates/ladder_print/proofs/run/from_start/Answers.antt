use Rattle.ladder_text.specs.RunFile.{fates_at}
use Rattle.ladder_print.proofs.Filled.{in_buffers}
use Rattle.ladder_print.proofs.Tried.{tries_as}
use Rattle.ladder_print.proofs.run.from_start.Goals as goal

pub returns : goal.returns
returns g c =
    let s = c.args.s in
    tries_as
    (in_buffers g.row.FATES g.row.BYTES s.file.run.count s.ladder (fates_at s.input.now s.file.fates) c.requires.bytes c.gather-n.ensures c.fill.ensures)
    c.climb_if_room.ensures
