use Rattle.frame.proofs.TwoSteps.{both}
use Rattle.frame.proofs.encode.write.Goals as goal

-- One step after the other is the writer; what the first refuses, the writer refuses.
pub returns : goal.returns
returns c =
    let a = c.args in
    both a.h a.iu.now a.out.now c.write_data.ensures.1 c.write_header.ensures
