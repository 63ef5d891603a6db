use Rattle.arrival.proofs.Passed.{part}
use Rattle.initiator.proofs.ReadReturns.{data_is, not_expected_leaves, response_leaves}
use Rattle.initiator.proofs.read.take.Goals as goal

pub returns-in-Data : goal.returns-in-Data
returns-in-Data c =
    let a = c.args in
    rw c.in-Data.is (data_is a.r a.a a.bytes.now a.buffer.now c.requires c.data_step.ensures)

pub returns-in-XferRdy : goal.returns-in-XferRdy
returns-in-XferRdy c =
    let a = c.args in
    rw c.in-XferRdy.is (rw (part a.a.start a.a.len a.bytes.now) at c.not_expected.ensures, not_expected_leaves _ _ _ _ _)

pub returns-in-Response : goal.returns-in-Response
returns-in-Response c =
    let a = c.args in
    rw c.in-Response.is (rw (part a.a.start a.a.len a.bytes.now) at c.response.ensures, response_leaves _ _ _ _ _ _ _)
