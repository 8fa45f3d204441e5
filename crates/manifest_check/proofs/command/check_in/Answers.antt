use Rattle.std.proofs.Common.{arith, length-take}
use Rattle.manifest_check.proofs.Leaving.{long_leaves}
use Rattle.manifest_check.proofs.command.check_in.Goals as goal

pub returns-in-End-clause-leaves : goal.returns-in-End-clause-leaves
returns-in-End-clause-leaves g c =
    c.answer.ensures.leaves _ _ _ _ c.in-End.ensures.bytes.1 c.in-End.ensures.bytes.2
    (omega (arith, c.in-End.ensures.bytes.0, length-take c.in-End.count c.read_into.new.room))

pub returns-in-Full-clause-leaves : goal.returns-in-Full-clause-leaves
returns-in-Full-clause-leaves g c =
    long_leaves _ _ c.read_into.new.room c.send.result c.in-Full.ensures.bytes (omega arith) (rw c.long_line.ensures at c.send.ensures.sent)
