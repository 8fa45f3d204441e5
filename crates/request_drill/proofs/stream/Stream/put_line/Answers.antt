use Rattle.request_drill.proofs.Adding.{four}
use Rattle.request_drill.proofs.stream.Stream.put_line.Goals as goal

pub returns-clause-ok : goal.returns-clause-ok
returns-clause-ok c = four _ _ _ _ _ _ _ _ _ c.in_ok-put.ensures.ok c.in_ok-put-2.ensures.ok c.in_ok-put-3.ensures.ok c.in_ok-put-4.ensures.ok
