use Rattle.std.proofs.Common.{arith}
use Rattle.step_scheduler.proofs.Marking.{marks_first, untouched_first}
use Rattle.step_scheduler.proofs.Sets.{begins}
use Rattle.step_scheduler.proofs.plane.Plane.new.Goals as goal

pub invariant_of-result : goal.invariant_of-result
invariant_of-result c = record {
  slots = begins c.args.settings c.new.result.entries c.new-2.result c.new.ensures.entries c.new-2.ensures;
  marked = marks_first c.args.settings c.new.result.entries 0 c.new-3.result c.new.ensures.entries (omega (arith, c.new-3.ensures.upto));
}

pub returns-clause-untouched : goal.returns-clause-untouched
returns-clause-untouched c = λ key. untouched_first c.new.result.entries c.new-3.result key c.new.ensures.entries
