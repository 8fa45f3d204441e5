use Rattle.std.proofs.Common.{ap}
use Rattle.touched_keys.specs.Marks.{is_marked}
use Rattle.step_scheduler.proofs.Marking.{untouched_taken}
use Rattle.step_scheduler.proofs.plane.Plane.rest.Goals as goal

pub returns-clause-untouched : goal.returns-clause-untouched
returns-clause-untouched c = λ key. untouched_taken c.self.inside.store.entries c.at_rest.result c.at_rest.ensures.taken key (ap (is_marked key) c.at_rest.ensures.keys)
