use Rattle.step_scheduler.proofs.Promising.{kept_as}
use Rattle.step_scheduler.proofs.plane.Plane.version.Goals as goal

pub returns-clause-kept : goal.returns-clause-kept
returns-clause-kept c = kept_as _ _ c.self.view_is c.self.invariant.slots.kept
