use Rattle.good_laws.proofs.Stored.{plane_is_safe, journal_storable}
use Rattle.step_scheduler.proofs.Promising.{kept_as, can_look}
use Rattle.step_scheduler.proofs.plane.Plane.store.Goals as goal

pub returns-clause-kept : goal.returns-clause-kept
returns-clause-kept c = kept_as _ _ c.self.view_is c.self.invariant.slots.kept

pub returns-clause-facts : goal.returns-clause-facts
returns-clause-facts c = plane_is_safe _ (kept_as _ _ c.self.view_is c.self.invariant.slots.kept)

pub returns-clause-storable : goal.returns-clause-storable
returns-clause-storable c = journal_storable _ (kept_as _ _ c.self.view_is c.self.invariant.slots.kept)

pub returns-clause-fits : goal.returns-clause-fits
returns-clause-fits c = can_look _ (kept_as _ _ c.self.view_is c.self.invariant.slots.kept)
