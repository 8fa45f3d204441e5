use Rattle.step_scheduler.proofs.Reporting.{heard_same, heard_absent, heard_taken, heard_safe, heard_unused}
use Rattle.step_scheduler.proofs.plane.Plane.report.Goals as goal

pub returns-clause-event : goal.returns-clause-event
returns-clause-event c = c.hear.ensures.event.event

pub returns-clause-absent : goal.returns-clause-absent
returns-clause-absent c = heard_absent _ _ _ _ c.hear.ensures.event

pub returns-clause-taken : goal.returns-clause-taken
returns-clause-taken c = heard_taken _ _ _ _ c.hear.ensures.event

pub returns-clause-err : goal.returns-clause-err
returns-clause-err c = heard_same _ _ _ _ c.hear.ensures.event

pub returns-clause-safe : goal.returns-clause-safe
returns-clause-safe c = heard_safe _ _ _ _ c.hear.ensures.event

pub returns-clause-unused : goal.returns-clause-unused
returns-clause-unused c = heard_unused _ _ _ _ c.hear.ensures.event
