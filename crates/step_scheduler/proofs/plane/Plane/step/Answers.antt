use Rattle.step_scheduler.proofs.Promising.{on_err, stepped_as, stepped_safe, stepped_unused, stays_safe, stays_unused}
use Rattle.step_scheduler.proofs.Caused.{caused}
use Rattle.step_scheduler.proofs.plane.Plane.step.Goals as goal

pub returns-in_err-answer-clause-err : goal.returns-in_err-answer-clause-err
returns-in_err-answer-clause-err c = on_err _ _ c.in_err-answer.ensures.err.same

pub returns-in_err-answer-clause-safe : goal.returns-in_err-answer-clause-safe
returns-in_err-answer-clause-safe c = stays_safe _ _ c.in_err-answer.ensures.err

pub returns-in_err-answer-clause-unused : goal.returns-in_err-answer-clause-unused
returns-in_err-answer-clause-unused c = stays_unused _ _ c.in_err-answer.ensures.err

pub returns-clause-ok : goal.returns-clause-ok
returns-clause-ok c = (stepped_as _ _ _ _ _ c.in_ok-answer.ensures.ok c.count_look.ensures.plane).event

pub returns-clause-causes : goal.returns-clause-causes
returns-clause-causes c = caused _ c.in_ok-answer.ensures.ok.kept _ _ _ c.in_ok-answer.ensures.ok.event

pub returns-clause-safe : goal.returns-clause-safe
returns-clause-safe c = stepped_safe _ _ _ _ (stepped_as _ _ _ _ _ c.in_ok-answer.ensures.ok c.count_look.ensures.plane)

pub returns-clause-unused : goal.returns-clause-unused
returns-clause-unused c = stepped_unused _ _ _ _ (stepped_as _ _ _ _ _ c.in_ok-answer.ensures.ok c.count_look.ensures.plane)
