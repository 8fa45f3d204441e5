use Rattle.std.proofs.Common.{sym, ◌∙◌, refl}
use Rattle.step_scheduler.proofs.Chains.{step_works, rests, again_steps, again_rests}
use Rattle.step_scheduler.proofs.plane.Plane.step_again.Goals as goal

pub returns-in_err-step-clause-works : goal.returns-in_err-step-clause-works
returns-in_err-step-clause-works c = rests _ _ c.in_err-step.ensures.err c.in_err-step.ensures.looks c.in_err-step.ensures.turns

pub returns-in_ok-step-clause-works : goal.returns-in_ok-step-clause-works
returns-in_ok-step-clause-works c = step_works _ _ c.args.key.now _ c.in_ok-step.ensures.ok.plane_is c.in_ok-step.ensures.looks c.in_ok-step.ensures.turns

pub returns-else-is_held-clause-works : goal.returns-else-is_held-clause-works
returns-else-is_held-clause-works c = rests _ _ refl refl refl

pub returns-in_ok-step-clause-ok : goal.returns-in_ok-step-clause-ok
returns-in_ok-step-clause-ok c = again_steps _ _ c.args.key.now (sym c.is_held.ensures ∙ c.if-is_held.true) c.in_ok-step.ensures.ok.plane_is

pub returns-else-is_held-clause-ok : goal.returns-else-is_held-clause-ok
returns-else-is_held-clause-ok c = again_rests _ c.args.key.now (sym c.is_held.ensures ∙ c.if-is_held.false)
