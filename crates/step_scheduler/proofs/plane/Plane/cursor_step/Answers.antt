use Rattle.std.proofs.Common.{refl, sym, subst, ◌∙◌}
use Rattle.step_scheduler.specs.Planes.{IsSafeThroughout, RemovesUnusedAlone}
use Rattle.step_scheduler.proofs.Cursor.{cursor_empty, cursor_steps, cursor_none, cursor_some}
use Rattle.step_scheduler.proofs.Promising.{kept_safe, kept_unused}
use Rattle.step_scheduler.proofs.plane.Plane.cursor_step.Goals as goal

pub returns-in_err-picked-clause-safe : goal.returns-in_err-picked-clause-safe
returns-in_err-picked-clause-safe c = kept_safe _ c.picked.ensures.kept

pub returns-in_err-picked-clause-unused : goal.returns-in_err-picked-clause-unused
returns-in_err-picked-clause-unused c = kept_unused _ c.picked.ensures.kept

pub returns-in-None-clause-ok : goal.returns-in-None-clause-ok
returns-in-None-clause-ok c = cursor_empty _ (sym c.in-None.is ∙ c.in_ok-picked.ensures.ok)

pub returns-in-None-clause-safe : goal.returns-in-None-clause-safe
returns-in-None-clause-safe c = kept_safe _ c.picked.ensures.kept

pub returns-in-None-clause-unused : goal.returns-in-None-clause-unused
returns-in-None-clause-unused c = kept_unused _ c.picked.ensures.kept

pub returns-in_ok-answer-in-Some-clause-ok : goal.returns-in_ok-answer-in-Some-clause-ok
returns-in_ok-answer-in-Some-clause-ok c =
    cursor_steps _ c.step.new.self.plane _ c.in-Some.key _ (sym c.in-Some.is ∙ c.in_ok-picked.ensures.ok) c.in_ok-answer-in-Some.ensures.ok c.point.ensures.plane

pub returns-in_ok-answer-in-Some-clause-safe : goal.returns-in_ok-answer-in-Some-clause-safe
returns-in_ok-answer-in-Some-clause-safe c = subst (λ w. IsSafeThroughout w.journal) (sym c.point.ensures.plane) c.step.ensures.safe

pub returns-in_ok-answer-in-Some-clause-unused : goal.returns-in_ok-answer-in-Some-clause-unused
returns-in_ok-answer-in-Some-clause-unused c = subst (λ w. RemovesUnusedAlone w.journal) (sym c.point.ensures.plane) c.step.ensures.unused

pub returns-in-None-clause-empty : goal.returns-in-None-clause-empty
returns-in-None-clause-empty c = (λ e. cursor_none c.args.self.now.plane (sym c.in-None.is ∙ c.in_ok-picked.ensures.ok), λ e. refl)

pub returns-in_ok-answer-in-Some-clause-empty : goal.returns-in_ok-answer-in-Some-clause-empty
returns-in_ok-answer-in-Some-clause-empty c =
    (λ e. absurd (c.in_ok-answer-in-Some.ensures.causes.some e), λ e. absurd (cursor_some c.args.self.now.plane c.in-Some.key (sym c.in-Some.is ∙ c.in_ok-picked.ensures.ok) e))
