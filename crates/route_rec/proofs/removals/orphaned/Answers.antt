use Rattle.std.proofs.Common.{sym, ap, ◌∙◌, Some}
use Rattle.controller_parts.specs.declared.plans.Removed.{Removed}
use Rattle.controller_parts.specs.Plans.{removed_plan}
use Rattle.controller_parts.proofs.Firsts.{given-none, given-some, when-true, when-false}
use Rattle.route_rec.proofs.removals.orphaned.Goals as goal

pub returns-in_default : goal.returns-in_default
returns-in_default c = sym (given-none _ (sym c.in_default.ensures.value))

pub returns-then-is_orphan : goal.returns-then-is_orphan
returns-then-is_orphan c =
    ap (λ (r : Removed). Some (removed_plan r)) c.in_ok-removal_of.ensures
    ∙ sym (given-some _ (sym c.in-Some.ensures.value) ∙ when-true _ (sym c.if-is_orphan.ensures))

pub returns : goal.returns
returns c = sym (given-some _ (sym c.in-Some.ensures.value) ∙ when-false _ (sym c.if-is_orphan.ensures))
