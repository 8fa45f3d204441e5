use Rattle.std.proofs.Common.{sym, ap, ◌∙◌, Some}
use Rattle.std.specs.Prelude.{not}
use Rattle.control_rules.specs.NextRoute.{is_own_table}
use Rattle.controller_parts.specs.declared.plans.Removed.{Removed}
use Rattle.controller_parts.specs.Plans.{removed_plan}
use Rattle.controller_parts.proofs.Firsts.{given-none, given-some, when-true, when-false}
use Rattle.route_rec.proofs.removals.foreign.Goals as goal

pub returns-in_default : goal.returns-in_default
returns-in_default c = sym (given-none _ (sym c.in_default.ensures.value))

pub returns-then-is_own_table : goal.returns-then-is_own_table
returns-then-is_own_table c =
    let own = c.if-is_own_table.ensures ∙ ap (λ o. is_own_table o c.in-Some.table.now) c.standing-owner.ensures.value in
    sym (given-some _ (sym c.in-Some.ensures.value) ∙ when-false _ (ap not (sym own)))

pub returns : goal.returns
returns c =
    let own = c.if-is_own_table.ensures ∙ ap (λ o. is_own_table o c.in-Some.table.now) c.standing-owner.ensures.value in
    ap (λ (r : Removed). Some (removed_plan r)) c.in_ok-removal_of.ensures
    ∙ sym (given-some _ (sym c.in-Some.ensures.value) ∙ when-true _ (ap not (sym own)))
