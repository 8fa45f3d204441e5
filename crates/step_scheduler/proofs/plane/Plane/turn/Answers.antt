use Rattle.std.proofs.Common.{length, sym, ap, ◌∙◌, arith}
use Rattle.step_scheduler.proofs.Chains.{works_grow, none_made, turn_counts, works_as}
use Rattle.step_scheduler.proofs.Promising.{worked_safe, worked_unused, turn_rests}
use Rattle.step_scheduler.proofs.plane.Plane.turn.Goals as goal

pub overflow_sub-entries : goal.overflow_sub-entries
overflow_sub-entries c = omega (arith, (works_grow c.in_ok-passes.ensures.works.works).longer, c.version-before.ensures.count, c.version.ensures.count)

pub returns-in_err-passes-clause-safe : goal.returns-in_err-passes-clause-safe
returns-in_err-passes-clause-safe c = worked_safe _ _ c.version-before.ensures.kept c.in_err-passes.ensures.works.works

pub returns-in_err-passes-clause-unused : goal.returns-in_err-passes-clause-unused
returns-in_err-passes-clause-unused c = worked_unused _ _ c.version-before.ensures.kept c.in_err-passes.ensures.works.works

pub rest_after-requires : goal.rest_after-requires
rest_after-requires c = λ none.
    (turn_rests _ _ c.version-before.ensures.kept _
    (turn_counts _ _ c.version-before.result c.version.result (c.count_turn.ensures.plane ∙ c.in_ok-passes.ensures.ok) c.version-before.ensures.count (c.version.ensures.count ∙ ap (λ w. length w.journal) (sym c.count_turn.ensures.plane))) none).quiet

pub returns-clause-calm : goal.returns-clause-calm
returns-clause-calm c = λ h.
    let calm = c.in_ok-passes.ensures.calm h in
    (none_made c.args.self.now.plane c.passes.new.self.plane c.version-before.result c.version.result calm.journal c.version-before.ensures.count c.version.ensures.count, c.rest_after.ensures.looks ∙ c.count_turn.ensures.looks ∙ calm.looks)

pub returns-clause-ok : goal.returns-clause-ok
returns-clause-ok c =
    turn_counts _ _ c.version-before.result c.version.result (c.rest_after.ensures.plane ∙ c.count_turn.ensures.plane ∙ c.in_ok-passes.ensures.ok) c.version-before.ensures.count
    (c.version.ensures.count ∙ ap (λ w. length w.journal) (sym (c.rest_after.ensures.plane ∙ c.count_turn.ensures.plane)))

pub returns-clause-rest : goal.returns-clause-rest
returns-clause-rest c =
    turn_rests _ _ c.version-before.ensures.kept _
    (turn_counts _ _ c.version-before.result c.version.result (c.rest_after.ensures.plane ∙ c.count_turn.ensures.plane ∙ c.in_ok-passes.ensures.ok) c.version-before.ensures.count
    (c.version.ensures.count ∙ ap (λ w. length w.journal) (sym (c.rest_after.ensures.plane ∙ c.count_turn.ensures.plane))))

pub returns-clause-works : goal.returns-clause-works
returns-clause-works c = works_as _ _ _ c.in_ok-passes.ensures.works.works (c.rest_after.ensures.plane ∙ c.count_turn.ensures.plane)

pub returns-clause-safe : goal.returns-clause-safe
returns-clause-safe c = worked_safe _ _ c.version-before.ensures.kept (works_as _ _ _ c.in_ok-passes.ensures.works.works (c.rest_after.ensures.plane ∙ c.count_turn.ensures.plane))

pub returns-clause-unused : goal.returns-clause-unused
returns-clause-unused c = worked_unused _ _ c.version-before.ensures.kept (works_as _ _ _ c.in_ok-passes.ensures.works.works (c.rest_after.ensures.plane ∙ c.count_turn.ensures.plane))
