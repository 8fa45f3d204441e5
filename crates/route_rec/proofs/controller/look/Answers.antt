use Rattle.std.proofs.Common.{sym, ap, ◌∙◌, Option}
use Rattle.std.specs.Prelude.{option_map}
use Rattle.resource_types.specs.Lookups.{state}
use Rattle.controller_parts.specs.declared.due.Due.{Due}
use Rattle.controller_parts.specs.Views.{due_plan}
use Rattle.route_rec.proofs.RouteDue.{next_orphaned, next_foreign, next_by_route, next_spare}
use Rattle.route_rec.proofs.controller.look.Goals as goal

pub returns-in-Some : goal.returns-in-Some
returns-in-Some c =
    sym (next_orphaned c.args.domain.now (state c.args.store.now.entries) c.args.route.now c.args.now _
    (sym c.in_ok-due.ensures ∙ ap (λ (d : Option Due). option_map due_plan d) c.in-Some.is))

pub returns-in-Some-2 : goal.returns-in-Some-2
returns-in-Some-2 c =
    sym (next_foreign c.args.domain.now (state c.args.store.now.entries) c.args.route.now c.args.now _
    (sym c.in_ok-due.ensures ∙ ap (λ (d : Option Due). option_map due_plan d) c.in_default.is)
    (sym c.in_ok-due-2.ensures ∙ ap (λ (d : Option Due). option_map due_plan d) c.in-Some-2.is))

pub returns-in-Some-3 : goal.returns-in-Some-3
returns-in-Some-3 c =
    sym (next_by_route c.args.domain.now (state c.args.store.now.entries) c.args.route.now c.args.now _
    (sym c.in_ok-due.ensures ∙ ap (λ (d : Option Due). option_map due_plan d) c.in_default.is)
    (sym c.in_ok-due-2.ensures ∙ ap (λ (d : Option Due). option_map due_plan d) c.in_default-2.is)
    (sym c.in_ok-due-3.ensures ∙ ap (λ (d : Option Due). option_map due_plan d) c.in-Some-3.is))

pub returns : goal.returns
returns c =
    c.in_ok-due-4.ensures
    ∙ sym (next_spare c.args.domain.now (state c.args.store.now.entries) c.args.route.now c.args.now
    (sym c.in_ok-due.ensures ∙ ap (λ (d : Option Due). option_map due_plan d) c.in_default.is)
    (sym c.in_ok-due-2.ensures ∙ ap (λ (d : Option Due). option_map due_plan d) c.in_default-2.is)
    (sym c.in_ok-due-3.ensures ∙ ap (λ (d : Option Due). option_map due_plan d) c.in_default-3.is))
