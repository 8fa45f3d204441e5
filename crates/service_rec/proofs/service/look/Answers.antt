use Rattle.std.proofs.Common.{sym, ap, ◌∙◌, Some}
use Rattle.resource_types.specs.declared.objects.Object.{Object}
use Rattle.resource_types.specs.declared.status.ObjectStatus.{ObjectStatus}
use Rattle.resource_types.specs.Lookups.{state}
use Rattle.control_rules.specs.Differences.{creation, replacement, status_change}
use Rattle.service_rec.proofs.ServiceDue.{due_nothing, due_configuration, due_template, due_route, due_targets, due_status}
use Rattle.service_rec.proofs.service.look.Goals as goal

pub returns-in_default : goal.returns-in_default
returns-in_default c = sym (due_nothing (state c.args.store.now.entries) c.args.name.now c.args.now (sym c.in_default.ensures.value))

pub returns-in_default-standing : goal.returns-in_default-standing
returns-in_default-standing c =
    ap (λ (o : Object). Some (creation o)) c.in_ok-made_configuration.ensures
    ∙ sym (due_configuration (state c.args.store.now.entries) c.args.name.now c.args.now c.in-Some.service.now (sym c.in-Some.ensures.value) (sym c.in_default-standing.ensures.value))

pub returns-then-has_other_template : goal.returns-then-has_other_template
returns-then-has_other_template c =
    ap (λ (o : Object). Some (replacement o o.body)) c.in_ok-replaced.ensures
    ∙ sym (due_template (state c.args.store.now.entries) c.args.name.now c.args.now c.in-Some.service.now (sym c.in-Some.ensures.value)
    c.in-Some-standing.configuration.now (sym c.in-Some-standing.ensures.value) (sym c.if-has_other_template.ensures))

pub returns-in_default-standing-2 : goal.returns-in_default-standing-2
returns-in_default-standing-2 c =
    ap (λ (o : Object). Some (creation o)) c.in_ok-made_route.ensures
    ∙ sym (due_route (state c.args.store.now.entries) c.args.name.now c.args.now c.in-Some.service.now (sym c.in-Some.ensures.value)
    c.in-Some-standing.configuration.now (sym c.in-Some-standing.ensures.value) (sym c.if-has_other_template.ensures) (sym c.in_default-standing-2.ensures.value))

pub returns-then-has_other_targets : goal.returns-then-has_other_targets
returns-then-has_other_targets c =
    ap (λ (o : Object). Some (replacement o o.body)) c.in_ok-replaced-2.ensures
    ∙ sym (due_targets (state c.args.store.now.entries) c.args.name.now c.args.now c.in-Some.service.now (sym c.in-Some.ensures.value)
    c.in-Some-standing.configuration.now (sym c.in-Some-standing.ensures.value) (sym c.if-has_other_template.ensures)
    c.in-Some-standing-2.route.now (sym c.in-Some-standing-2.ensures.value) (sym c.if-has_other_targets.ensures))

pub returns : goal.returns
returns c =
    c.in_ok-due.ensures
    ∙ ap (λ (s : ObjectStatus). status_change c.in-Some.service.now s c.args.now) c.in_ok-status.ensures
    ∙ sym (due_status (state c.args.store.now.entries) c.args.name.now c.args.now c.in-Some.service.now (sym c.in-Some.ensures.value)
    c.in-Some-standing.configuration.now (sym c.in-Some-standing.ensures.value) (sym c.if-has_other_template.ensures)
    c.in-Some-standing-2.route.now (sym c.in-Some-standing-2.ensures.value) (sym c.if-has_other_targets.ensures))
