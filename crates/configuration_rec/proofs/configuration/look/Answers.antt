use Rattle.std.proofs.Common.{sym, ap, ◌∙◌, Some}
use Rattle.resource_types.specs.declared.objects.Object.{Object}
use Rattle.resource_types.specs.Lookups.{state}
use Rattle.control_rules.specs.Differences.{creation, status_change}
use Rattle.resource_types.specs.declared.status.ObjectStatus.{ObjectStatus}
use Rattle.controller_parts.specs.declared.plans.Removed.{Removed}
use Rattle.controller_parts.specs.Plans.{removed_plan}
use Rattle.configuration_rec.proofs.ConfigurationDue.{due_nothing, due_removal, due_creation, due_status_by}
use Rattle.configuration_rec.proofs.configuration.look.Goals as goal

pub returns-in_default : goal.returns-in_default
returns-in_default c = sym (due_nothing (state c.args.store.now.entries) c.args.name.now c.args.now (sym c.in_default.ensures.value))

pub returns-then-is_orphan : goal.returns-then-is_orphan
returns-then-is_orphan c =
    ap (λ (r : Removed). Some (removed_plan r)) c.in_ok-removal_of.ensures
    ∙ sym (due_removal (state c.args.store.now.entries) c.args.name.now c.args.now c.in-Some.configuration.now (sym c.in-Some.ensures.value) (sym c.if-is_orphan.ensures))

pub returns-in-None : goal.returns-in-None
returns-in-None c =
    ap (λ (o : Object). Some (creation o)) c.in_ok-made_revision-in-None.ensures
    ∙ sym (due_creation (state c.args.store.now.entries) c.args.name.now c.args.now c.in-Some.configuration.now (sym c.in-Some.ensures.value) (sym c.if-is_orphan.ensures)
    (rw (sym c.in_ok-wanted.ensures) (sym c.in-None.ensures.value)))

pub returns : goal.returns
returns c =
    c.in_ok-due-in-Some-standing.ensures
    ∙ ap (λ (s : ObjectStatus). status_change c.in-Some.configuration.now s c.args.now) c.in_ok-status-in-Some-standing.ensures
    ∙ sym (due_status_by (state c.args.store.now.entries) c.args.name.now c.args.now c.in-Some.configuration.now (sym c.in-Some.ensures.value) (sym c.if-is_orphan.ensures)
    c.in-Some-standing.child.now c.in_ok-wanted.wanted c.in_ok-wanted.ensures (sym c.in-Some-standing.ensures.value))
