use Rattle.std.proofs.Common.{sym, ap, ◌∙◌, Some}
use Rattle.resource_types.specs.Lookups.{state}
use Rattle.resource_types.specs.declared.status.ObjectStatus.{ObjectStatus}
use Rattle.control_rules.specs.Differences.{status_change}
use Rattle.controller_parts.specs.declared.plans.Removed.{Removed}
use Rattle.controller_parts.specs.Plans.{removed_plan}
use Rattle.revision_rec.proofs.RevisionDue.{due_nothing, due_removal, due_status}
use Rattle.revision_rec.proofs.revision.look.Goals as goal

pub returns-in_default : goal.returns-in_default
returns-in_default c = sym (due_nothing (state c.args.store.now.entries) c.args.name.now c.args.now (sym c.in_default.ensures.value))

pub returns-then-is_left : goal.returns-then-is_left
returns-then-is_left c =
    ap (λ (r : Removed). Some (removed_plan r)) c.in_ok-removal_of.ensures
    ∙ sym (due_removal (state c.args.store.now.entries) c.args.name.now c.args.now c.in-Some.revision.now (sym c.in-Some.ensures.value) (sym c.if-is_left.ensures))

pub returns : goal.returns
returns c =
    c.in_ok-due.ensures
    ∙ ap (λ (s : ObjectStatus). status_change c.in-Some.revision.now s c.args.now) c.in_ok-status.ensures
    ∙ sym (due_status (state c.args.store.now.entries) c.args.name.now c.args.now c.in-Some.revision.now (sym c.in-Some.ensures.value) (sym c.if-is_left.ensures))
