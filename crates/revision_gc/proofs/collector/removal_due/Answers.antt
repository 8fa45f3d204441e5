use Rattle.std.proofs.Common.{sym, ap, ◌∙◌, Some}
use Rattle.resource_types.specs.Lookups.{state}
use Rattle.controller_parts.specs.declared.plans.Removed.{Removed}
use Rattle.controller_parts.specs.Plans.{removed_plan}
use Rattle.revision_gc.proofs.CollectorDue.{due_nothing, due_none, due_removal}
use Rattle.revision_gc.proofs.collector.removal_due.Goals as goal

pub returns-in_default : goal.returns-in_default
returns-in_default c = sym (due_nothing c.args.settings.now (state c.args.store.now.entries) c.args.name.now c.args.now (sym c.in_default.ensures.value))

pub returns-in_default-collected : goal.returns-in_default-collected
returns-in_default-collected c =
    sym (due_none c.args.settings.now (state c.args.store.now.entries) c.args.name.now c.args.now c.in-Some.configuration.now (sym c.in-Some.ensures.value)
    (sym c.in_default-collected.ensures))

pub returns : goal.returns
returns c =
    ap (λ (r : Removed). Some (removed_plan r)) c.in_ok-removal_of.ensures
    ∙ sym (due_removal c.args.settings.now (state c.args.store.now.entries) c.args.name.now c.args.now c.in-Some.configuration.now (sym c.in-Some.ensures.value)
    c.in-Some-collected.revision.now (sym c.in-Some-collected.ensures))
