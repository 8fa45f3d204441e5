use Rattle.std.proofs.Common.{sym, ap, ◌∙◌, Option}
use Rattle.resource_types.specs.Lookups.{state}
use Rattle.resource_types.specs.declared.objects.Body.TheVariants.{Table}
use Rattle.resource_types.specs.declared.objects.Object.{Object}
use Rattle.control_rules.specs.NextRoute.{published}
use Rattle.route_rec.proofs.RouteDue.{publishes, publishes_none}
use Rattle.route_rec.proofs.tables.table_differs.Goals as goal

pub returns-in_default : goal.returns-in_default
returns-in_default c = sym (publishes_none (state c.args.store.now.entries) c.args.traffic.now c.requires c.in_default.not-Assigned)

pub returns : goal.returns
returns c =
    c.in_ok-due.ensures
    ∙ ap (λ (t : Option Object). published c.args.traffic.now.route.now t (Table c.args.traffic.now.object.now.meta.stamp.uid c.in-Assigned.rows c.in-Assigned.targets)) c.standing-table.ensures.value
    ∙ sym (publishes (state c.args.store.now.entries) c.args.traffic.now c.requires _ _ c.in-Assigned.is)
