use Rattle.std.proofs.Common.{sym, ap, ◌∙◌}
use Rattle.resource_types.specs.Lookups.{state}
use Rattle.resource_types.specs.declared.status.ObjectStatus.{ObjectStatus}
use Rattle.control_rules.specs.Differences.{status_change}
use Rattle.route_rec.proofs.RouteDue.{status_differs_by}
use Rattle.route_rec.proofs.statuses.status_differs.Goals as goal

pub returns : goal.returns
returns c =
    c.in_ok-due.ensures
    ∙ ap (λ (s : ObjectStatus). status_change c.args.traffic.now.object.now s c.args.now) c.in_ok-status.ensures
    ∙ sym (status_differs_by (state c.args.store.now.entries) c.args.traffic.now c.requires c.args.now)
