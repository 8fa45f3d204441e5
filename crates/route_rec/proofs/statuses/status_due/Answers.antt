use Rattle.std.proofs.Common.{ℕ, List, ap, ◌∙◌}
use Rattle.resource_types.specs.Lookups.{state}
use Rattle.control_rules.specs.Resolution.{host_of}
use Rattle.control_rules.specs.Readings.{own_targets}
use Rattle.route_rec.proofs.RouteDue.{status_as}
use Rattle.route_rec.proofs.statuses.status_due.Goals as goal

pub returns : goal.returns
returns c =
    let host = c.in_ok-host.ensures ∙ ap (λ (tag : List ℕ). host_of tag c.args.traffic.now.route.now c.args.traffic.now.domain.now) c.in_ok-tag.ensures in
    let shown = c.own_targets-published.ensures ∙ ap (own_targets c.args.traffic.now.object.now.meta.stamp.uid) c.standing-table.ensures.value in
    status_as (state c.args.store.now.entries) c.args.traffic.now c.requires _ _ _ host shown c.in_ok-status.ensures
