use Rattle.std.proofs.Common.{sym, ap, ◌∙◌, Some}
use Rattle.resource_types.specs.Lookups.{state}
use Rattle.control_rules.specs.Differences.{ObjectPlan}
use Rattle.control_rules.specs.NextRoute.{add_pin}
use Rattle.route_rec.proofs.RouteDue.{lacks, lacks_none, lacks_nothing, repinned_as}
use Rattle.route_rec.proofs.lacking.pin_lacking.Goals as goal

pub returns-in_default : goal.returns-in_default
returns-in_default c = sym (lacks_none (state c.args.store.now.entries) c.args.traffic.now c.requires c.in_default.not-Assigned c.args.now)

pub returns-in_default-unpinned_among : goal.returns-in_default-unpinned_among
returns-in_default-unpinned_among c =
    sym (lacks_nothing (state c.args.store.now.entries) c.args.traffic.now c.requires _ _ c.in-Assigned.is (sym c.in_default-unpinned_among.ensures) c.args.now)

pub returns : goal.returns
returns c =
    ap (λ (p : ObjectPlan). Some p) (repinned_as _ _ _ _ _ _ c.repinned.ensures c.in_ok-copy.ensures
    (c.in_ok-pins.ensures ∙ ap (add_pin c.args.traffic.now.route.now.name) c.pins.ensures))
    ∙ sym (lacks (state c.args.store.now.entries) c.args.traffic.now c.requires _ _ c.in-Assigned.is c.in-Some.revision.now (sym c.in-Some.ensures) c.args.now)
