use Rattle.std.proofs.Common.{arith, refl, []}
use Rattle.control_rules.specs.Resolution.{assigned_targets}
use Rattle.traffic_resolver.proofs.Appended.{appended_next, appended_all, targets_add}
use Rattle.traffic_resolver.proofs.published.all_published.Goals as goal

pub loop-place-preserved : goal.loop-place-preserved
loop-place-preserved c =
    appended_next (assigned_targets c.args.route.now c.args.domain.now) [] c.args.targets.now c.args.found.now c.requires c.loop-place.place c.loop-place.published c.loop-place.invariant
    (targets_add c.args.route.now c.args.domain.now) c.index-targets-place.result c.index-found-place.result c.in_ok-published.published c.loop-place-test.true c.index-targets-place.is
    c.index-found-place.is c.in_ok-published.ensures

pub returns : goal.returns
returns c =
    appended_all (assigned_targets c.args.route.now c.args.domain.now) [] c.args.targets.now c.args.found.now c.requires c.loop-place.place c.loop-place.published c.loop-place.invariant refl
    (omega arith)
