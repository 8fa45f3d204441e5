use Rattle.std.proofs.Common.{arith, refl}
use Rattle.control_rules.specs.Resolution.{tagged_rows}
use Rattle.traffic_resolver.proofs.Appended.{appended_next, appended_all, tags_add}
use Rattle.traffic_resolver.proofs.published.all_tagged.Goals as goal

pub loop-place-preserved : goal.loop-place-preserved
loop-place-preserved c =
    appended_next (tagged_rows c.args.route.now c.args.domain.now) c.args.own c.args.targets.now c.args.found.now c.requires c.loop-place.place c.loop-place.rows c.loop-place.invariant
    (tags_add c.args.route.now c.args.domain.now) c.index-targets-place.result c.index-found-place.result c.in_ok-rows.rows c.loop-place-test.true c.index-targets-place.is
    c.index-found-place.is c.in_ok-rows.ensures

pub returns : goal.returns
returns c =
    appended_all (tagged_rows c.args.route.now c.args.domain.now) c.args.own c.args.targets.now c.args.found.now c.requires c.loop-place.place c.loop-place.rows c.loop-place.invariant refl
    (omega arith)
