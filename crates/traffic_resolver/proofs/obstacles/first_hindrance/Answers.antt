use Rattle.std.proofs.Common.{arith, sym, ◌∙◌}
use Rattle.traffic_resolver.proofs.FirstHindrance.{stops, goes_on, ends}
use Rattle.traffic_resolver.proofs.obstacles.first_hindrance.Goals as goal

pub returns-in-Some : goal.returns-in-Some
returns-in-Some c =
    stops c.args.targets.now c.args.found.now c.requires c.loop-place.place c.loop-place.invariant c.index-targets-place.result c.index-found-place.result
    c.loop-place-test.true c.index-targets-place.is c.index-found-place.is c.in-Some.hindered (sym c.in_ok-hindered.ensures ∙ c.in-Some.is)

pub loop-place-preserved : goal.loop-place-preserved
loop-place-preserved c =
    goes_on c.args.targets.now c.args.found.now c.requires c.loop-place.place c.loop-place.invariant c.index-targets-place.result c.index-found-place.result
    c.loop-place-test.true c.index-targets-place.is c.index-found-place.is (sym c.in_ok-hindered.ensures ∙ c.in_default.is)

pub returns : goal.returns
returns c = ends c.args.targets.now c.args.found.now c.requires c.loop-place.place c.loop-place.invariant (omega arith)
