use Rattle.std.proofs.Common.{arith, sym}
use Rattle.resource_types.specs.Lookups.{state}
use Rattle.route_rec.proofs.Unpinned.{stops, goes_on, ends}
use Rattle.route_rec.proofs.lacking.unpinned_among.Goals as goal

pub returns-in-Some : goal.returns-in-Some
returns-in-Some c =
    stops (state c.args.store.now.entries) c.args.route.now c.args.found.now c.loop-meaning.meaning-index c.loop-meaning.invariant
    c.meaning-item.result c.loop-meaning-test.true c.meaning-item.is c.in-Some.revision.now (sym c.in-Some.ensures)

pub loop-meaning-preserved : goal.loop-meaning-preserved
loop-meaning-preserved c =
    goes_on (state c.args.store.now.entries) c.args.route.now c.args.found.now c.loop-meaning.meaning-index c.loop-meaning.invariant
    c.meaning-item.result c.loop-meaning-test.true c.meaning-item.is (sym c.in_default.ensures)

pub returns : goal.returns
returns c = ends (state c.args.store.now.entries) c.args.route.now c.args.found.now c.loop-meaning.meaning-index c.loop-meaning.invariant (omega arith)
