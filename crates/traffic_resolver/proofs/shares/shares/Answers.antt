use Rattle.std.proofs.Common.{arith}
use Rattle.std.specs.List.{zip}
use Rattle.traffic_resolver.proofs.Zips.{zip_long, pair_within, pair_at}
use Rattle.traffic_resolver.proofs.ShareSums.{shared_next, shared_all, room_for}
use Rattle.traffic_resolver.proofs.shares.shares.Goals as goal

pub share-requires : goal.share-requires
share-requires c =
    let targets = c.args.targets.now in
    let found = c.args.found.now in
    let target = c.index-targets-place.result in
    let each = c.index-found-place.result in
    let room =
    room_for c.args.host.now (zip targets found) c.loop-place.place c.loop-place.rows.items c.loop-place.invariant (target, each)
    (pair_within targets found c.requires.long c.loop-place.place target each c.loop-place-test.true)
    (pair_at targets found c.requires.long c.loop-place.place target each c.loop-place-test.true c.index-targets-place.is c.index-found-place.is) in
    omega arith

pub loop-place-preserved : goal.loop-place-preserved
loop-place-preserved c =
    let targets = c.args.targets.now in
    let found = c.args.found.now in
    let target = c.index-targets-place.result in
    let each = c.index-found-place.result in
    shared_next c.args.host.now (zip targets found) c.loop-place.place c.loop-place.rows.items c.loop-place.invariant (target, each) c.in_ok-rows.rows.items
    (pair_within targets found c.requires.long c.loop-place.place target each c.loop-place-test.true)
    (pair_at targets found c.requires.long c.loop-place.place target each c.loop-place-test.true c.index-targets-place.is c.index-found-place.is)
    c.in_ok-rows.ensures.rows c.in_ok-rows.ensures.sum

pub returns : goal.returns
returns c =
    let same = zip_long c.args.targets.now c.args.found.now c.requires.long in
    shared_all c.args.host.now (zip c.args.targets.now c.args.found.now) c.loop-place.place c.loop-place.rows.items c.loop-place.invariant (omega arith)
