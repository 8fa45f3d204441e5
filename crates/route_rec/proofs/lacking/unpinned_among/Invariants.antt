use Rattle.std.proofs.Common.{◌≡◌, drop}
use Rattle.resource_types.specs.Lookups.{state}
use Rattle.route_rec.specs.Traffic.{unpinned_among}
use Rattle.route_rec.proofs.lacking.unpinned_among.Given as goal

abbrev pub invariant-loop-meaning : goal.invariant-loop-meaning
invariant-loop-meaning l = unpinned_among (state l.store.entries) l.route l.found ≡ unpinned_among (state l.store.entries) l.route (drop l.meaning-index l.found)
