use Rattle.std.proofs.Common.{◌≡◌, take}
use Rattle.std.specs.Prelude.{map}
use Rattle.resource_types.specs.Lookups.{state}
use Rattle.traffic_resolver.specs.Pairs.{found_in}
use Rattle.traffic_resolver.proofs.targets.found_all.Given as goal

abbrev pub invariant-loop-target : goal.invariant-loop-target
invariant-loop-target l = l.found ≡ map (found_in (state l.store.entries) l.space) (take l.target-index l.targets)
