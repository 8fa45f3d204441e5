use Rattle.std.proofs.Common.{◌≡◌, drop}
use Rattle.std.specs.List.{zip}
use Rattle.control_rules.specs.Resolution.{first_hindrance}
use Rattle.traffic_resolver.proofs.obstacles.first_hindrance.Given as goal

abbrev pub invariant-loop-place : goal.invariant-loop-place
invariant-loop-place l = first_hindrance 0 (zip l.targets l.found) ≡ first_hindrance l.place (drop l.place (zip l.targets l.found))
