use Rattle.std.proofs.Common.{◌≡◌, take}
use Rattle.std.specs.Prelude.{map}
use Rattle.control_rules.specs.Differences.{timeless}
use Rattle.controller_parts.proofs.sameness.are_same.Given as goal

abbrev pub invariant-loop-place : goal.invariant-loop-place
invariant-loop-place l = take l.place (map timeless l.one) ≡ take l.place (map timeless l.two)
