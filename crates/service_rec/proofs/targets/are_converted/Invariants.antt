use Rattle.std.proofs.Common.{◌≡◌, take}
use Rattle.std.specs.Prelude.{map}
use Rattle.control_rules.specs.NextService.{converted_target}
use Rattle.service_rec.proofs.targets.are_converted.Given as goal

abbrev pub invariant-loop-place : goal.invariant-loop-place
invariant-loop-place l = take l.place l.old ≡ take l.place (map (converted_target l.name) l.targets)
