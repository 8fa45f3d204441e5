use Rattle.std.proofs.Common.{◌≡◌, take}
use Rattle.std.specs.Prelude.{map}
use Rattle.control_rules.specs.NextService.{converted_target}
use Rattle.service_rec.proofs.targets.converted_targets.Given as goal

abbrev pub invariant-loop-target : goal.invariant-loop-target
invariant-loop-target l = l.converted ≡ map (converted_target l.name) (take l.target-index l.targets)
