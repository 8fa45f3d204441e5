use Rattle.std.proofs.Common.{◌≡◌, false, take}
use Rattle.std.specs.List.{list_any}
use Rattle.validation.specs.Rules.{has_tag}
use Rattle.validation.proofs.targets.is_taken.Given as goal

abbrev pub invariant-loop-target : goal.invariant-loop-target
invariant-loop-target l = list_any (has_tag l.tag) (take l.target-index l.earlier) ≡ false
