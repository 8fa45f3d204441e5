use Rattle.std.proofs.Common.{◌≡◌, take, drop, []}
use Rattle.validation.specs.Rules.{first_fault, each_target_lines}
use Rattle.validation.proofs.targets.check_each_target.Given as goal

abbrev pub invariant-loop-index : goal.invariant-loop-index
invariant-loop-index l =
    first_fault (each_target_lines l.kind l.name (take l.index l.targets) (drop l.index l.targets)) ≡ first_fault (each_target_lines l.kind l.name [] l.targets)
