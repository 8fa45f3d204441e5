use Rattle.std.proofs.Common.{◌≡◌, drop}
use Rattle.validation.specs.Rules.{first_fault, container_lines}
use Rattle.validation.proofs.templates.check_containers.Given as goal

abbrev pub invariant-loop-index : goal.invariant-loop-index
invariant-loop-index l = first_fault (container_lines l.index (drop l.index l.containers)) ≡ first_fault (container_lines 0 l.containers)
