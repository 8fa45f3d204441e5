use Rattle.std.proofs.Common.{◌≡◌, drop}
use Rattle.controller_parts.specs.Conditions.{condition_of}
use Rattle.controller_parts.proofs.statements.condition_of.Given as goal

abbrev pub invariant-loop-condition : goal.invariant-loop-condition
invariant-loop-condition l = condition_of l.name l.conditions ≡ condition_of l.name (drop l.condition-index l.conditions)
