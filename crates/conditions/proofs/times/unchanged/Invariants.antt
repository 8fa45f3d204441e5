use Rattle.std.proofs.Common.{◌≡◌, drop}
use Rattle.std.specs.List.{find}
use Rattle.conditions.specs.Times.{is_unchanged}
use Rattle.conditions.proofs.times.unchanged.Given as goal

abbrev pub invariant-loop-condition : goal.invariant-loop-condition
invariant-loop-condition l = find (is_unchanged l.new) l.old ≡ find (is_unchanged l.new) (drop l.condition-index l.condition-items)
