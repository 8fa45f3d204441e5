use Rattle.std.proofs.Common.{◌≡◌, drop, map}
use Rattle.resource_codec.specs.Objects.{condition_json}
use Rattle.object_writer.specs.Tokens.{with_values}
use Rattle.object_writer.proofs.statuses.conditions_field.Given as goal

abbrev pub invariant-loop-condition : goal.invariant-loop-condition
invariant-loop-condition l = with_values (map condition_json (drop l.condition-index l.condition-items)) l.out ≡ with_values (map condition_json l.condition-items) l.initial.out
