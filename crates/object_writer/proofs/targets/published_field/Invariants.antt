use Rattle.std.proofs.Common.{◌≡◌, drop, map}
use Rattle.resource_codec.specs.Objects.{published_json}
use Rattle.object_writer.specs.Tokens.{with_values}
use Rattle.object_writer.proofs.targets.published_field.Given as goal

abbrev pub invariant-loop-target : goal.invariant-loop-target
invariant-loop-target l = with_values (map published_json (drop l.target-index l.target-items)) l.out ≡ with_values (map published_json l.target-items) l.initial.out
