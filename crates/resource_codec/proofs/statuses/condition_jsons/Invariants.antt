use Rattle.std.proofs.Common.{◌≡◌, take, map}
use Rattle.resource_codec.specs.Objects.{condition_json}
use Rattle.resource_codec.proofs.statuses.condition_jsons.Given as goal

abbrev pub invariant-loop-condition : goal.invariant-loop-condition
invariant-loop-condition l = l.jsons ≡ map condition_json (take l.condition-index l.condition-items)
