use Rattle.std.proofs.Common.{◌≡◌, take, map}
use Rattle.resource_codec.specs.Objects.{published_json}
use Rattle.resource_codec.proofs.statuses.published_jsons.Given as goal

abbrev pub invariant-loop-target : goal.invariant-loop-target
invariant-loop-target l = l.jsons ≡ map published_json (take l.target-index l.target-items)
