use Rattle.std.proofs.Common.{◌≡◌, take, map}
use Rattle.resource_codec.specs.Written.{target_json}
use Rattle.resource_codec.proofs.writing.target_jsons.Given as goal

abbrev pub invariant-loop-target : goal.invariant-loop-target
invariant-loop-target l = l.jsons ≡ map target_json (take l.target-index l.target-items)
