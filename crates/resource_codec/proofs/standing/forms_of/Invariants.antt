use Rattle.std.proofs.Common.{◌≡◌, ◌++◌, map, drop}
use Rattle.resource_codec.specs.Objects.{encoded}
use Rattle.resource_codec.proofs.standing.forms_of.Given as goal

abbrev pub invariant-loop-place : goal.invariant-loop-place
invariant-loop-place l = l.items ++ map encoded (drop l.place l.objects) ≡ map encoded l.objects
