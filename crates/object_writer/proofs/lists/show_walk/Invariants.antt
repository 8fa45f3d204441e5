use Rattle.std.proofs.Common.{◌≡◌, map, drop}
use Rattle.resource_codec.specs.Objects.{encoded}
use Rattle.object_writer.specs.Tokens.{with_values}
use Rattle.object_writer.proofs.lists.show_walk.Given as goal

abbrev pub invariant-loop-place : goal.invariant-loop-place
invariant-loop-place l = with_values (map encoded (drop l.place l.objects)) l.out ≡ with_values (map encoded l.objects) l.initial.out
