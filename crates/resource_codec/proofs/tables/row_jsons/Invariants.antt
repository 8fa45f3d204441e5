use Rattle.std.proofs.Common.{◌≡◌, take, map}
use Rattle.resource_codec.specs.Objects.{row_json}
use Rattle.resource_codec.proofs.tables.row_jsons.Given as goal

abbrev pub invariant-loop-row : goal.invariant-loop-row
invariant-loop-row l = l.jsons ≡ map row_json (take l.row-index l.row-items)
