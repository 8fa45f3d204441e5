use Rattle.std.proofs.Common.{◌≡◌, drop, map}
use Rattle.resource_codec.specs.Objects.{row_json}
use Rattle.object_writer.specs.Tokens.{with_values}
use Rattle.object_writer.proofs.tables.rows_field.Given as goal

abbrev pub invariant-loop-row : goal.invariant-loop-row
invariant-loop-row l = with_values (map row_json (drop l.row-index l.row-items)) l.out ≡ with_values (map row_json l.row-items) l.initial.out
