use Rattle.std.proofs.Common.{refl}
use Rattle.resource_codec.specs.Objects.{table_fields, table_members}
use Rattle.resource_codec.proofs.InOrder.{in_order}
use Rattle.resource_codec.proofs.tables.table_members.Goals as goal

pub returns : goal.returns
unfolding table_members
returns c =
    rw (c.in_ok-add_array-2.ensures, c.in_ok-add_array.ensures, c.in_ok-add_made-2.ensures, c.in_ok-add_made.ensures, c.in_ok-add_word-2.ensures, c.in_ok-add_text.ensures, c.in_ok-add_word.ensures, c.new-members.ensures)
    (rw (c.other_namespace-space.ensures, c.as_str.ensures, c.in_ok-version.ensures, c.in_ok-uid.ensures, c.in_ok-row_items.ensures, c.in_ok-target_items.ensures) (in_order (table_fields c.args.object.now c.args.route c.args.rows.now c.args.targets.now) refl))
