use Rattle.std.proofs.Common.{refl}
use Rattle.resource_codec.specs.Lists.{table_list_fields, table_list}
use Rattle.resource_codec.proofs.InOrder.{in_order}
use Rattle.resource_codec.proofs.lists.table_list.Goals as goal

pub returns : goal.returns
unfolding table_list
returns c =
    rw (c.in_ok-add_made.ensures, c.in_ok-add_word.ensures, c.in_ok-add.ensures, c.new-members.ensures)
    (rw c.in_ok-digits.ensures (in_order (table_list_fields c.args.items c.args.version) refl))
