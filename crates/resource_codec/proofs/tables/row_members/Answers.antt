use Rattle.std.proofs.Common.{refl}
use Rattle.resource_codec.specs.Objects.{row_fields, row_members}
use Rattle.resource_codec.proofs.InOrder.{in_order}
use Rattle.resource_codec.proofs.tables.row_members.Goals as goal

pub returns : goal.returns
unfolding row_members
returns c =
    rw (c.in_ok-add_text-3.ensures, c.in_ok-add_made.ensures, c.in_ok-add_text-2.ensures, c.in_ok-add_number.ensures, c.in_ok-add_text.ensures, c.new-members.ensures)
    (rw c.in_ok-uid.ensures (in_order (row_fields c.args.row.now) refl))
