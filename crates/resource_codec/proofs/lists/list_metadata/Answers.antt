use Rattle.std.proofs.Common.{refl}
use Rattle.resource_codec.specs.Lists.{list_metadata_fields, list_metadata}
use Rattle.resource_codec.proofs.InOrder.{in_order}
use Rattle.resource_codec.proofs.lists.list_metadata.Goals as goal

pub returns : goal.returns
unfolding list_metadata
returns c =
    rw (c.in_ok-add_made.ensures, c.new-members.ensures)
    (rw c.in_ok-digits.ensures (in_order (list_metadata_fields c.args.version) refl))
