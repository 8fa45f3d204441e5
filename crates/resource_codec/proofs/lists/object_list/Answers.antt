use Rattle.std.proofs.Common.{refl}
use Rattle.resource_codec.specs.Lists.{object_list_fields, object_list}
use Rattle.resource_codec.proofs.InOrder.{in_order}
use Rattle.resource_codec.proofs.lists.object_list.Goals as goal

pub returns : goal.returns
unfolding object_list
returns c =
    rw (c.in_ok-add-2.ensures, c.in_ok-add_made.ensures, c.in_ok-add.ensures, c.in_ok-add_word.ensures, c.new-members.ensures)
    (rw (c.api_version.ensures, c.in_ok-word.ensures, c.in_ok-metadata.ensures) (in_order (object_list_fields c.args.kind c.args.items c.args.version) refl))
