use Rattle.std.proofs.Common.{refl}
use Rattle.resource_codec.specs.Written.{metadata_fields, metadata_members}
use Rattle.resource_codec.specs.Objects.{object_metadata}
use Rattle.resource_codec.proofs.InOrder.{in_order}
use Rattle.resource_codec.proofs.objects.object_metadata.Goals as goal

pub returns : goal.returns
unfolding metadata_members
returns c =
    rw (c.in_ok-add_made-3.ensures, c.in_ok-add_made-2.ensures, c.in_ok-add_array.ensures, c.in_ok-add_text-2.ensures, c.in_ok-add_text.ensures, c.in_ok-add_texts-2.ensures, c.in_ok-add_number.ensures, c.in_ok-add_made.ensures, c.in_ok-add_texts.ensures, c.in_ok-members.ensures)
    (rw (c.in_ok-created.ensures, c.in_ok-owners.ensures, c.in_ok-version.ensures, c.in_ok-uid.ensures) (in_order (metadata_fields (object_metadata c.args.object.now c.args.labels.now c.args.annotations.now)) refl))
