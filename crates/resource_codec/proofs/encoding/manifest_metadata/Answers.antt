use Rattle.std.proofs.Common.{refl}
use Rattle.resource_codec.specs.Written.{manifest_metadata, metadata_fields, metadata_members, add_field, put_field, text_field, number_field, array_field}
use Rattle.resource_codec.proofs.InOrder.{in_order}
use Rattle.resource_codec.proofs.encoding.manifest_metadata.Goals as goal

pub returns : goal.returns
unfolding metadata_members add_field put_field text_field number_field array_field
returns c = rw (c.in_ok-add_text-3.ensures, c.in_ok-add_text-2.ensures, c.in_ok-add_text.ensures, c.in_ok-add_texts-2.ensures, c.in_ok-add_texts.ensures, c.new-members.ensures) (in_order (metadata_fields (manifest_metadata c.args.manifest.now)) refl)
