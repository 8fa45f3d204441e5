use Rattle.std.proofs.Common.{refl}
use Rattle.resource_codec.specs.Written.{template_metadata_fields, template_metadata}
use Rattle.resource_codec.proofs.InOrder.{in_order}
use Rattle.resource_codec.proofs.writing.template_metadata.Goals as goal

pub returns : goal.returns
unfolding template_metadata
returns c = rw (c.in_ok-add_text.ensures, c.in_ok-add_texts-2.ensures, c.in_ok-add_texts.ensures, c.new-members.ensures) (in_order (template_metadata_fields c.args.template.now) refl)
