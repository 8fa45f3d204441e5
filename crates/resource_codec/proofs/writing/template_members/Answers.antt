use Rattle.std.proofs.Common.{refl}
use Rattle.resource_codec.specs.Written.{template_fields, template_members}
use Rattle.resource_codec.proofs.InOrder.{in_order}
use Rattle.resource_codec.proofs.writing.template_members.Goals as goal

pub returns : goal.returns
unfolding template_members
returns c =
    rw (c.in_ok-add.ensures, c.in_ok-add_object.ensures, c.new-members.ensures)
    (rw (c.in_ok-metadata.ensures, c.in_ok-spec.ensures) (in_order (template_fields c.args.template.now) refl))
