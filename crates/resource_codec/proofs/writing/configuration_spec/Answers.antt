use Rattle.std.proofs.Common.{refl}
use Rattle.resource_types.specs.declared.manifests.ManifestSpec.TheVariants as kind
use Rattle.resource_codec.specs.Written.{spec_fields, spec_members}
use Rattle.resource_codec.proofs.InOrder.{in_order}
use Rattle.resource_codec.proofs.writing.configuration_spec.Goals as goal

pub returns : goal.returns
unfolding spec_members
returns c =
    rw (c.in_ok-add.ensures, c.new-members.ensures)
    (rw c.in_ok-template.ensures (in_order (spec_fields (kind.Configuration c.args.template.now)) refl))
