use Rattle.std.proofs.Common.{refl}
use Rattle.resource_types.specs.declared.manifests.ManifestSpec.TheVariants as kind
use Rattle.resource_codec.specs.Written.{spec_fields, spec_members}
use Rattle.resource_codec.proofs.InOrder.{in_order}
use Rattle.resource_codec.proofs.writing.route_spec.Goals as goal

pub returns : goal.returns
unfolding spec_members
returns c =
    rw (c.in_ok-add_array.ensures, c.new-members.ensures)
    (rw c.in_ok-targets.ensures (in_order (spec_fields (kind.Route c.args.traffic.now)) refl))
