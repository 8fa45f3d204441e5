use Rattle.std.proofs.Common.{◌∙◌, refl}
use Rattle.std.proofs.lemmas.Result.{on_ok_weaker}
use Rattle.resource_types.specs.declared.manifests.ManifestSpec.TheVariants as kind
use Rattle.resource_codec.specs.Written.{spec_fields, spec_members}
use Rattle.object_writer.proofs.Tokens.{object_written}
use Rattle.object_writer.proofs.templates.route_spec.Goals as goal

pub returns : goal.returns
unfolding spec_members
returns c =
    on_ok_weaker c.close_object.result
    (λ e. e ∙ rw (c.in_ok-traffic_field.ensures, c.in_ok-open_object.ensures)
    (object_written (spec_fields (kind.Route c.args.traffic.now)) c.args.out.now refl))
    c.close_object.ensures
