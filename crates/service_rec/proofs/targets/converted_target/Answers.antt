use Rattle.std.proofs.Common.{◌∙◌}
use Rattle.service_rec.proofs.Conversions.{made_of}
use Rattle.service_rec.proofs.targets.converted_target.Goals as goal

pub returns : goal.returns
returns c =
    made_of c.args.name.now c.args.target.now c.in_ok-configuration.configuration c.in_ok-revision.revision c.in_ok-tag.tag c.in_ok-url.url
    (c.in_ok-configuration.ensures ∙ c.configuration_of.ensures) c.in_ok-revision.ensures c.in_ok-tag.ensures c.in_ok-url.ensures
