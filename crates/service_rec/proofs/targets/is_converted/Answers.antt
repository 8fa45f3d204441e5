use Rattle.std.proofs.Common.{sym, ◌∙◌}
use Rattle.service_rec.proofs.Conversions.{as_converted}
use Rattle.service_rec.proofs.targets.is_converted.Goals as goal

pub returns : goal.returns
returns c =
    let same = as_converted c.args.name.now c.args.target.now c.configuration_of.result.now c.configuration_of.ensures in
    ((λ t. c.is_target_on.ensures.0 t ∙ same), λ e. c.is_target_on.ensures.1 (e ∙ sym same))
