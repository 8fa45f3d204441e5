use Rattle.std.proofs.Common.{List, ap, ◌∙◌}
use Rattle.std.specs.Prelude.{map}
use Rattle.resource_types.specs.declared.specification.Target.{Target}
use Rattle.resource_types.specs.declared.objects.Body.TheVariants.{Route}
use Rattle.control_rules.specs.NextService.{converted, converted_target}
use Rattle.service_rec.proofs.children.route_body.Goals as goal

pub returns : goal.returns
unfolding converted
returns c = ap (λ (ts : List Target). Route ts c.args.status) (c.in_ok-converted_targets.ensures ∙ ap (map (converted_target c.args.name.now)) c.targets.ensures)
