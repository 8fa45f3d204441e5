use Rattle.std.proofs.Common.{ap}
use Rattle.std.specs.Prelude.{map}
use Rattle.json_tree.specs.EqualLaws.{tells-equal}
use Rattle.resource_types.specs.declared.objects.Body.TheVariants.{Route}
use Rattle.resource_types.specs.contracts.objects.Body as body_row
use Rattle.resource_types.specs.Objects.{no_status, targets_of}
use Rattle.control_rules.specs.NextService.{converted_target, same_targets}
use Rattle.service_rec.proofs.targets.has_targets.Goals as goal

pub returns : goal.returns
unfolding same_targets
returns c =
    let old = c.args.old.now in
    let new = map (converted_target c.args.name.now) c.args.targets.now in
    tells-equal body_row.the_row.coded c.are_converted.result (Route old no_status) (Route new no_status)
    ((λ t. ap (λ ts. Route ts no_status) (c.are_converted.ensures.0 t)), λ e. c.are_converted.ensures.1 (ap targets_of e))
