use Rattle.json_tree.specs.EqualLaws.{tells-equal}
use Rattle.resource_types.specs.contracts.objects.Body as body_row
use Rattle.resource_types.specs.declared.objects.Body.TheVariants.{Table}
use Rattle.control_rules.specs.NextRoute.{same_body}
use Rattle.route_rec.proofs.tables.has_content.Goals as goal

pub returns : goal.returns
unfolding same_body
returns c = tells-equal body_row.the_row.coded c.is_of_content.result c.args.body.now (Table c.args.content.now.route c.args.content.now.rows.now c.args.content.now.targets.now) c.is_of_content.ensures
