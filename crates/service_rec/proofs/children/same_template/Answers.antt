use Rattle.json_tree.specs.EqualLaws.{tells-equal}
use Rattle.resource_types.specs.contracts.specification.Template as template_row
use Rattle.control_rules.specs.NextService.{same_template}
use Rattle.service_rec.proofs.children.same_template.Goals as goal

pub returns : goal.returns
unfolding same_template
returns c = tells-equal template_row.the_row.coded c.equals.result c.args.one.now c.args.two.now c.equals.ensures
