use Rattle.json_tree.specs.EqualLaws.{tells-equal}
use Rattle.resource_types.specs.contracts.objects.Body as body
use Rattle.resource_types.specs.Spec.{spec_of}
use Rattle.resource_types.proofs.item.ObjectItem.same_spec.Goals as goal

pub returns : goal.returns
returns c = tells-equal body.the_row.coded c.has_spec_of.result (spec_of c.args.self.now.body) (spec_of c.args.other.now.body) c.has_spec_of.ensures
