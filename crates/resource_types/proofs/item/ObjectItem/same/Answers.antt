use Rattle.json_tree.specs.EqualLaws.{tells-equal}
use Rattle.resource_types.specs.contracts.objects.Object as object
use Rattle.resource_types.specs.Spec.{stamped, no_stamp}
use Rattle.resource_types.proofs.item.ObjectItem.same.Goals as goal

pub returns : goal.returns
returns c = tells-equal object.the_row.coded c.equals_but_stamp.result (stamped c.args.self.now no_stamp) (stamped c.args.other.now no_stamp) c.equals_but_stamp.ensures
