use Rattle.json_tree.specs.EqualLaws.{tells-equal}
use Rattle.json_tree.specs.contracts.value.Json.{the_row}
use Rattle.json_tree.proofs.json_equal.JsonPartialEq.eq.Goals as goal

pub returns : goal.returns
returns c = tells-equal the_row.coded c.equals.result c.args.self.now c.args.other.now c.equals.ensures
