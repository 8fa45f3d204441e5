use Rattle.json_tree.specs.EqualLaws.{tells-equal}
use Rattle.resource_types.specs.contracts.status.ObjectStatus as status_row
use Rattle.control_rules.specs.Differences.{untimed, same_untimed}
use Rattle.controller_parts.proofs.sameness.same_untimed.Goals as goal

pub returns : goal.returns
unfolding same_untimed
returns c = tells-equal status_row.the_row.coded c.is_untimed_same.result (untimed c.args.old.now) (untimed c.args.new.now) c.is_untimed_same.ensures
