use Rattle.std.proofs.Common.{◌≡◌, ◌+◌, ◌*◌, true, drop}
use Rattle.serde_json.specs.Data.{object, members_depth}
use Rattle.json_tree.specs.Tree.{depth_of, is_well, table_data}
use Rattle.merge_patch.specs.Merge.{merged}
use Rattle.merge_patch.proofs.patch.+merge.Given as goal

abbrev pub invariant-change_all-loop-change : goal.invariant-change_all-loop-change
invariant-change_all-loop-change l = record {
  well : is_well (object (table_data l.all.entries)) ≡ true;
  done : merged (table_data l.all.entries) (table_data (drop l.change-index l.changes)) ≡ merged (table_data l.fn.members.entries) (table_data l.changes);
}

abbrev pub decreases-merge : goal.decreases-merge
decreases-merge l = 2 * depth_of l.patch.now

abbrev pub decreases-change_all : goal.decreases-change_all
decreases-change_all l = 2 * members_depth (table_data l.changes.now) + 1
