use Rattle.std.proofs.Common.{◌≡◌, ◌≤◌, length, take}
use Rattle.version_store.specs.Journal.{newest_guard}
use Rattle.version_store.proofs.plain.newest_guard.Given as goal

abbrev pub invariant-loop-left : goal.invariant-loop-left
invariant-loop-left g l = record {
  within : l.left ≤ length l.entries;
  none_later : newest_guard g.O.Item g.O.Key.Ord.cmp l.entries ≡ newest_guard g.O.Item g.O.Key.Ord.cmp (take l.left l.entries);
}

abbrev pub decreases-loop-left : goal.decreases-loop-left
decreases-loop-left g l = l.left
