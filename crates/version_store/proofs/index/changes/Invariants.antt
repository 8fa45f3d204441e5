use Rattle.std.proofs.Common.{◌≡◌, ◌-◌, ◌++◌, ◌≤◌, length, take, drop}
use Rattle.version_store.specs.Journal.{changes, changes_from}
use Rattle.version_store.proofs.index.changes.Given as goal

abbrev pub invariant-loop-index : goal.invariant-loop-index
invariant-loop-index g l =
    let kind_of = g.O.Item.kind_of in
    let kind_eq = g.O.Kind.PartialEq.eq in
    record {
      told : l.versions.items ++ take (l.most - length l.versions.items) (changes_from kind_of kind_eq l.kind l.index (drop l.index l.entries)) ≡ changes kind_of kind_eq l.entries l.kind l.after l.most;
      within : l.index ≤ length l.entries;
    }
