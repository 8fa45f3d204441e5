use Rattle.std.proofs.Common.{◌≡◌, drop}
use Rattle.version_store.specs.Journal.{last_from}
use Rattle.version_store.proofs.plain.last_version.Given as goal

abbrev pub invariant-loop-entry : goal.invariant-loop-entry
invariant-loop-entry g l = record {
  rest : last_from g.O.Key.Ord.cmp l.key l.version l.last (drop l.entry-index l.entries) ≡ last_from g.O.Key.Ord.cmp l.key 0 0 l.entries;
  count : l.version ≡ l.entry-index;
}
