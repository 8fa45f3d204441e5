use Rattle.std.proofs.Common.{◌≡◌, ◌≤◌, None, drop}
use Rattle.std.specs.Option.{option_copied}
use Rattle.resource_types.specs.Objects.{has_been_ready}
use Rattle.resource_types.specs.Lookups.{state}
use Rattle.control_rules.specs.Collection.{is_candidate}
use Rattle.revision_gc.specs.Sweeps.{count_from, first_object, is_stale_candidate}
use Rattle.revision_gc.proofs.collector.swept.Given as goal

abbrev pub invariant-loop-place : goal.invariant-loop-place
invariant-loop-place l = record {
  within : l.count ≤ l.place;
  count : count_from (is_candidate has_been_ready (state l.store.entries) l.configuration) l.count (drop l.place l.revisions)
      ≡ count_from (is_candidate has_been_ready (state l.store.entries) l.configuration) 0 l.revisions;
  stale : first_object (is_stale_candidate l.settings l.moment (state l.store.entries) l.configuration) (option_copied l.stale) (drop l.place l.revisions)
      ≡ first_object (is_stale_candidate l.settings l.moment (state l.store.entries) l.configuration) None l.revisions;
  first : first_object (is_candidate has_been_ready (state l.store.entries) l.configuration) (option_copied l.first) (drop l.place l.revisions)
      ≡ first_object (is_candidate has_been_ready (state l.store.entries) l.configuration) None l.revisions;
}
