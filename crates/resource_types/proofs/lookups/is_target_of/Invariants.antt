use Rattle.std.proofs.Common.{◌≡◌, drop}
use Rattle.std.specs.List.{list_any}
use Rattle.resource_types.specs.Lookups.{is_naming, of_kind, state}
use Rattle.resource_types.proofs.lookups.is_target_of.Given as goal

abbrev pub invariant-loop-place : goal.invariant-loop-place
invariant-loop-place l = list_any (is_naming l.kind l.name) (drop l.place l.objects) ≡ list_any (is_naming l.kind l.name) (of_kind l.kind (state l.store.entries))
