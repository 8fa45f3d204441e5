use Rattle.std.proofs.Common.{◌≡◌, drop}
use Rattle.std.specs.Prelude.{◌&&◌}
use Rattle.std.specs.Option.{option_copied}
use Rattle.resource_types.specs.Objects.{has_been_ready}
use Rattle.resource_types.specs.Lookups.{latest_from, is_owned_by, latest_ready, state}
use Rattle.resource_types.proofs.lookups.newest_ready.Given as goal

abbrev pub invariant-loop-place : goal.invariant-loop-place
invariant-loop-place l = latest_from (λ r. is_owned_by l.configuration r && has_been_ready r) (option_copied l.best) (drop l.place l.revisions) ≡ latest_ready (state l.store.entries) l.configuration
