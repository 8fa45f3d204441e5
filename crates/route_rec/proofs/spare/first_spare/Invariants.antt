use Rattle.std.proofs.Common.{◌≡◌, drop}
use Rattle.std.specs.List.{find}
use Rattle.resource_types.specs.Lookups.{state}
use Rattle.control_rules.specs.NextRoute.{first_spare, is_spare}
use Rattle.route_rec.proofs.spare.first_spare.Given as goal

abbrev pub invariant-loop-place : goal.invariant-loop-place
invariant-loop-place l = first_spare (state l.store.entries) l.route ≡ find (is_spare (state l.store.entries) l.route) (drop l.place l.revisions)
