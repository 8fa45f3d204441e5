use Rattle.std.proofs.Common.{◌≡◌, drop, map}
use Rattle.std.specs.List.{find}
use Rattle.resource_types.specs.Lookups.{state}
use Rattle.step_scheduler.specs.Passes.{is_next}
use Rattle.step_scheduler.proofs.passes.first_next.Given as goal

-- what is found among the rows that are left
abbrev pub invariant-loop-row : goal.invariant-loop-row
invariant-loop-row g l =
    let next = is_next l.controller l.last (state l.store.entries) in
    find next (map g.R.Keyed.key (drop l.row-index l.row-items)) ≡ find next (map g.R.Keyed.key l.rows)
