use Rattle.std.proofs.Common.{◌≡◌, drop, find}
use Rattle.gateway_pick.specs.Picks.{has_host}
use Rattle.gateway_pick.proofs.picks.rows_for.Given as goal

abbrev pub invariant-loop-table : goal.invariant-loop-table
invariant-loop-table l = find (has_host l.host) (drop l.table-index l.tables) ≡ find (has_host l.host) l.tables
