use Rattle.std.proofs.Common.{◌≡◌, drop, filter}
use Rattle.gateway_pick.specs.Picks.{is_for, row_at}
use Rattle.gateway_pick.proofs.picks.row_at.Given as goal

abbrev pub invariant-loop-row : goal.invariant-loop-row
invariant-loop-row l = row_at l.rest (filter (is_for l.host) (drop l.row-index l.rows)) ≡ row_at l.place (filter (is_for l.host) l.rows)
