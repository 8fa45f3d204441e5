use Rattle.std.proofs.Common.{◌≡◌, drop}
use Rattle.gateway_pick.specs.Polls.{rows_in}
use Rattle.gateway_pick.proofs.Lists.{with_front}
use Rattle.gateway_pick.proofs.rows.rows_in.Given as goal

abbrev pub invariant-loop-index : goal.invariant-loop-index
invariant-loop-index l = with_front l.rows (rows_in (drop l.index l.jsons)) ≡ rows_in l.jsons
