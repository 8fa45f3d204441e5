use Rattle.std.proofs.Common.{◌≡◌, ◌+◌, sum_by, take}
use Rattle.gateway_pick.specs.Rules.{percent_without_tag}
use Rattle.gateway_pick.proofs.rules.sum_to_whole.Given as goal

abbrev pub invariant-loop-row : goal.invariant-loop-row
invariant-loop-row l = sum_by percent_without_tag (take l.row-index l.rows) + l.rest ≡ 100
