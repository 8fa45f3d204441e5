use Rattle.std.proofs.Common.{◌≡◌, drop}
use Rattle.gateway_pick.specs.Rules.{all_agree}
use Rattle.gateway_pick.proofs.rules.all_agree.Given as goal

abbrev pub invariant-loop-place : goal.invariant-loop-place
invariant-loop-place l = all_agree (drop l.place l.rows) ≡ all_agree l.rows
