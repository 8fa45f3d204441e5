use Rattle.std.proofs.Common.{[]}
use Rattle.std.specs.List.{zip}
use Rattle.control_rules.specs.Resolution.{assigned_targets}
use Rattle.traffic_resolver.proofs.Appended.{IsAppended}
use Rattle.traffic_resolver.proofs.published.all_published.Given as goal

abbrev pub invariant-loop-place : goal.invariant-loop-place
invariant-loop-place l = IsAppended (assigned_targets l.route l.domain) [] (zip l.targets l.found) l.place l.published
