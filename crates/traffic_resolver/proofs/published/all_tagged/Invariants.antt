use Rattle.std.specs.List.{zip}
use Rattle.control_rules.specs.Resolution.{tagged_rows}
use Rattle.traffic_resolver.proofs.Appended.{IsAppended}
use Rattle.traffic_resolver.proofs.published.all_tagged.Given as goal

abbrev pub invariant-loop-place : goal.invariant-loop-place
invariant-loop-place l = IsAppended (tagged_rows l.route l.domain) l.fn.own (zip l.targets l.found) l.place l.rows
