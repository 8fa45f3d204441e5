use Rattle.std.specs.List.{zip}
use Rattle.traffic_resolver.proofs.ShareSums.{AreShared}
use Rattle.traffic_resolver.proofs.shares.shares.Given as goal

abbrev pub invariant-loop-place : goal.invariant-loop-place
invariant-loop-place l = AreShared l.host (zip l.targets l.found) l.place l.rows.items
