use Rattle.std.proofs.Common.{◌≡◌, drop}
use Rattle.gateway_pick.proofs.Searching.{behind, place_in}
use Rattle.gateway_pick.proofs.search.search.Given as goal

abbrev pub invariant-loop-place : goal.invariant-loop-place
invariant-loop-place l = behind l.place (place_in l.name (drop l.place l.tables)) ≡ place_in l.name l.tables
