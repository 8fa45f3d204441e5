use Rattle.std.proofs.Common.{◌≡◌, drop}
use Rattle.gateway_pick.specs.Polls.{changes_in}
use Rattle.gateway_pick.proofs.Lists.{with_front}
use Rattle.gateway_pick.proofs.polls.changes_in.Given as goal

abbrev pub invariant-loop-index : goal.invariant-loop-index
invariant-loop-index l = with_front l.changes (changes_in (drop l.index l.jsons)) ≡ changes_in l.jsons
