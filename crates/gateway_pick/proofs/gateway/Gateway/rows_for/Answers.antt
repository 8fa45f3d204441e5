use Rattle.std.proofs.Common.{◌≡◌, true, sym, subst, ap, ◌∙◌}
use Rattle.std.specs.List.{list_any}
use Rattle.gateway_pick.specs.Picks.{has_host, PicksEvenly}
use Rattle.gateway_pick.proofs.Picked.{picks_evenly}
use Rattle.gateway_pick.proofs.gateway.Gateway.rows_for.Goals as goal

pub returns-clause-evenly : goal.returns-clause-evenly
returns-clause-evenly c = λ some first.
    let tables = c.self.inside.tables.items in
    let host = c.args.host.now in
    let there : list_any (has_host host) tables ≡ true = ap (λ v. list_any (has_host host) v.tables) c.self.view_is ∙ some in
    subst (λ v. PicksEvenly v.tables host first) c.self.view_is (picks_evenly host tables c.self.invariant.good there first)
