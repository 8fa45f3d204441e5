use Rattle.std.proofs.Common.{◌≡◌, true, sym, ap, subst, ◌∙◌}
use Rattle.std.specs.List.{list_any}
use Rattle.std.specs.Option.{option_copied, is_some}
use Rattle.gateway_pick.specs.Picks.{has_host, rows_for, pick_among, pick_of, PicksEvenly}
use Rattle.gateway_pick.proofs.Picked.{picks_where, picks_evenly, is_some-map}
use Rattle.gateway_pick.proofs.gateway.Gateway.pick.Goals as goal

pub returns-clause-found : goal.returns-clause-found
returns-clause-found c =
    let tables = c.self.inside.tables.items in
    let host = c.args.host.now in
    let rows : c.rows_for.result.now ≡ rows_for host tables = c.rows_for.ensures ∙ ap (rows_for host) c.deref.ensures.value in
    let pick : option_copied c.pick_among.result ≡ pick_of tables host c.args.number = c.pick_among.ensures ∙ ap (λ rs. pick_among rs host c.args.number) rows in
    sym (is_some-map (λ r. r.now) c.pick_among.result) ∙ ap is_some pick ∙ picks_where host tables c.self.invariant.good c.args.number
    ∙ ap (λ v. list_any (has_host host) v.tables) c.self.view_is

pub returns-clause-evenly : goal.returns-clause-evenly
returns-clause-evenly c = λ some first.
    let tables = c.self.inside.tables.items in
    let host = c.args.host.now in
    let rows : c.rows_for.result.now ≡ rows_for host tables = c.rows_for.ensures ∙ ap (rows_for host) c.deref.ensures.value in
    let pick : option_copied c.pick_among.result ≡ pick_of tables host c.args.number = c.pick_among.ensures ∙ ap (λ rs. pick_among rs host c.args.number) rows in
    let there : list_any (has_host host) tables ≡ true =
    sym (sym (is_some-map (λ r. r.now) c.pick_among.result) ∙ ap is_some pick ∙ picks_where host tables c.self.invariant.good c.args.number) ∙ some in
    subst (λ v. PicksEvenly v.tables host first) c.self.view_is (picks_evenly host tables c.self.invariant.good there first)
