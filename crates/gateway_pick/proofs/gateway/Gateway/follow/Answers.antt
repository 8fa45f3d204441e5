use Rattle.std.proofs.Common.{◌≡◌, ap, ◌∙◌}
use Rattle.std.proofs.lemmas.Result.{err_from_is_err_and}
use Rattle.gateway_pick.specs.Tables.{all_changed}
use Rattle.gateway_pick.proofs.Taken.{follow_refused, follow_ok, follow_kept}
use Rattle.gateway_pick.proofs.Followed.{followed_knows}
use Rattle.gateway_pick.proofs.gateway.Gateway.follow.Goals as goal

pub returns-in_err-poll-clause-refused : goal.returns-in_err-poll-clause-refused
returns-in_err-poll-clause-refused c =
    let p = err_from_is_err_and c.from_residual.result c.from_residual.ensures.1 in
    rw (p.1, p.2) (follow_refused c.args.body.now c.args.self.now c.self.inside.tables.items c.self.inside.version c.self.view_is c.in_err-poll.field-0.0 c.in_err-poll.ensures.told)

pub invariant_of-self-2 : goal.invariant_of-self-2
invariant_of-self-2 c =
    let tables = c.self.inside.tables.items in
    let poll = c.in_ok-poll.poll in
    let same : c.make_changes.new.tables.items ≡ all_changed poll.changes tables =
    c.make_changes.ensures.tables ∙ ap (λ cs. all_changed cs c.reserve.new.self.items) c.into_vec.ensures ∙ ap (all_changed poll.changes) c.in_ok-reserve.ensures.items in
    follow_kept c.args.body.now c.args.self.now tables c.self.inside.version c.self.view_is poll.changes poll.version c.make_changes.new.tables.items c.in_ok-poll.ensures.json c.in_ok-poll.ensures.told same c.self.invariant

pub returns-clause-ok : goal.returns-clause-ok
returns-clause-ok c =
    let tables = c.self.inside.tables.items in
    let poll = c.in_ok-poll.poll in
    let same : c.make_changes.new.tables.items ≡ all_changed poll.changes tables =
    c.make_changes.ensures.tables ∙ ap (λ cs. all_changed cs c.reserve.new.self.items) c.into_vec.ensures ∙ ap (all_changed poll.changes) c.in_ok-reserve.ensures.items in
    follow_ok c.args.body.now c.args.self.now tables c.self.inside.version c.self.view_is poll.changes poll.version c.make_changes.new.tables.items c.in_ok-poll.ensures.json c.in_ok-poll.ensures.told same

pub returns-clause-knows : goal.returns-clause-knows
returns-clause-knows c = λ journal whole knows poll_is.
    let tables = c.self.inside.tables.items in
    let poll = c.in_ok-poll.poll in
    let same : c.make_changes.new.tables.items ≡ all_changed poll.changes tables =
    c.make_changes.ensures.tables ∙ ap (λ cs. all_changed cs c.reserve.new.self.items) c.into_vec.ensures ∙ ap (all_changed poll.changes) c.in_ok-reserve.ensures.items in
    followed_knows journal c.args.body.now c.args.self.now (record { tables = c.make_changes.new.tables.items; version = poll.version }) whole knows poll_is
    (follow_ok c.args.body.now c.args.self.now tables c.self.inside.version c.self.view_is poll.changes poll.version c.make_changes.new.tables.items c.in_ok-poll.ensures.json c.in_ok-poll.ensures.told same)
