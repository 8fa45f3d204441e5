use Rattle.std.proofs.Common.{sym, subst}
use Rattle.gateway_command.specs.Leaves.{ends_of, Leaves}
use Rattle.gateway_command.proofs.Complete.{complete}
use Rattle.gateway_command.proofs.Leaving.{none_written, sent_leaves, unread_leaves}
use Rattle.gateway_command.proofs.command.pick.Goals as goal

pub returns-in-Ok-clause-leaves : goal.returns-in-Ok-clause-leaves
returns-in-Ok-clause-leaves g c =
    sent_leaves c.args.host.now c.args.first c.args.count _ _ c.in-Ok.gateway c.write_picks.result c.in-Ok.ensures.reads c.write_picks.ensures.evenly c.write_picks.ensures.sent

pub returns-in-Ok-clause-complete : goal.returns-in-Ok-clause-complete
returns-in-Ok-clause-complete g c =
    complete c.args.host.now c.args.first c.args.count _ _ c.write_picks.result
    (sent_leaves c.args.host.now c.args.first c.args.count _ _ c.in-Ok.gateway c.write_picks.result c.in-Ok.ensures.reads c.write_picks.ensures.evenly c.write_picks.ensures.sent)

pub returns-in-Err-clause-complete : goal.returns-in-Err-clause-complete
returns-in-Err-clause-complete g c =
    let old = ends_of (g.S.Source.left c.args.source.now) (g.S.Source.faults c.args.source.now) (g.K.Sink.taken c.args.sink.now) (g.K.Sink.faults c.args.sink.now) in
    let new = ends_of (g.S.Source.left c.follow_all.new.source) (g.S.Source.faults c.follow_all.new.source) (g.K.Sink.taken c.args.sink.now) (g.K.Sink.faults c.args.sink.now) in
    complete c.args.host.now c.args.first c.args.count old new c.end_of.result
    (subst (λ e. Leaves c.args.host.now c.args.first c.args.count old new e) (sym c.end_of.ensures)
    (unread_leaves c.args.host.now c.args.first c.args.count old new c.in-Err.unread c.in-Err.ensures.reads (none_written (g.K.Sink.taken c.args.sink.now))))
