use Rattle.http_session.specs.Session.{state_of}
use Rattle.control_cli.specs.Runs.{set_up}
use Rattle.control_cli.proofs.Complete.{complete}
use Rattle.control_cli.proofs.Settings.{not_refused, on_set_up}
use Rattle.control_cli.proofs.Starts.{runs_on}
use Rattle.control_cli.proofs.replay.replay.Goals as goal

pub returns-clause-runs : goal.returns-clause-runs
returns-clause-runs g c = runs_on c.args.options
    (state_of c.args.world.now (g.S.Source.left c.args.source.now) (g.S.Source.faults c.args.source.now) (g.K.Sink.taken c.args.sink.now) (g.K.Sink.faults c.args.sink.now) (g.C.Clock.moments c.args.clock.now))
    (state_of c.session-report.new.handler (g.S.Source.left c.session-report.new.source) (g.S.Source.faults c.session-report.new.source) (g.K.Sink.taken c.session-report.new.sink) (g.K.Sink.faults c.session-report.new.sink) (g.C.Clock.moments c.session-report.new.clock))
    c.session-report.result.answered c.session-report.result.end c.status_of.result c.status_of.ensures.value
    (not_refused c.set_settings.result c.if-is_err.ensures.value c.set_settings.ensures.kept.1)
    (on_set_up c.args.options
    (state_of c.args.world.now (g.S.Source.left c.args.source.now) (g.S.Source.faults c.args.source.now) (g.K.Sink.taken c.args.sink.now) (g.K.Sink.faults c.args.sink.now) (g.C.Clock.moments c.args.clock.now))
    (state_of c.session-report.new.handler (g.S.Source.left c.session-report.new.source) (g.S.Source.faults c.session-report.new.source) (g.K.Sink.taken c.session-report.new.sink) (g.K.Sink.faults c.session-report.new.sink) (g.C.Clock.moments c.session-report.new.clock))
    c.set_settings.new.self c.set_auto.new.self c.set_settings.result c.session-report.result.answered c.session-report.result.end
    c.if-is_err.ensures.value c.set_settings.ensures.ok c.set_auto.ensures c.session-report.ensures.finishes)

pub returns-clause-complete : goal.returns-clause-complete
returns-clause-complete g c takes = complete
    (set_up c.args.options (state_of c.args.world.now (g.S.Source.left c.args.source.now) (g.S.Source.faults c.args.source.now) (g.K.Sink.taken c.args.sink.now) (g.K.Sink.faults c.args.sink.now) (g.C.Clock.moments c.args.clock.now)))
    (state_of c.session-report.new.handler (g.S.Source.left c.session-report.new.source) (g.S.Source.faults c.session-report.new.source) (g.K.Sink.taken c.session-report.new.sink) (g.K.Sink.faults c.session-report.new.sink) (g.C.Clock.moments c.session-report.new.clock))
    c.session-report.result.answered c.session-report.result.end c.status_of.result c.status_of.ensures.value
    (on_set_up c.args.options
    (state_of c.args.world.now (g.S.Source.left c.args.source.now) (g.S.Source.faults c.args.source.now) (g.K.Sink.taken c.args.sink.now) (g.K.Sink.faults c.args.sink.now) (g.C.Clock.moments c.args.clock.now))
    (state_of c.session-report.new.handler (g.S.Source.left c.session-report.new.source) (g.S.Source.faults c.session-report.new.source) (g.K.Sink.taken c.session-report.new.sink) (g.K.Sink.faults c.session-report.new.sink) (g.C.Clock.moments c.session-report.new.clock))
    c.set_settings.new.self c.set_auto.new.self c.set_settings.result c.session-report.result.answered c.session-report.result.end
    c.if-is_err.ensures.value c.set_settings.ensures.ok c.set_auto.ensures c.session-report.ensures.finishes)
