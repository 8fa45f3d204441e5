use Rattle.http_session.specs.Session.{state_of}
use Rattle.control_cli.proofs.Exporting.{export_runs}
use Rattle.control_cli.proofs.export.export_journal.Goals as goal

pub returns-clause-leaves : goal.returns-clause-leaves
returns-clause-leaves g c = export_runs
    (state_of c.args.world.now (g.S.Source.left c.args.source.now) (g.S.Source.faults c.args.source.now) (g.K.Sink.taken c.args.sink.now) (g.K.Sink.faults c.args.sink.now) (g.C.Clock.moments c.args.clock.now))
    (state_of c.export_requests.new.world (g.S.Source.left c.export_requests.new.source) (g.S.Source.faults c.export_requests.new.source) (g.K.Sink.taken c.export_requests.new.sink) (g.K.Sink.faults c.export_requests.new.sink) (g.C.Clock.moments c.export_requests.new.clock))
    c.export_requests.result c.status_of_export.result c.status_of_export.ensures.value c.export_requests.ensures.leaves
