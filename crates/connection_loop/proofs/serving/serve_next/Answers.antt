use Rattle.serve_io.specs.Gate.{ends_of}
use Rattle.http_session.specs.Session.{state_of}
use Rattle.connection_loop.specs.Sessions.{timed}
use Rattle.connection_loop.specs.Serves.{serving}
use Rattle.connection_loop.proofs.Sessions.{leaves}
use Rattle.connection_loop.proofs.Gates.{one_served}
use Rattle.connection_loop.proofs.serving.serve_next.Goals as goal

pub returns-in-Connection-clause-takes : goal.returns-in-Connection-clause-takes
returns-in-Connection-clause-takes g c = one_served _
    (serving (timed c.args.world.now (g.C.Clock.moments c.args.clock.now)) (g.G.Gate.coming c.next.new.self) (g.G.Gate.back c.next.new.self) (g.G.Gate.listening_at c.next.new.self) (g.G.Gate.listens c.next.new.self) (g.G.Gate.faults c.next.new.self))
    _
    (ends_of g.G.In.Source.left g.G.In.Source.faults g.G.Out.Sink.taken g.G.Out.Sink.faults c.in-Connection.input c.in-Connection.output)
    (ends_of g.G.In.Source.left g.G.In.Source.faults g.G.Out.Sink.taken g.G.Out.Sink.faults c.session-report.new.source c.session-report.new.sink)
    c.session-report.result
    (leaves
    (state_of c.args.world.now (g.G.In.Source.left c.in-Connection.input) (g.G.In.Source.faults c.in-Connection.input) (g.G.Out.Sink.taken c.in-Connection.output) (g.G.Out.Sink.faults c.in-Connection.output) (g.C.Clock.moments c.args.clock.now))
    (state_of c.session-report.new.handler (g.G.In.Source.left c.session-report.new.source) (g.G.In.Source.faults c.session-report.new.source) (g.G.Out.Sink.taken c.session-report.new.sink) (g.G.Out.Sink.faults c.session-report.new.sink) (g.C.Clock.moments c.session-report.new.clock))
    c.session-report.result.answered c.session-report.result.end c.session-report.ensures.finishes)
    c.session-report.ensures.calm c.session-report.ensures.calm_sink
    c.in-Connection.ensures.gives c.done.ensures.coming c.in-Connection.ensures.back c.done.ensures.back c.in-Connection.ensures.cause.later c.done.ensures.count
