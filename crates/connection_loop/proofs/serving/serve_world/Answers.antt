use Rattle.connection_loop.specs.Sessions.{timed}
use Rattle.connection_loop.specs.Serves.{serving}
use Rattle.connection_loop.proofs.Starts.{is_set_up, served}
use Rattle.connection_loop.proofs.serving.serve_world.Goals as goal

pub returns-in-Ready-clause-leaves : goal.returns-in-Ready-clause-leaves
returns-in-Ready-clause-leaves g c =
    let old = serving (timed c.args.world.now (g.C.Clock.moments c.args.clock.now)) (g.G.Gate.coming c.args.gate.now) (g.G.Gate.back c.args.gate.now) (g.G.Gate.listening_at c.args.gate.now) (g.G.Gate.listens c.args.gate.now) (g.G.Gate.faults c.args.gate.now) in
    served c.args.options old
    (serving (timed c.set_auto.new.self (g.C.Clock.moments c.args.clock.now)) (g.G.Gate.coming c.listen.new.self) (g.G.Gate.back c.listen.new.self) (g.G.Gate.listening_at c.listen.new.self) (g.G.Gate.listens c.listen.new.self) (g.G.Gate.faults c.listen.new.self))
    _ _ _ c.serve_all.result c.set_settings.result c.if-is_err.ensures.value c.set_settings.ensures.kept.1
    (is_set_up c.args.options old c.set_settings.new.self c.set_auto.new.self c.set_settings.result c.if-is_err.ensures.value c.set_settings.ensures.ok c.set_auto.ensures)
    c.in-Ready.ensures.coming c.in-Ready.ensures.back c.in-Ready.ensures.listens.1 c.serve_all.ensures.address c.serve_all.ensures.listens c.in-Ready.ensures.cause.later c.serve_all.ensures.runs
