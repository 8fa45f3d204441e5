use Rattle.std.proofs.Common.{◌≡◌, ◌≤◌, true}
use Rattle.connection_loop.specs.Sessions.{timed}
use Rattle.connection_loop.specs.Serves.{serving, line_sink}
use Rattle.connection_loop.specs.Turns.{Progress}
use Rattle.connection_loop.proofs.serving.serve_all.Given as goal

abbrev pub invariant-loop-served : goal.invariant-loop-served
invariant-loop-served g l = record {
  listens : g.G.Gate.listens l.gate ≡ true;
  address : g.G.Gate.listening_at l.gate ≡ g.G.Gate.listening_at l.initial.gate;
  calm : g.K.Sink.faults l.sink ≡ g.K.Sink.faults l.initial.sink;
  within : l.served ≤ l.sessions;
  progress : Progress l.served
      (serving (timed l.initial.world (g.C.Clock.moments l.initial.clock)) (g.G.Gate.coming l.initial.gate) (g.G.Gate.back l.initial.gate) (g.G.Gate.listening_at l.initial.gate) (g.G.Gate.listens l.initial.gate) (g.G.Gate.faults l.initial.gate))
      (serving (timed l.world (g.C.Clock.moments l.clock)) (g.G.Gate.coming l.gate) (g.G.Gate.back l.gate) (g.G.Gate.listening_at l.gate) (g.G.Gate.listens l.gate) (g.G.Gate.faults l.gate))
      (line_sink (g.K.Sink.taken l.initial.sink) (g.K.Sink.faults l.initial.sink)) (line_sink (g.K.Sink.taken l.sink) (g.K.Sink.faults l.sink));
}
