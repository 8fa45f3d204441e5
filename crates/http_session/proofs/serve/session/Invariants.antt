use Rattle.std.proofs.Common.{◌≡◌, ◌≤◌, ◌+◌, ◌*◌, ◌-◌, length, true}
use Rattle.http_session.specs.Desk.{Progress}
use Rattle.http_session.specs.Pieces.{AsksInPieces, WorksInPieces, with_sink}
use Rattle.http_session.specs.Session.{state_of}
use Rattle.http_session.specs.declared.report.ClockMode.TheVariants.{Leave}
use Rattle.http_session.proofs.serve.session.Given as goal

abbrev pub invariant-loop-end : goal.invariant-loop-end
invariant-loop-end g l = record {
  most : l.desk.total ≤ 4294967295;
  few : l.desk.answered + length l.desk.window ≤ l.desk.total;
  calm : g.S.Source.faults l.source ≡ g.S.Source.faults l.initial.source;
  calm_sink : g.K.Sink.faults l.sink ≡ g.K.Sink.faults l.initial.sink;
  clock : l.mode ≡ Leave → l.clock ≡ l.initial.clock;
  progress :
      Progress g.H.Handler.asks g.H.Handler.after_gives l.mode
      (state_of l.initial.handler (g.S.Source.left l.initial.source) (g.S.Source.faults l.initial.source) (g.K.Sink.taken l.initial.sink) (g.K.Sink.faults l.initial.sink) (g.C.Clock.moments l.initial.clock))
      (state_of l.handler (g.S.Source.left l.source) (g.S.Source.faults l.source) (g.K.Sink.taken l.sink) (g.K.Sink.faults l.sink) (g.C.Clock.moments l.clock))
      l.desk.window l.desk.total l.desk.answered;
  pieces :
      Progress (AsksInPieces g.H.Handler.asks g.K.Sink.writes) (WorksInPieces g.H.Handler.after_gives) l.mode
      (with_sink (state_of l.initial.handler (g.S.Source.left l.initial.source) (g.S.Source.faults l.initial.source) (g.K.Sink.taken l.initial.sink) (g.K.Sink.faults l.initial.sink) (g.C.Clock.moments l.initial.clock)) l.initial.sink true)
      (with_sink (state_of l.handler (g.S.Source.left l.source) (g.S.Source.faults l.source) (g.K.Sink.taken l.sink) (g.K.Sink.faults l.sink) (g.C.Clock.moments l.clock)) l.sink true)
      l.desk.window l.desk.total l.desk.answered;
}

abbrev pub decreases-loop-end : goal.decreases-loop-end
decreases-loop-end g l = 2 * (4294967295 - l.desk.total) + length l.desk.window
