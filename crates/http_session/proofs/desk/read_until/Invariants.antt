use Rattle.std.proofs.Common.{◌≡◌, ◌-◌, ◌≤◌, length}
use Rattle.http_session.specs.Desk.{Takes}
use Rattle.http_session.proofs.desk.read_until.Given as goal

abbrev pub invariant-loop-window : goal.invariant-loop-window
invariant-loop-window g l = record {
  most : l.total ≤ 4294967295;
  calm : g.S.Source.faults l.source ≡ g.S.Source.faults l.initial.source;
  takes :
      Takes (g.S.Source.left l.initial.source) (g.S.Source.left l.source) (g.S.Source.faults l.initial.source) (g.S.Source.faults l.source)
      l.initial.window l.window l.initial.total l.total;
}

abbrev pub decreases-loop-window : goal.decreases-loop-window
decreases-loop-window g l = l.wanted - length l.window
