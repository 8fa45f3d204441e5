use Rattle.std.proofs.Common.{◌≡◌, ◌≤◌, ◌-◌}
use Rattle.step_scheduler.specs.Counts.{more_by}
use Rattle.step_scheduler.specs.Touched.{IsUntouched}
use Rattle.step_scheduler.specs.Turns.{IsSettling, IsCalmStart}
use Rattle.step_scheduler.proofs.Settling.{most}
use Rattle.step_scheduler.proofs.plane.Plane.settle.Given as goal

abbrev pub invariant-turns : goal.invariant-turns
invariant-turns l = record {
  settling : IsSettling l.fn.self.plane l.self.plane l.turns l.version;
  looks : l.fn.self.looks ≤ l.self.looks;
  count : l.self.turns ≡ more_by l.turns l.fn.self.turns;
  calm : IsUntouched l.fn.self → IsCalmStart l.fn.self l.self l.turns;
}

abbrev pub decreases-turns : goal.decreases-turns
decreases-turns l = most l.fn.self.plane - l.turns
