use Rattle.std.proofs.Common.{◌≡◌, length}
use Rattle.control_rules.specs.Turns.{rounds, pass}
use Rattle.step_scheduler.specs.Touched.{IsUntouched}
use Rattle.step_scheduler.specs.Turns.{IsWorked, StaysCalm}
use Rattle.step_scheduler.proofs.Skipping.{left_of}
use Rattle.step_scheduler.proofs.Visits.{names_at, AreKnown}
use Rattle.step_scheduler.proofs.plane.Plane.pass.Given as goal

-- the rounds that are left lead where the pass does
abbrev pub invariant-visits : goal.invariant-visits
invariant-visits l = record {
  left : rounds (left_of l.controller l.last (names_at l.controller l.fn.self.plane)) l.self.plane ≡ pass l.controller l.fn.self.plane;
  known : AreKnown l.controller l.fn.self.plane l.self.plane;
  works : IsWorked l.fn.self l.self;
  calm : IsUntouched l.fn.self → StaysCalm l.fn.self l.self;
}

-- each visit leaves fewer
abbrev pub decreases-visits : goal.decreases-visits
decreases-visits l = length (left_of l.controller l.last (names_at l.controller l.fn.self.plane))
