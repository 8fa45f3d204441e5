use Rattle.std.proofs.Common.{◌≡◌, ◌≤◌}
use Rattle.control_rules.specs.Steps.{automatic_steps}
use Rattle.api_server.proofs.world.WorldHandler.after.Given as goal

abbrev pub invariant-loop : goal.invariant-loop
invariant-loop l = record {
  auto : l.self-inside.auto ≡ l.fn.self.auto;
  marks : l.self-inside.marks ≡ l.fn.self.marks;
  plane : l.self-inside.plane.plane ≡ automatic_steps l.counter l.fn.self.plane;
  end : l.end ≡ l.fn.self.auto;
  within : l.counter ≤ l.end;
}
