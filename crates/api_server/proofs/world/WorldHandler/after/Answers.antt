use Rattle.std.proofs.Common.{◌≡◌, ℕ, ◌+◌, ◌-◌, ap, ◌∙◌, arith}
use Rattle.api_server.specs.Ask.{WorldView}
use Rattle.api_server.proofs.Steps.{no_steps, one_step_more, steps_end, stepped_is}
use Rattle.api_server.proofs.world.WorldHandler.after.Goals as goal

pub loop-init : goal.loop-init
loop-init c = record {
  auto = ap (λ (w : WorldView). w.auto) c.self.view_is;
  marks = ap (λ (w : WorldView). w.marks) c.self.view_is;
  plane = ap (λ (w : WorldView). w.plane) c.self.view_is ∙ no_steps c.args.self.now.plane;
  end = ap (λ (w : WorldView). w.auto) c.self.view_is;
  within = omega arith;
}

pub loop-preserved : goal.loop-preserved
loop-preserved c = record {
  auto = c.loop.invariant.auto;
  marks = c.loop.invariant.marks;
  plane = one_step_more c.loop.counter c.args.self.now.plane c.loop.self-inside.plane.plane c.cursor_step.new.self.plane c.loop.invariant.plane
      c.in_ok-cursor_step.ensures.ok.plane_is;
  end = c.loop.invariant.end;
  within = omega (arith, c.loop-test.true);
}

pub returns-in-Empty-clause-done : goal.returns-in-Empty-clause-done
returns-in-Empty-clause-done c =
    let left : c.args.self.now.auto ≡ c.loop.counter + (c.args.self.now.auto - c.loop.counter) = omega (arith, c.loop.invariant.end, c.loop.invariant.within) in
    stepped_is c.args.self.now c.args.self.now.auto c.loop.self-inside.auto c.cursor_step.new.self.plane c.loop.self-inside.marks
    (steps_end c.loop.counter (c.args.self.now.auto - c.loop.counter) c.args.self.now.auto c.args.self.now.plane c.loop.self-inside.plane.plane c.cursor_step.new.self.plane
    c.loop.invariant.plane c.in_ok-cursor_step.ensures.ok.plane_is (c.in_ok-cursor_step.ensures.empty.0 c.in-Empty.is) left)
    c.loop.invariant.auto c.loop.invariant.marks
