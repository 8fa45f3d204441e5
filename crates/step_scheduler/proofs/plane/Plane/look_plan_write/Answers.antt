use Rattle.std.proofs.Common.{sym, ap, ◌∙◌}
use Rattle.control_rules.specs.Slots.{is_key, present}
use Rattle.control_rules.specs.Turns.{round}
use Rattle.step_scheduler.proofs.Chains.{then_worked, idle_works, step_works, rests, round_is, again_steps, again_rests, taken_still}
use Rattle.step_scheduler.proofs.Untouched.{finds_nothing}
use Rattle.step_scheduler.proofs.plane.Plane.look_plan_write.Goals as goal

pub returns-in_err-take_in-clause-works : goal.returns-in_err-take_in-clause-works
returns-in_err-take_in-clause-works c = rests _ _ c.take_in.ensures.plane c.take_in.ensures.looks c.take_in.ensures.turns

pub returns-in_err-step-clause-works : goal.returns-in_err-step-clause-works
returns-in_err-step-clause-works c =
    then_worked
    (then_worked (rests c.args.self.now c.take_in.new.self c.take_in.ensures.plane c.take_in.ensures.looks c.take_in.ensures.turns)
    (idle_works c.take_in.new.self c.idle.new.self c.args.key.now c.idle.ensures.plane c.idle.ensures.looks c.idle.ensures.turns))
    (rests c.idle.new.self c.step.new.self c.in_err-step.ensures.err c.in_err-step.ensures.looks c.in_err-step.ensures.turns)

pub returns-in_err-step_again-clause-works : goal.returns-in_err-step_again-clause-works
returns-in_err-step_again-clause-works c =
    then_worked
    (then_worked
    (then_worked (rests c.args.self.now c.take_in.new.self c.take_in.ensures.plane c.take_in.ensures.looks c.take_in.ensures.turns)
    (idle_works c.take_in.new.self c.idle.new.self c.args.key.now c.idle.ensures.plane c.idle.ensures.looks c.idle.ensures.turns))
    (step_works c.idle.new.self c.step.new.self c.args.key.now _ c.in_ok-step.ensures.ok.plane_is c.in_ok-step.ensures.looks c.in_ok-step.ensures.turns))
    c.step_again.ensures.works

pub unmark-requires-clause-taken : goal.unmark-requires-clause-taken
unmark-requires-clause-taken c =
    taken_still c.take_in.new.self c.step_again.new.self
    (finds_nothing c.take_in.new.self.plane c.idle.new.self.plane c.step.new.self.plane c.step_again.new.self.plane c.args.key.now (ap (λ w. is_key c.args.key.now (present w)) c.take_in.ensures.plane ∙ c.requires) c.idle.ensures.plane c.in_ok-step.ensures.ok.plane_is
    c.in_ok-step_again.ensures.ok (sym c.is_held.ensures ∙ c.if-is_held.false)).journal (c.step_again.ensures.marks ∙ c.step.ensures.marks ∙ c.idle.ensures.marks) c.in_ok-take_in.ensures.taken

pub unmark-requires-clause-nothing : goal.unmark-requires-clause-nothing
unmark-requires-clause-nothing c =
    (finds_nothing c.take_in.new.self.plane c.idle.new.self.plane c.step.new.self.plane c.step_again.new.self.plane c.args.key.now (ap (λ w. is_key c.args.key.now (present w)) c.take_in.ensures.plane ∙ c.requires) c.idle.ensures.plane c.in_ok-step.ensures.ok.plane_is
    c.in_ok-step_again.ensures.ok (sym c.is_held.ensures ∙ c.if-is_held.false)).due

pub returns-in_err-step-2-clause-works : goal.returns-in_err-step-2-clause-works
returns-in_err-step-2-clause-works c =
    then_worked
    (then_worked
    (then_worked
    (then_worked (rests c.args.self.now c.take_in.new.self c.take_in.ensures.plane c.take_in.ensures.looks c.take_in.ensures.turns)
    (idle_works c.take_in.new.self c.idle.new.self c.args.key.now c.idle.ensures.plane c.idle.ensures.looks c.idle.ensures.turns))
    (step_works c.idle.new.self c.step.new.self c.args.key.now _ c.in_ok-step.ensures.ok.plane_is c.in_ok-step.ensures.looks c.in_ok-step.ensures.turns))
    c.step_again.ensures.works)
    (rests c.step_again.new.self c.step-then-is_held.new.self c.in_err-step-2.ensures.err c.in_err-step-2.ensures.looks c.in_err-step-2.ensures.turns)

pub returns-in_ok-step-2-clause-works : goal.returns-in_ok-step-2-clause-works
returns-in_ok-step-2-clause-works c =
    then_worked
    (then_worked
    (then_worked
    (then_worked (rests c.args.self.now c.take_in.new.self c.take_in.ensures.plane c.take_in.ensures.looks c.take_in.ensures.turns)
    (idle_works c.take_in.new.self c.idle.new.self c.args.key.now c.idle.ensures.plane c.idle.ensures.looks c.idle.ensures.turns))
    (step_works c.idle.new.self c.step.new.self c.args.key.now _ c.in_ok-step.ensures.ok.plane_is c.in_ok-step.ensures.looks c.in_ok-step.ensures.turns))
    c.step_again.ensures.works)
    (step_works c.step_again.new.self c.step-then-is_held.new.self c.args.key.now _ c.in_ok-step-2.ensures.ok.plane_is c.in_ok-step-2.ensures.looks c.in_ok-step-2.ensures.turns)

pub returns-else-is_held-clause-works : goal.returns-else-is_held-clause-works
returns-else-is_held-clause-works c =
    then_worked
    (then_worked
    (then_worked
    (then_worked (rests c.args.self.now c.take_in.new.self c.take_in.ensures.plane c.take_in.ensures.looks c.take_in.ensures.turns)
    (idle_works c.take_in.new.self c.idle.new.self c.args.key.now c.idle.ensures.plane c.idle.ensures.looks c.idle.ensures.turns))
    (step_works c.idle.new.self c.step.new.self c.args.key.now _ c.in_ok-step.ensures.ok.plane_is c.in_ok-step.ensures.looks c.in_ok-step.ensures.turns))
    c.step_again.ensures.works)
    (rests c.step_again.new.self c.unmark.new.self c.unmark.ensures.plane c.unmark.ensures.looks c.unmark.ensures.turns)

pub returns-in_ok-step-2-clause-ok : goal.returns-in_ok-step-2-clause-ok
returns-in_ok-step-2-clause-ok c =
    round_is c.take_in.new.self.plane c.idle.new.self.plane c.step.new.self.plane c.step_again.new.self.plane _ c.args.key.now (ap (λ w. is_key c.args.key.now (present w)) c.take_in.ensures.plane ∙ c.requires) c.idle.ensures.plane c.in_ok-step.ensures.ok.plane_is
    c.in_ok-step_again.ensures.ok (again_steps _ _ c.args.key.now (sym c.is_held.ensures ∙ c.if-is_held.true) c.in_ok-step-2.ensures.ok.plane_is)
    ∙ ap (round c.args.key.now) c.take_in.ensures.plane

pub returns-else-is_held-clause-ok : goal.returns-else-is_held-clause-ok
returns-else-is_held-clause-ok c =
    round_is c.take_in.new.self.plane c.idle.new.self.plane c.step.new.self.plane c.step_again.new.self.plane _ c.args.key.now (ap (λ w. is_key c.args.key.now (present w)) c.take_in.ensures.plane ∙ c.requires) c.idle.ensures.plane c.in_ok-step.ensures.ok.plane_is
    c.in_ok-step_again.ensures.ok (c.unmark.ensures.plane ∙ again_rests _ c.args.key.now (sym c.is_held.ensures ∙ c.if-is_held.false))
    ∙ ap (round c.args.key.now) c.take_in.ensures.plane
