use Rattle.std.proofs.Common.{sym, ◌∙◌, refl}
use Rattle.resource_types.proofs.Exact.{left}
use Rattle.step_scheduler.proofs.Chains.{idle_works, rests, round_off, calm_same, calm_idles}
use Rattle.step_scheduler.proofs.Untouched.{round_idles}
use Rattle.step_scheduler.proofs.plane.Plane.round.Goals as goal

pub look_plan_write-requires : goal.look_plan_write-requires
look_plan_write-requires c = left _ _ (sym c.touched.ensures.touched ∙ c.if-touched.true)

pub returns-in_ok-look_plan_write-clause-calm : goal.returns-in_ok-look_plan_write-clause-calm
returns-in_ok-look_plan_write-clause-calm c = λ off. absurd (let e = sym c.if-touched.true ∙ c.touched.ensures.touched ∙ off in cc)

pub returns-in_err-look_plan_write-clause-calm : goal.returns-in_err-look_plan_write-clause-calm
returns-in_err-look_plan_write-clause-calm c = λ off. absurd (let e = sym c.if-touched.true ∙ c.touched.ensures.touched ∙ off in cc)

pub returns-then-is_key-clause-ok : goal.returns-then-is_key-clause-ok
returns-then-is_key-clause-ok c = c.idle.ensures.plane ∙ sym (round_idles _ c.args.key.now (sym c.is_key.ensures ∙ c.if-is_key.true) (c.touched.ensures.rest c.if-touched.false))

pub returns-then-is_key-clause-works : goal.returns-then-is_key-clause-works
returns-then-is_key-clause-works c = idle_works c.args.self.now c.idle.new.self c.args.key.now c.idle.ensures.plane c.idle.ensures.looks c.idle.ensures.turns

pub returns-then-is_key-clause-calm : goal.returns-then-is_key-clause-calm
returns-then-is_key-clause-calm c = λ off. calm_idles c.args.self.now c.idle.new.self c.args.key.now c.idle.ensures.plane c.idle.ensures.marks c.idle.ensures.looks

pub returns-else-is_key-clause-ok : goal.returns-else-is_key-clause-ok
returns-else-is_key-clause-ok c = round_off _ c.args.key.now (sym c.is_key.ensures ∙ c.if-is_key.false)

pub returns-else-is_key-clause-works : goal.returns-else-is_key-clause-works
returns-else-is_key-clause-works c = rests _ _ refl refl refl

pub returns-else-is_key-clause-calm : goal.returns-else-is_key-clause-calm
returns-else-is_key-clause-calm c = λ off. calm_same _ _ refl refl refl
