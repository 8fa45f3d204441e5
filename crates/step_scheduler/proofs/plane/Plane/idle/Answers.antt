use Rattle.std.proofs.Common.{ap, ◌∙◌}
use Rattle.control_rules.specs.Slots.{idle_at}
use Rattle.step_scheduler.proofs.Steps.{idled, idled_is}
use Rattle.step_scheduler.proofs.plane.Plane.idle.Goals as goal

pub invariant_of-self : goal.invariant_of-self
invariant_of-self c = record {
  slots =
      let p = c.self.inside in
      idled p.settings p.store.entries p.moment p.slots p.cursor c.args.key.now c.self.invariant.slots c.idle.new.self c.idle.ensures;
  marked = c.self.invariant.marked;
}

pub returns-clause-plane : goal.returns-clause-plane
returns-clause-plane c =
    let p = c.self.inside in
    idled_is p.settings p.store.entries p.moment p.slots p.cursor c.args.key.now c.self.invariant.slots c.idle.new.self c.idle.ensures
    ∙ ap (λ v. record v.plane { slots = idle_at c.args.key.now v.plane.slots }) c.self.view_is
