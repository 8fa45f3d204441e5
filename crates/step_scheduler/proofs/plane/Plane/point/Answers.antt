use Rattle.std.proofs.Common.{Some, ap}
use Rattle.step_scheduler.proofs.Events.{cursor_moves}
use Rattle.step_scheduler.proofs.plane.Plane.point.Goals as goal

pub invariant_of-self : goal.invariant_of-self
invariant_of-self c = record {
  slots =
      let p = c.self.inside in
      cursor_moves p.settings p.store.entries p.moment p.slots p.cursor c.self.invariant.slots (Some c.args.key);
  marked = c.self.invariant.marked;
}

pub returns-clause-plane : goal.returns-clause-plane
returns-clause-plane c = ap (λ v. record v.plane { cursor = Some c.args.key }) c.self.view_is
